-- The numbers of a relation, read member by member.
use Rattle.std.proofs.lemmas.List.Elements.{Contains-get_or}
use Rattle.std.proofs.lemmas.List.{append-nil}
use Rattle.std.proofs.Common.{◌≡◌, ◌≢◌, ℕ, arith, ◌+◌, ◌-◌, ◌<◌, ◌≤◌, nat_lt, not, ◌&&◌, Contains, Bool, true, false, cond, List, [], ◌∷◌, ◌++◌, length, map, filter, take, ap, refl, sym, ◌∙◌}
use Rattle.std.specs.Prelude.{slice_index, ℤ, pos}
use Rattle.std.specs.Int.{w128, cast_unsigned}
use Rattle.std.specs.Ordering.{int_eq}
use Rattle.std.proofs.lemmas.Bool.Decides.{Decides-int_eq}
use Rattle.std.proofs.lemmas.List.{map-append}
use Rattle.std.proofs.lemmas.List.Elements.{filter_more}
use Rattle.rg_integers.specs.Range.{InRange}
use Rattle.rg_linear.proofs.Columns.{below_test, past_test}

-- one member more, which passes the test or doesn't
module _ {Y : Type 0} (f : ℕ → Y) (p : ℕ → Bool) (members : List ℕ) (i : ℕ) (out : List Y) (lt : i < length members) (so_far : out ≡ map f (filter p (take i members))) where
  one_more : (b : Bool) → p (slice_index members i) ≡ b → map f (filter p (take (i + 1) members)) ≡ out ++ map f (cond b (slice_index members i ∷ []) [])
  one_more b e = ap (map f) (filter_more p members i 0 lt ∙ ap (λ c. filter p (take i members) ++ cond c (slice_index members i ∷ []) []) e)
      ∙ map-append f (filter p (take i members)) (cond b (slice_index members i ∷ []) []) ∙ ap (λ l. l ++ map f (cond b (slice_index members i ∷ []) [])) (sym so_far)

  pub taken_more : p (slice_index members i) ≡ true → (y : Y) → y ≡ f (slice_index members i) → out ++ y ∷ [] ≡ map f (filter p (take (i + 1) members))
  taken_more e y is = ap (λ z. out ++ z ∷ []) is ∙ sym (one_more true e)

  pub left_more : p (slice_index members i) ≡ false → out ≡ map f (filter p (take (i + 1) members))
  left_more e = sym (append-nil out) ∙ sym (one_more false e)

-- ---- which members are chords with a number other than 0

-- what code tells of a number by its bits
pub differs_from_zero : (z : ℤ) → InRange z → (cast_unsigned w128 z ≡ 0 → ⊥) → z ≢ pos 0
differs_from_zero z h ne e = ne (ap (cast_unsigned w128) e)

module _ (labels m : ℕ) (z : ℤ) where
  pub is_chord : labels ≤ m → z ≢ pos 0 → (not (nat_lt m labels) && not (int_eq z (pos 0))) ≡ true
  is_chord past ne = rw (past_test m labels past) (go (int_eq z (pos 0)) refl)
    where
      go : (b : Bool) → int_eq z (pos 0) ≡ b → not b ≡ true
      go true e = absurd (ne ((Decides-int_eq z (pos 0)).0 e))
      go false e = refl

  pub is_label : m < labels → (not (nat_lt m labels) && not (int_eq z (pos 0))) ≡ false
  is_label below = rw (below_test m labels below) refl

  pub is_unused : z ≡ pos 0 → (not (nat_lt m labels) && not (int_eq z (pos 0))) ≡ false
  is_unused e = rw ((Decides-int_eq z (pos 0)).1 e) (go (nat_lt m labels))
    where
      go : (b : Bool) → (not b && not true) ≡ false
      go true = refl
      go false = refl

-- the index of a chord's row is below the number of rows
pub chord_within : (members : List ℕ) (labels rows p : ℕ) → p < length members → ((m : ℕ) → Contains members m → m < labels + rows)
    → labels ≤ slice_index members p → slice_index members p - labels < rows
chord_within members labels rows p lt all past = let h = all (slice_index members p) (Contains-get_or members p 0 lt) in omega arith
