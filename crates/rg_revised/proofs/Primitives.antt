-- The numbers of a primitive relation, one after the other.
use Rattle.std.proofs.Common.{◌≡◌, ℕ, zero, suc, ◌+◌, ◌<◌, List, [], ◌∷◌, ◌++◌, length, length-append, map, take, get_or, ap, ap₂, subst, sym, ◌∙◌, arith}
use Rattle.std.specs.Prelude.{ℤ, ◌*ℤ◌}
use Rattle.std.proofs.lemmas.List.{take_more, map-append}
use Rattle.rg_integers.specs.Range.{InRange}
use Rattle.rg_integers.specs.Sum.{number_at}
use Rattle.rg_linear.specs.Dictionary.{Relation}
use Rattle.rg_linear.specs.Exchange.{IsReduced}
use Rattle.rg_revised.specs.Held.{AreDistinct, relation_of}
use Rattle.rg_revised.specs.Settling.{IsCommonFactor}
use Rattle.rg_revised.proofs.Multipliers.{quotient_is, own_multiplier, slot_multiplier}

module _ (slots : List ℕ) (d : ℤ) (row : List ℤ) (width : length row ≡ length slots + 1) (factor : ℤ) (common : IsCommonFactor d row factor) (k : Relation) (distinct : AreDistinct slots)
    (reduced : IsReduced (relation_of slots d row) k) where
  pub d_shown : (z : ℤ) → factor *ℤ z ≡ d → z ≡ k.d
  d_shown z e = own_multiplier slots d row k distinct width reduced factor common z e

  pub constant_shown : (z : ℤ) → factor *ℤ z ≡ number_at row (length slots) → z ≡ k.constant
  constant_shown z e = quotient_is slots d row k distinct width reduced factor common (number_at row (length slots)) k.constant z reduced.constant e

  pub member_shown : (v : ℕ) (z : ℤ) → (s : ℕ) × (s < length slots) × (get_or slots s 0 ≡ v) × (factor *ℤ z ≡ number_at row s) → z ≡ k.coefficient v
  member_shown v z (s, lt, at, e) = slot_multiplier slots d row k distinct width reduced factor common s v z lt at e

pub shown_more : (f : ℕ → ℤ) (a b : ℤ) (members : List ℕ) (i : ℕ) (items : List ℤ) (z : ℤ) → i < length members → items ≡ a ∷ b ∷ map f (take i members) → z ≡ f (get_or members i 0)
    → items ++ z ∷ [] ≡ a ∷ b ∷ map f (take (i + 1) members)
shown_more f a b members i items z lt e is = ap₂ (λ (xs : List ℤ) (y : ℤ). xs ++ y ∷ []) e is
    ∙ ap (λ (xs : List ℤ). a ∷ b ∷ xs) (sym (map-append f (take i members) (get_or members i 0 ∷ [])) ∙ ap (map f) (sym (take_more members i 0 lt)))

pub range_more : (items : List ℤ) (z : ℤ) → ((n : ℕ) → InRange (number_at items n)) → InRange z → (n : ℕ) → InRange (number_at (items ++ z ∷ []) n)
range_more [] z each h zero = h
range_more [] z each h (suc n) = omega arith
range_more (x ∷ xs) z each h zero = each 0
range_more (x ∷ xs) z each h (suc n) = range_more xs z (λ m. each (suc m)) h n

-- the first two numbers are pushed
pub first_shown : (start one two : List ℤ) (a b : ℤ) → start ≡ [] → one ≡ start ++ a ∷ [] → two ≡ one ++ b ∷ [] → two ≡ a ∷ b ∷ []
first_shown start one two a b none first second = second ∙ ap (λ (xs : List ℤ). xs ++ b ∷ []) (first ∙ ap (λ (xs : List ℤ). xs ++ a ∷ []) none)

pub range_two : (items : List ℤ) (a b : ℤ) → items ≡ a ∷ b ∷ [] → InRange a → InRange b → (n : ℕ) → InRange (number_at items n)
range_two items a b e ha hb n = subst (λ xs. InRange (number_at xs n)) (sym e) (go n)
  where
    go : (n : ℕ) → InRange (number_at (a ∷ b ∷ []) n)
    go zero = ha
    go (suc zero) = hb
    go (suc (suc n)) = omega arith

pub length_more : (old new : List ℤ) (z : ℤ) (i : ℕ) → new ≡ old ++ z ∷ [] → length old ≡ i + 2 → length new ≡ i + 1 + 2
length_more old new z i e is = let l = ap length e ∙ length-append old (z ∷ []) in omega arith
