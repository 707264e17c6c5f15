-- A label whose count is 0 adds nothing to a coefficient, so a fold over the other labels has the same result.
use Rattle.std.proofs.Common.{◌≡◌, ◌≢◌, ℕ, zero, suc, ◌+◌, ◌<◌, Bool, true, false, not, ◌&&◌, if◌then◌else◌, List, ◌∷◌, length, None, Some, Option, slice_index_or, is_some, Ok, Err, Result, inl, inr, ap, refl, subst, sym, ◌∙◌, arith}
use Rattle.std.proofs.lemmas.Int.{ints}
use Rattle.std.specs.Prelude.{ℤ, pos, ◌<ℤ◌, unsigned_abs}
use Rattle.std.specs.Ordering.{int_eq}
use Rattle.std.proofs.lemmas.Bool.{false≢true}
use Rattle.std.proofs.lemmas.Bool.Decides.{Decides-int_eq}
use Rattle.std.proofs.lemmas.List.Elements.{Contains-get_or}
use Rattle.std.specs.Prelude.{slice_index, Contains}
use Rattle.rg_integers.specs.Range.{InRange}
use Rattle.rg_integers.specs.Sum.{number_at}
use Rattle.rg_integers.specs.Term.{term_value}
use Rattle.rg_integers.proofs.Order.{positive_differs}
use Rattle.rg_integers.proofs.Values.{SameValue-trans, SameValue-sym}
use Rattle.rg_integers.specs.declared.term.Wide.{Wide}
use Rattle.rg_fraction.specs.Terms.{sum_top, sum_bottom}
use Rattle.rg_fraction.proofs.Forms.{sum-value, sum-positive}
use Rattle.rg_folds.specs.Fold.{further, Ratio, whole, IsRatio, IsWithin, add}
use Rattle.rg_fraction.proofs.Ones.{one_is_reduced}
use Rattle.rg_folds.specs.Substitution.{is_in, free_labels, dependent_term, numbers_where}
use Rattle.rg_cycles.specs.declared.basis.Basis.{Basis}
use Rattle.rg_cycles.specs.declared.relation.Relation.{Relation}
use Rattle.rg_cycles.specs.View.{labels_of, cycle_of, counted_labels}
use Rattle.rg_cycles.proofs.Labels.{FromWhere, where_from}
use Rattle.rg_cycles.proofs.Folding.{AddsOn, term_is, is_free}
use Rattle.rg_folds.proofs.FoldLemmas.{quotient_one}
use Rattle.rg_folds.proofs.Zeros.{some_quotient, passes_over, count_adds_nothing}

-- ---- sums within the range

same_ok : (x y : Ratio) → (r : Result Ratio Wide) → r ≡ Ok x → r ≡ Ok y → x ≡ y
same_ok x y r e f = cc (e, f)

-- a fraction of numbers in range has its numbers in range
ratio_within : (f : Ratio) (n d : ℤ) → InRange n → InRange d → IsRatio f n d → IsWithin f
ratio_within f n d hn hd is =
    let (k, h, within) = some_quotient n d is.nonzero hn hd in
    subst IsWithin (same_ok k f (Ok k) refl ((quotient_one n d).one (Ok k) (Ok f) h is)) within

-- a sum that isn't out of range has its numbers in range
sum_within : (f g h : Ratio) → pos 0 <ℤ f.bottom → pos 0 <ℤ g.bottom → add f g (Ok h) → IsWithin h
sum_within f g h hf hg (top, bottom, is) =
    ratio_within h n d top.difference bottom.difference (record {
      nonzero = positive_differs d positive;
      positive = is.positive;
      reduced = is.reduced;
      value = SameValue-trans h.top h.bottom _ _ n d is.nonzero is.value
          (SameValue-sym n d _ _ (sum-value f.top f.bottom g.top g.bottom));
    })
  where
    n : ℤ
    n = term_value (sum_top f.top f.bottom g.top g.bottom)

    d : ℤ
    d = term_value (sum_bottom f.top f.bottom g.top g.bottom)

    positive : pos 0 <ℤ d
    positive = sum-positive f.top f.bottom g.top g.bottom hf hg

-- ---- the labels that add something

-- the sum over the others is the sum over all, from any sum with numbers in range
abbrev Passes : (ℕ → Result Ratio Wide → Type 0) → List ℕ → List ℕ → Type 0
Passes make others all = (s : Ratio) (r : Result Ratio Wide) → IsWithin s → further add make s others r → further add make s all r

-- where a label that is left out is made to 0, the sum over the others is the sum over all
module _ (make : ℕ → Result Ratio Wide → Type 0) (positive : (t : ℕ) (x : Ratio) → make t (Ok x) → pos 0 <ℤ x.bottom) (counted among : ℕ → Bool) where
  pub counted_alone : (a n : ℕ) (sum : Ratio) (r : Result Ratio Wide) → IsWithin sum
      → ((t : ℕ) → t < a + n → among t ≡ true → counted t ≡ false → make t (Ok (whole (pos 0))))
      → further add make sum (numbers_where (λ t. counted t && among t) a n) r → further add make sum (numbers_where among a n) r
  counted_alone a zero sum r within none h = h
  counted_alone a (suc n) sum r within none h = go (counted a) (among a) refl refl r h (λ s r' v g. counted_alone (suc a) n s r' v later g)
    where
      later : (t : ℕ) → t < suc a + n → among t ≡ true → counted t ≡ false → make t (Ok (whole (pos 0)))
      later t lt = none t (omega arith)

      others : List ℕ
      others = numbers_where (λ t. counted t && among t) (suc a) n

      all : List ℕ
      all = numbers_where among (suc a) n

      with_first : (r : Result Ratio Wide) → further add make sum (a ∷ others) r → Passes make others all → further add make sum (a ∷ all) r
      with_first (Ok y) (x, made, (more, joins, rest)) next =
          (x, made, (more, joins, next more (Ok y) (sum_within sum x more within.positive (positive a x made) joins) rest))
      with_first (Err w) (inl made) next = inl made
      with_first (Err w) (inr (x, made, inl joins)) next = inr (x, made, inl joins)
      with_first (Err w) (inr (x, made, inr (more, joins, rest))) next =
          inr (x, made, inr (more, joins, next more (Err w) (sum_within sum x more within.positive (positive a x made) joins) rest))

      go : (b c : Bool) → counted a ≡ b → among a ≡ c → (r : Result Ratio Wide)
          → further add make sum (if b && c then (a ∷ others) else others) r → Passes make others all → further add make sum (if c then (a ∷ all) else all) r
      go true true e f r h next = with_first r h next
      go true false e f r h next = next sum r within h
      go false false e f r h next = next sum r within h
      go false true e f r h next = passes_over make a all sum r within (none a (omega arith) f e) (next sum r within h)

-- ---- the test

pub is_counted : (z : ℤ) (inside : Bool) → z ≢ pos 0 → inside ≡ false → (not (int_eq z (pos 0)) && not inside) ≡ true
is_counted z inside ne e = rw e (go (int_eq z (pos 0)) refl)
  where
    go : (b : Bool) → int_eq z (pos 0) ≡ b → (not b && true) ≡ true
    go true e = absurd (ne ((Decides-int_eq z (pos 0)).0 e))
    go false e = refl

pub is_zero : (z : ℤ) (inside : Bool) → z ≡ pos 0 → (not (int_eq z (pos 0)) && not inside) ≡ false
is_zero z inside e = rw ((Decides-int_eq z (pos 0)).1 e) refl

pub is_inside : (test inside : Bool) → inside ≡ true → (test && not inside) ≡ false
is_inside true inside e = ap not e
is_inside false inside e = refl

second_holds : (test inside : Bool) → (test && not inside) ≡ true → not inside ≡ true
second_holds true inside e = e
second_holds false inside e = absurd (false≢true e)

zero_left : (z : ℤ) → not (int_eq z (pos 0)) ≡ false → z ≡ pos 0
zero_left z e = (Decides-int_eq z (pos 0)).0 (go (int_eq z (pos 0)) e)
  where
    go : (b : Bool) → not b ≡ false → b ≡ true
    go true e = refl
    go false e = sym e

-- ---- the labels of a basis

module _ (basis : Basis) (counts : List ℤ) (index : ℕ) (lt : index < length (free_labels (labels_of basis) (cycle_of basis))) where
  abbrev f : ℕ
  f = slice_index (free_labels (labels_of basis) (cycle_of basis)) index

  -- a label that isn't free and whose count is 0 is made to 0
  nothing_added : (t : ℕ) → t < labels_of basis → not (is_in (cycle_of basis).members t) ≡ true → number_at counts t ≡ pos 0
      → dependent_term (cycle_of basis) (number_at counts) f t (Ok (whole (pos 0)))
  nothing_added t below outside none = go (slice_index_or basis.relations.items t None) refl
    where
      go : (o : Option Relation) → slice_index_or basis.relations.items t None ≡ o → dependent_term (cycle_of basis) (number_at counts) f t (Ok (whole (pos 0)))
      go None e = absurd (false≢true (ap is_some (sym e) ∙ basis.numbers.dependent t below ∙ outside))
      go (Some r) e =
          let within = basis.numbers.in_range t r e in
          term_is (labels_of basis) (cycle_of basis) counts t index r (pos 0) (Ok (whole (pos 0))) (basis.numbers.shown t r e) lt (sym none)
          (count_adds_nothing (number_at r.free.items index) r.d (positive_differs r.d within.positive) (within.free index) within.d)

  pub counted_start : (sum : Ratio) (others : List ℕ) → InRange (number_at counts f) → others ≡ counted_labels basis (number_at counts)
      → sum ≡ whole (number_at counts f) → AddsOn (labels_of basis) (cycle_of basis) counts f sum others
  counted_start sum others fits all e r h =
      counted_alone (dependent_term (cycle_of basis) (number_at counts) f) positive (λ t. not (int_eq (number_at counts t) (pos 0)))
      (λ t. not (is_in (cycle_of basis).members t)) 0 (labels_of basis) (whole (number_at counts f)) r within none
      (subst (λ x. further add (dependent_term (cycle_of basis) (number_at counts) f) x (counted_labels basis (number_at counts)) r) e
      (subst (λ l. further add (dependent_term (cycle_of basis) (number_at counts) f) sum l r) all h))
    where
      positive : (t : ℕ) (x : Ratio) → dependent_term (cycle_of basis) (number_at counts) f t (Ok x) → pos 0 <ℤ x.bottom
      positive t x (k, q, (top, bottom, is)) = is.positive

      within : IsWithin (whole (number_at counts f))
      within = record { positive = omega (arith, ints); reduced = one_is_reduced (unsigned_abs (number_at counts f)); top_in_range = fits; bottom_in_range = omega arith }

      none : (t : ℕ) → t < 0 + labels_of basis → not (is_in (cycle_of basis).members t) ≡ true → not (int_eq (number_at counts t) (pos 0)) ≡ false
          → dependent_term (cycle_of basis) (number_at counts) f t (Ok (whole (pos 0)))
      none t below outside e = nothing_added t (omega arith) outside (zero_left (number_at counts t) e)

-- one of these labels is a label, and no member
module _ (basis : Basis) (counts : List ℤ) (others : List ℕ) (i : ℕ) (all : others ≡ counted_labels basis (number_at counts)) (lt : i < length others) where
  among : FromWhere (λ t. not (int_eq (number_at counts t) (pos 0)) && not (is_in (cycle_of basis).members t)) 0 (labels_of basis) (slice_index others i)
  among = where_from (λ t. not (int_eq (number_at counts t) (pos 0)) && not (is_in (cycle_of basis).members t)) 0 (labels_of basis) (slice_index others i)
      (subst (λ l. Contains l (slice_index others i)) all (Contains-get_or others i 0 lt))

  pub other_below : slice_index others i < labels_of basis
  other_below = let b = among.below in omega arith

  pub other_outside : ¬ Contains (cycle_of basis).members (slice_index others i)
  other_outside has = false≢true (sym (is_free (cycle_of basis) (slice_index others i) has)
      ∙ second_holds (not (int_eq (number_at counts (slice_index others i)) (pos 0))) (is_in (cycle_of basis).members (slice_index others i)) among.passes)
