-- The steps of a fold over labels.
use Rattle.std.proofs.lemmas.List.Elements.{Contains-get_or}
use Rattle.std.proofs.lemmas.List.{drop_all, get_or-map}
use Rattle.std.proofs.Common.{◌≡◌, ◌≢◌, ℕ, ◌+◌, ◌<◌, ◌≤◌, true, false, not, Contains, List, [], ◌∷◌, ◌++◌, length, drop, Result, Ok, Err, ap, refl, subst, sym, ◌∙◌, inl, inr, arith, add-one}
use Rattle.std.specs.Prelude.{ℤ, pos, slice_index}
use Rattle.std.proofs.Math.Seq.{drop-cons}
use Rattle.rg_integers.specs.declared.term.Wide.{Wide}
use Rattle.rg_fraction.specs.declared.fraction.Fraction.{Fraction}
use Rattle.rg_fraction.specs.Fractions.{numerator_of, denominator_of, IsValue, IsProduct}
use Rattle.rg_folds.specs.Fold.{and_then, each, further, Ratio, whole, ratio_of, shown_result, quotient, add, mul}
use Rattle.rg_folds.specs.Substitution.{is_in, free_labels, dependent_term, coefficient_fold}
use Rattle.rg_integers.specs.Sum.{number_at}
use Rattle.rg_linear.specs.Cycle.{CycleBasis}
use Rattle.rg_cycles.specs.declared.relation.Relation.{Relation}
use Rattle.rg_cycles.specs.Basis.{ShowsRelation}
use Rattle.rg_cycles.proofs.Labels.{in_set, not_in_set, where_from}
use Rattle.rg_folds.proofs.FoldLemmas.{new_step, mul_step}
use Rattle.rg_folds.proofs.Folding.{whole_is, further_next, further_unmade, further_unjoined, behind, each_next, each_fails, each_ends}

pub term_told : (n d count : ℤ) (share own : Fraction) (r : Result Fraction Wide) → d ≢ pos 0 → IsValue share n d → IsValue own count (pos 1)
    → IsProduct (numerator_of own) (denominator_of own) (numerator_of share) (denominator_of share) r
    → and_then (quotient n d) (mul (whole count)) (shown_result ratio_of r)
term_told n d count share own r ne v w p = go r (subst (λ f. mul f (ratio_of share) (shown_result ratio_of r)) (whole_is own count w) (mul_step own share r p))
  where
    go : (r : Result Fraction Wide) → mul (whole count) (ratio_of share) (shown_result ratio_of r) → and_then (quotient n d) (mul (whole count)) (shown_result ratio_of r)
    go (Ok h) m = (ratio_of share, new_step share n d ne v, m)
    go (Err w) m = inr (ratio_of share, new_step share n d ne v, m)

-- ---- labels

-- what a label that is not free adds, by the numbers that its relation shows
pub term_is : (labels : ℕ) (cycle : CycleBasis) (counts : List ℤ) (t index : ℕ) (r : Relation) (count : ℤ) (res : Result Ratio Wide)
    → ShowsRelation labels cycle t r → index < length (free_labels labels cycle) → count ≡ number_at counts t
    → and_then (quotient (number_at r.free.items index) r.d) (mul (whole count)) res → dependent_term cycle (number_at counts) (slice_index (free_labels labels cycle) index) t res
term_is labels cycle counts t index r count res shows lt same h =
    subst (λ z. and_then (quotient ((cycle.relation t).coefficient (slice_index (free_labels labels cycle) index)) (cycle.relation t).d) (mul (whole z)) res) same
    (subst (λ z. and_then (quotient z (cycle.relation t).d) (mul (whole count)) res) number
    (subst (λ z. and_then (quotient (number_at r.free.items index) z) (mul (whole count)) res) shows.d h))
  where
    number : number_at r.free.items index ≡ (cycle.relation t).coefficient (slice_index (free_labels labels cycle) index)
    number = ap (λ l. number_at l index) shows.free ∙ get_or-map (cycle.relation t).coefficient (free_labels labels cycle) index 0 (pos 0) lt

pub is_dependent : (cycle : CycleBasis) (t : ℕ) → ¬ Contains cycle.members t → not (is_in cycle.members t) ≡ true
is_dependent cycle t lacks = ap not (not_in_set cycle.members t lacks)

pub is_free : (cycle : CycleBasis) (t : ℕ) → Contains cycle.members t → not (is_in cycle.members t) ≡ false
is_free cycle t has = ap not (in_set cycle.members t has)

-- a free label is a label
pub free_below : (labels : ℕ) (cycle : CycleBasis) (index : ℕ) → index < length (free_labels labels cycle) → slice_index (free_labels labels cycle) index < labels
free_below labels cycle index lt = let w = where_from (λ t. is_in cycle.members t) 0 labels (slice_index (free_labels labels cycle) index)
    (Contains-get_or (free_labels labels cycle) index 0 lt) in let b = w.below in omega arith

-- ---- the coefficient of a free label, label by label

-- what is left to add leads to the coefficient
abbrev pub AddsOn : ℕ → CycleBasis → List ℤ → ℕ → Ratio → List ℕ → Type 0
AddsOn labels cycle counts f sum left = (r : Result Ratio Wide) → further add (dependent_term cycle (number_at counts) f) sum left r → coefficient_fold labels cycle (number_at counts) f r

module _ (labels : ℕ) (cycle : CycleBasis) (counts : List ℤ) (f : ℕ) (sum : Ratio) (others : List ℕ) (i : ℕ) (leads : AddsOn labels cycle counts f sum (drop i others)) where
  pub leads_end : length others ≤ i → coefficient_fold labels cycle (number_at counts) f (Ok sum)
  leads_end past = leads (Ok sum) (subst (λ l. further add (dependent_term cycle (number_at counts) f) sum l (Ok sum)) (sym (drop_all i others past)) refl)

  module _ (lt : i < length others) where
    at : (r : Result Ratio Wide) → further add (dependent_term cycle (number_at counts) f) sum (slice_index others i ∷ drop (i + 1) others) r → coefficient_fold labels cycle (number_at counts) f r
    at r h = leads r (subst (λ l. further add (dependent_term cycle (number_at counts) f) sum l r) (sym (drop-cons others i 0 lt ∙ ap (λ n. slice_index others i ∷ drop n others) (sym (add-one i)))) h)

    -- what the label adds to the sum, in one step
    pub leads_with : (s : Ratio) → and_then (dependent_term cycle (number_at counts) f (slice_index others i)) (add sum) (Ok s) → AddsOn labels cycle counts f s (drop (i + 1) others)
    leads_with s (x, made, joins) r h = at r (further_next add (dependent_term cycle (number_at counts) f) (slice_index others i) (drop (i + 1) others) sum x s made joins r h)

    pub passes_with : (w : Wide) → and_then (dependent_term cycle (number_at counts) f (slice_index others i)) (add sum) (Err w) → coefficient_fold labels cycle (number_at counts) f (Err w)
    passes_with w (inl made) = at (Err w) (further_unmade add (dependent_term cycle (number_at counts) f) (slice_index others i) (drop (i + 1) others) sum w made)
    passes_with w (inr (x, made, joins)) = at (Err w) (further_unjoined add (dependent_term cycle (number_at counts) f) (slice_index others i) (drop (i + 1) others) sum x w made joins)

-- what a label adds to a sum, by the numbers that its relation shows
pub stepped : (labels : ℕ) (cycle : CycleBasis) (counts : List ℤ) (t index : ℕ) (rel : Relation) (count : ℤ) (sum : Ratio) (r : Result Ratio Wide)
    → ShowsRelation labels cycle t rel → index < length (free_labels labels cycle) → count ≡ number_at counts t
    → and_then (and_then (quotient (number_at rel.free.items index) rel.d) (mul (whole count))) (add sum) r
    → and_then (dependent_term cycle (number_at counts) (slice_index (free_labels labels cycle) index) t) (add sum) r
stepped labels cycle counts t index rel count sum (Ok y) shows lt same (x, made, joins) = (x, term_is labels cycle counts t index rel count (Ok x) shows lt same made, joins)
stepped labels cycle counts t index rel count sum (Err w) shows lt same (inl made) = inl (term_is labels cycle counts t index rel count (Err w) shows lt same made)
stepped labels cycle counts t index rel count sum (Err w) shows lt same (inr (x, made, joins)) = inr (x, term_is labels cycle counts t index rel count (Ok x) shows lt same made, joins)

-- ---- the coefficients, index by index

module _ {X : Type 0} (make : ℕ → Result X Wide → Type 0) (all : List ℕ) (i : ℕ) (xs : List X) (so_far : (r : Result (List X) Wide) → each make (drop i all) r → each make all (behind xs r)) where
  at_index : i < length all → (r : Result (List X) Wide) → each make (slice_index all i ∷ drop (i + 1) all) r → each make all (behind xs r)
  at_index lt r h = so_far r (subst (λ l. each make l r) (sym (drop-cons all i 0 lt ∙ ap (λ n. slice_index all i ∷ drop n all) (sym (add-one i)))) h)

  pub index_next : i < length all → (x : X) → make (slice_index all i) (Ok x) → (r : Result (List X) Wide) → each make (drop (i + 1) all) r → each make all (behind (xs ++ x ∷ []) r)
  index_next lt x made = each_next make all (slice_index all i) (drop (i + 1) all) xs (at_index lt) x made

  pub index_fails : i < length all → (w : Wide) → make (slice_index all i) (Err w) → each make all (Err w)
  index_fails lt w made = each_fails make all (slice_index all i) (drop (i + 1) all) xs (at_index lt) w made

  pub indices_end : length all ≤ i → each make all (Ok xs)
  indices_end past = each_ends make all xs (λ r h. so_far r (subst (λ l. each make l r) (sym (drop_all i all past)) h))
