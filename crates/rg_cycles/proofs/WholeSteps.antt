-- Steps of the sum for a free label in whole numbers.
use Rattle.std.proofs.Common.{◌≡◌, ◌≢◌, ◌⊎◌, inl, inr, ℕ, suc, ◌+◌, ◌<◌, ◌≤◌, List, [], ◌∷◌, ◌++◌, map, length, take, drop, Option, None, Some, Result, Ok, ap, refl, subst, sym, add-one, ◌∙◌, arith}
use Rattle.std.specs.Prelude.{ℤ, pos, neg_ℤ, ◌+ℤ◌, ◌-ℤ◌, ◌*ℤ◌, unsigned_abs, int_div, slice_index, slice_set, FitsSigned, SomeIff, IfSome, IfNone}
use Rattle.std.specs.Int.{w64}
use Rattle.std.proofs.Math.Nat.{eq-or-lt_of_le}
use Rattle.std.proofs.lemmas.List.{drop_all, take_all, append-nil, length-set, get_or-set_same, get_or-set_other, get_or-map}
use Rattle.std.proofs.lemmas.Int.{ints}
use Rattle.rg_integers.specs.Range.{InRange}
use Rattle.rg_integers.specs.Sum.{number_at, sum_below}
use Rattle.rg_integers.specs.Term.{FitsTerm}
use Rattle.rg_integers.proofs.Short.{short_in_range}
use Rattle.rg_integers.specs.Divisor.{int_gcd}
use Rattle.rg_integers.specs.declared.term.Wide.{Wide}
use Rattle.rg_fraction.specs.Terms.{product_term, product_top, product_bottom, sum_top, sum_bottom}
use Rattle.rg_fraction.proofs.Ones.{one_is_reduced, first_part, second_part}
use Rattle.rg_folds.specs.Fold.{and_then, each, whole, IsRatio, quotient, add, mul}
use Rattle.rg_folds.specs.Substitution.{free_labels, dependent_term}
use Rattle.rg_cycles.specs.declared.basis.Basis.{Basis}
use Rattle.rg_cycles.specs.declared.relation.Relation.{Relation}
use Rattle.rg_cycles.specs.Basis.{ShowsRelation}
use Rattle.rg_cycles.specs.View.{labels_of, cycle_of, counted_labels}
use Rattle.rg_cycles.specs.WholeSums.{IsWholeStep, StaysShort, LabelIsShort, AreShort, numbers_of_label, sum_after}
use Rattle.rg_cycles.proofs.Folding.{stepped}

-- ---- whole numbers as ratios

whole_is_ratio : (z n d : ℤ) → d ≡ pos 1 → n ≡ z → IsRatio (whole z) n d
whole_is_ratio z n d e f = record {
  nonzero = differs d e;
  positive = omega (arith, ints);
  reduced = one_is_reduced (unsigned_abs z);
  value = same z n d e f;
}
  where
    differs : (d : ℤ) → d ≡ pos 1 → d ≢ pos 0
    differs d e none = omega (arith, ints)

    same : (z n d : ℤ) → d ≡ pos 1 → n ≡ z → z *ℤ d ≡ n *ℤ pos 1
    same z n d e f = rw (e, f) refl

product_fits : (a b : ℤ) → InRange (a *ℤ b) → FitsTerm (product_term a b)
product_fits a b h = record { left = h; right = omega arith; difference = less_none (a *ℤ b) h }
  where
    less_none : (z : ℤ) → InRange z → InRange (z -ℤ (pos 0 *ℤ pos 0))
    less_none z h = omega (arith, ints)

-- n over 1
over_one : (n : ℤ) → quotient n (pos 1) (Ok (whole n))
over_one n = whole_is_ratio n n (pos 1) refl refl

-- the product of whole numbers
pub whole_times : (c n : ℤ) → InRange (c *ℤ n) → mul (whole c) (whole n) (Ok (whole (c *ℤ n)))
whole_times c n h = (top, bottom, whole_is_ratio (c *ℤ n) (c *ℤ n) (pos 1 *ℤ pos 1) refl refl)
  where
    top : FitsTerm (product_top c (pos 1) n (pos 1))
    top = subst (λ x. FitsTerm (product_term x (int_div n (int_gcd n (pos 1))))) (sym (first_part c))
        (subst (λ x. FitsTerm (product_term c x)) (sym (first_part n)) (product_fits c n h))

    bottom : FitsTerm (product_bottom c (pos 1) n (pos 1))
    bottom = subst (λ x. FitsTerm (product_term x (int_div (pos 1) (int_gcd c (pos 1))))) (sym (second_part n))
        (subst (λ x. FitsTerm (product_term (pos 1) x)) (sym (second_part c)) (product_fits (pos 1) (pos 1) (omega arith)))

-- the sum of whole numbers
pub whole_plus : (s p : ℤ) → InRange s → InRange p → InRange (s +ℤ p) → add (whole s) (whole p) (Ok (whole (s +ℤ p)))
whole_plus s p hs hp h = (top, bottom, whole_is_ratio (s +ℤ p) ((s *ℤ pos 1) +ℤ (p *ℤ pos 1)) (pos 1 *ℤ pos 1) refl (same s p))
  where
    same : (s p : ℤ) → (s *ℤ pos 1) +ℤ (p *ℤ pos 1) ≡ s +ℤ p
    same s p = omega (arith, ints)

    left : (s : ℤ) → InRange s → InRange (s *ℤ pos 1)
    left s h = omega (arith, ints)

    right : (p : ℤ) → InRange p → InRange (neg_ℤ p *ℤ pos 1)
    right p h = omega (arith, ints)

    difference : (s p : ℤ) → InRange (s +ℤ p) → InRange ((s *ℤ pos 1) -ℤ (neg_ℤ p *ℤ pos 1))
    difference s p h = omega (arith, ints)

    top : FitsTerm (sum_top s (pos 1) p (pos 1))
    top = subst (λ x. FitsTerm (record { a = s; b = x; c = neg_ℤ p; d = x })) (sym (second_part (pos 1)))
        (record { left = left s hs; right = right p hp; difference = difference s p h })

    bottom : FitsTerm (sum_bottom s (pos 1) p (pos 1))
    bottom = subst (λ x. FitsTerm (product_term x (pos 1))) (sym (second_part (pos 1))) (product_fits (pos 1) (pos 1) (omega arith))

-- ---- one step

-- what the count times a number over 1 adds to a sum
pub step_told : (count number sum next : ℤ) → IsWholeStep count number sum next
    → and_then (and_then (quotient number (pos 1)) (mul (whole count))) (add (whole sum)) (Ok (whole next))
step_told count number sum next h = (
  whole (count *ℤ number),
  (whole number, over_one number, whole_times count number h.product_in_range),
  subst (λ z. add (whole sum) (whole (count *ℤ number)) (Ok (whole z))) (sym h.is)
      (whole_plus sum (count *ℤ number) h.sum_in_range h.product_in_range (subst InRange h.is h.next_in_range)),
)

-- ---- all indices

-- items that are made one by one are made in order
pub each_of_all : {X : Type 0} (make : ℕ → Result X Wide → Type 0) (items : List ℕ) (show : ℤ → X) (numbers : List ℤ)
    → length numbers ≡ length items → ((n : ℕ) → n < length items → make (slice_index items n) (Ok (show (number_at numbers n)))) → each make items (Ok (map show numbers))
each_of_all make [] show [] same made = refl
each_of_all make [] show (z ∷ numbers) same made = absurd (omega arith)
each_of_all make (a ∷ items) show [] same made = absurd (omega arith)
each_of_all make (a ∷ items) show (z ∷ numbers) same made =
    (show z, made 0 (omega arith), (map show numbers, each_of_all make items show numbers (omega arith) (λ n lt. made (suc n) (omega arith)), refl))

-- ---- numbers of 64 bits

-- the sum and the product, where both fit
pub step_of_words : (count number sum given product : ℤ) (r : Option ℤ) → given ≡ number → FitsSigned w64 sum → FitsSigned w64 (count *ℤ given) → product ≡ count *ℤ given
    → SomeIff r (FitsSigned w64 (sum +ℤ product)) (sum +ℤ product) → IfSome r (IsWholeStep count number sum)
step_of_words count number sum given product None same fits words is h = tt
step_of_words count number sum given product (Some z) same fits words is (next_fits, value) = record {
  is = value ∙ ap (λ p. sum +ℤ p) (is ∙ ap (λ n. count *ℤ n) same);
  sum_in_range = short_in_range sum fits;
  product_in_range = subst (λ n. InRange (count *ℤ n)) same (short_in_range (count *ℤ given) words);
  next_in_range = subst InRange (sym value) (short_in_range (sum +ℤ product) next_fits);
}

-- the numbers up to an index are added, and the sums from there on are as before
pub record AddsBelow (count : ℤ) (numbers before sums : List ℤ) (index : ℕ) : Type 0 where
  pub one_each : length sums ≡ length before
  pub added : (n : ℕ) → n < index → IsWholeStep count (number_at numbers n) (number_at before n) (number_at sums n)
  pub left : (n : ℕ) → index ≤ n → number_at sums n ≡ number_at before n

pub adds_next : (count : ℤ) (numbers before sums : List ℤ) (index : ℕ) (next : ℤ) → AddsBelow count numbers before sums index → index < length sums
    → IsWholeStep count (number_at numbers index) (number_at sums index) next → AddsBelow count numbers before (slice_set sums index next) (index + 1)
adds_next count numbers before sums index next h lt step = record {
  one_each = length-set _ _ _ ∙ h.one_each;
  added = λ n below. go n (eq-or-lt_of_le (omega arith));
  left = λ n above. get_or-set_other sums index n next (pos 0) (omega arith) ∙ h.left n (omega arith);
}
  where
    go : (n : ℕ) → (n ≡ index) ⊎ (n < index) → IsWholeStep count (number_at numbers n) (number_at before n) (number_at (slice_set sums index next) n)
    go n (inr below) = subst (IsWholeStep count (number_at numbers n) (number_at before n)) (sym (get_or-set_other sums index n next (pos 0) (omega arith))) (h.added n below)
    go n (inl same) = subst (λ m. IsWholeStep count (number_at numbers m) (number_at before m) (number_at (slice_set sums index next) m)) (sym same)
        (subst (IsWholeStep count (number_at numbers index) (number_at before index)) (sym (get_or-set_same sums index next (pos 0) lt))
        (subst (λ s. IsWholeStep count (number_at numbers index) s next) (h.left index (omega arith)) step))

-- ---- a label

-- what a label whose relation is in whole numbers adds to the coefficient of a free label
pub label_added : (basis : Basis) (counts : List ℤ) (t n : ℕ) (rel : Relation) (count sum next : ℤ) → ShowsRelation (labels_of basis) (cycle_of basis) t rel
    → n < length (free_labels (labels_of basis) (cycle_of basis)) → count ≡ number_at counts t → rel.d ≡ pos 1 → IsWholeStep count (number_at rel.free.items n) sum next
    → and_then (dependent_term (cycle_of basis) (number_at counts) (slice_index (free_labels (labels_of basis) (cycle_of basis)) n) t) (add (whole sum)) (Ok (whole next))
label_added basis counts t n rel count sum next shows lt same d step =
    stepped (labels_of basis) (cycle_of basis) counts t n rel count (whole sum) (Ok (whole next)) shows lt same
    (subst (λ z. and_then (and_then (quotient (number_at rel.free.items n) z) (mul (whole count))) (add (whole sum)) (Ok (whole next))) (sym d)
    (step_told count (number_at rel.free.items n) sum next step))

-- ---- lists

-- the items of a list that was written whole
pub written_back : (written before : List ℤ) (n : ℕ) → length written ≡ length before → n ≡ length before → take n (written ++ drop (length written) before) ≡ written
written_back written before n same is =
    ap (λ rest. take n (written ++ rest)) (drop_all (length written) before (omega arith))
    ∙ ap (take n) (append-nil written)
    ∙ take_all n written (omega arith)

-- ---- numbers that are 0

pub zero_step : (count number sum : ℤ) → number ≡ pos 0 → InRange sum → IsWholeStep count number sum sum
zero_step count number sum none in_range = subst (λ n. IsWholeStep count n sum sum) (sym none) (record {
  is = kept sum count;
  sum_in_range = in_range;
  product_in_range = small count;
  next_in_range = in_range;
})
  where
    kept : (sum count : ℤ) → sum ≡ sum +ℤ (count *ℤ pos 0)
    kept sum count = omega (arith, ints)

    small : (count : ℤ) → InRange (count *ℤ pos 0)
    small count = subst InRange (sym (none_of count)) (omega arith)
      where
        none_of : (count : ℤ) → count *ℤ pos 0 ≡ pos 0
        none_of count = omega (arith, ints)

-- ---- the sums of the labels before one

-- one more label adds its count times its number
pub sum_more : (basis : Basis) (counts : ℕ → ℤ) (labels : List ℕ) (k n : ℕ)
    → sum_after basis counts labels (k + 1) n ≡ sum_after basis counts labels k n +ℤ (counts (slice_index labels k) *ℤ numbers_of_label basis (slice_index labels k) n)
sum_more basis counts labels k n =
    subst (λ m. sum_after basis counts labels m n ≡ sum_after basis counts labels k n +ℤ (counts (slice_index labels k) *ℤ numbers_of_label basis (slice_index labels k) n)) (sym (add-one k))
    (joined (counts (slice_index (free_labels (labels_of basis) (cycle_of basis)) n)) (sum_below k (λ i. counts (slice_index labels i) *ℤ numbers_of_label basis (slice_index labels i) n))
    (counts (slice_index labels k) *ℤ numbers_of_label basis (slice_index labels k) n))
  where
    joined : (a s x : ℤ) → a +ℤ (s +ℤ x) ≡ (a +ℤ s) +ℤ x
    joined a s x = omega (arith, ints)

-- before any label the sum is the count
pub sum_none : (basis : Basis) (counts : ℕ → ℤ) (labels : List ℕ) (n : ℕ)
    → counts (slice_index (free_labels (labels_of basis) (cycle_of basis)) n) ≡ sum_after basis counts labels 0 n
sum_none basis counts labels n = alone (counts (slice_index (free_labels (labels_of basis) (cycle_of basis)) n))
  where
    alone : (a : ℤ) → a ≡ a +ℤ pos 0
    alone a = omega (arith, ints)

-- at label k the sums are those after the labels before it
pub label_is_short : (basis : Basis) (counts : ℕ → ℤ) (others : List ℕ) (k : ℕ) (sums : List ℤ) → others ≡ counted_labels basis counts → AreShort basis counts → k < length others
    → length sums ≡ length (free_labels (labels_of basis) (cycle_of basis)) → ((n : ℕ) → n < length sums → number_at sums n ≡ sum_after basis counts others k n)
    → LabelIsShort basis counts (slice_index others k) sums
label_is_short basis counts others k sums all short lt same is = subst (λ l. LabelIsShort basis counts (slice_index l k) sums) (sym all) (record {
  count = short.count k here;
  whole = short.whole k here;
  terms = λ n below. subst (StaysShort (counts (slice_index (counted_labels basis counts) k)) (numbers_of_label basis (slice_index (counted_labels basis counts) k) n)) (sym (at n below))
      (short.terms k n here (subst (λ m. n < m) same below));
})
  where
    here : k < length (counted_labels basis counts)
    here = subst (λ l. k < length l) all lt

    at : (n : ℕ) → n < length sums → number_at sums n ≡ sum_after basis counts (counted_labels basis counts) k n
    at n below = is n below ∙ ap (λ l. sum_after basis counts l k n) all

-- the numbers of a relation are those of its label
pub label_numbers : (basis : Basis) (t n : ℕ) (rel : Relation) → ShowsRelation (labels_of basis) (cycle_of basis) t rel → n < length (free_labels (labels_of basis) (cycle_of basis))
    → number_at rel.free.items n ≡ numbers_of_label basis t n
label_numbers basis t n rel shows lt =
    ap (λ l. number_at l n) shows.free ∙ get_or-map ((cycle_of basis).relation t).coefficient (free_labels (labels_of basis) (cycle_of basis)) n 0 (pos 0) lt

-- what a checked step doesn't return doesn't fit
pub none_fits : {P Q : Type 0} (r : Option ℤ) (v : ℤ) → SomeIff r P v → (Q → P) → IfNone r (¬ Q)
none_fits None v is fits = λ q. is (fits q)
none_fits (Some z) v is fits = tt

-- the same count and number have the same step
pub short_as : {count k number m : ℤ} (sum : ℤ) → count ≡ k → number ≡ m → StaysShort k m sum → StaysShort count number sum
short_as {count} {k} {number} {m} sum e f short = subst (λ c. StaysShort c number sum) (sym e) (subst (λ n. StaysShort k n sum) (sym f) short)

pub step_as : {count k number m next : ℤ} (sum : ℤ) → count ≡ k → number ≡ m → next ≡ sum +ℤ (count *ℤ number) → next ≡ sum +ℤ (k *ℤ m)
step_as {count} {k} {number} {m} sum e f is = is ∙ ap (λ x. sum +ℤ x) (ap (λ c. c *ℤ number) e ∙ ap (λ n. k *ℤ n) f)
