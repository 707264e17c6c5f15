-- The numbers of chords, as code finds them.
use Rattle.std.proofs.Common.{drop, ◌≡◌, ◌≢◌, ⊎_elim, inl, inr, ℕ, suc, ◌+◌, ◌-◌, ◌<◌, ◌≤◌, ◌==◌, ◌&&◌, not, nat_lt, Bool, true, false, if◌then◌else◌, List, [], ◌∷◌, map, filter, length, Contains, All, Result, Ok, Err, ap, ap₂, refl, subst, sym, ◌∙◌, arith, eq-eqb, ne_eqb}
use Rattle.std.specs.Prelude.{ℤ, pos, neg_ℤ, slice_index, slice_index_or}
use Rattle.std.specs.Ordering.{int_eq}
use Rattle.std.proofs.lemmas.Bool.{cases_Bool, cases_eq, cases_lt, false≢true}
use Rattle.std.proofs.lemmas.Bool.Decides.{Decides-int_eq}
use Rattle.rg_linear.specs.Dictionary.{Relation as LinearRelation}
use Rattle.rg_linear.specs.Cycle.{vector_at, IsZeroVector, vector_system, CycleBasis, IsCycleBasis}
use Rattle.rg_linear.proofs.Columns.{below_test, past_test}
use Rattle.rg_linear.proofs.Cycles.{cycle_set_knows}
use Rattle.rg_integers.proofs.Order.{positive_differs}
use Rattle.rg_integers.proofs.Divisors.{IsGcd-neg_first}
use Rattle.rg_integers.specs.declared.term.Wide.{Wide}
use Rattle.rg_fraction.specs.declared.fraction.Fraction.{Fraction}
use Rattle.rg_fraction.specs.Fractions.{numerator_of, denominator_of, IsValue, IsProduct}
use Rattle.rg_folds.specs.Fold.{and_then, further, joined, Ratio, whole, ratio_of, shown_result, quotient, add, mul}
use Rattle.rg_case_folds.specs.Placing.{negated}
use Rattle.rg_folds.proofs.FoldLemmas.{ratio_one, new_step, mul_step}
use Rattle.rg_cycles.specs.declared.relation.Relation.{Relation}
use Rattle.rg_cycles.specs.Basis.{ShowsRelation, number_with}
use Rattle.rg_cycles.proofs.Labels.{filter_has, filter_from}
use Rattle.rg_farkas.specs.View.{LabelCount, counted_of, count_fold, counts_fold}
use Rattle.rg_farkas.specs.declared.multiplied.Counted.{Counted}
use Rattle.rg_farkas.proofs.Steps.{sum_next, sum_unmade, sum_unjoined, sum_ends}
use Rattle.rg_folds.proofs.Folding.{whole_is}
use Rattle.rg_cycles.proofs.AddsNothing.{times_none, number_adds_nothing}
use Rattle.rg_folds.proofs.Zeros.{count_adds_nothing}
use Rattle.rg_integers.specs.Range.{InRange}
use Rattle.std.proofs.lemmas.List.{length-map, get_or-map}
use Rattle.rg_theory.proofs.Lists.{Contains-cons_cases}
use Rattle.std.proofs.lemmas.List.Elements.{Contains-get_or, All-from_get_or, All-head, All-tail}
use Rattle.rg_theory.specs.System.{System, labels}
use Rattle.rg_folds.specs.Substitution.{is_in}
use Rattle.rg_case_folds.specs.Spreading.{used_chords}
use Rattle.rg_case_folds.proofs.Lists.{where_is}
use Rattle.rg_case_folds.proofs.PointEffects.{in_has}
use Rattle.rg_farkas.proofs.Distinct.{kept_rises}

-- ---- the number at an index

-- the pairs of members, found by the index of the vector
module _ (labels : ℕ) (kept : List ℕ) (k : LinearRelation) (c : ℕ) (rises : (i j : ℕ) → i < j → j < length kept → slice_index kept i < slice_index kept j) (within : c < length kept) where
  other_index : (m : ℕ) → labels ≤ m → m - labels < length kept → m ≢ labels + c → (slice_index kept (m - labels) == slice_index kept c) ≡ false
  other_index m le lt ne = ne_eqb (slice_index kept (m - labels)) (slice_index kept c)
      (⊎_elim (λ below. (let h = rises (m - labels) c below within in λ e. omega arith))
      (λ past. (let h = rises c (m - labels) (omega arith) lt in λ e. omega arith)) (cases_lt (m - labels) c))

  number_found : (ms : List ℕ) → ((m : ℕ) → Contains ms m → (labels ≤ m) × (m - labels < length kept)) → Contains ms (labels + c)
      → number_with (map (λ m. (slice_index kept (m - labels), k.coefficient m)) ms) (slice_index kept c) ≡ k.coefficient (labels + c)
  number_found [] all has = absurd (nothing has)
    where
      nothing : Contains [] (labels + c) → ⊥
      nothing (i, lt, e) = omega arith
  number_found (m ∷ ms) all has = ⊎_elim
      (λ same. ap (λ b. if b then k.coefficient m else number_with (map (λ u. (slice_index kept (u - labels), k.coefficient u)) ms)
      (slice_index kept c)) (eq-eqb (slice_index kept (m - labels)) (slice_index kept c) (ap (slice_index kept) (index same))) ∙ ap k.coefficient same)
      (λ differ. ap (λ b. if b then k.coefficient m else number_with (map (λ u. (slice_index kept (u - labels), k.coefficient u)) ms) (slice_index kept c))
      (other_index m (all m (0, omega arith, refl)).0 (all m (0, omega arith, refl)).1 differ) ∙ number_found ms (λ u (i, lt, e). all u (suc i, omega arith, e))
      (⊎_elim (λ e. absurd (differ e)) (λ there. there) (Contains-cons_cases m (labels + c) ms has)))
      (cases_eq m (labels + c))
    where
      index : m ≡ labels + c → m - labels ≡ c
      index e = omega arith

  number_missing : (ms : List ℕ) → ((m : ℕ) → Contains ms m → (labels ≤ m) × (m - labels < length kept)) → ¬ Contains ms (labels + c)
      → number_with (map (λ m. (slice_index kept (m - labels), k.coefficient m)) ms) (slice_index kept c) ≡ pos 0
  number_missing [] all lacks = refl
  number_missing (m ∷ ms) all lacks = ap (λ b. if b then k.coefficient m else number_with (map (λ u. (slice_index kept (u - labels), k.coefficient u)) ms)
      (slice_index kept c)) (other_index m (all m (0, omega arith, refl)).0 (all m (0, omega arith, refl)).1 (λ e. lacks (0, omega arith, e)))
      ∙ number_missing ms (λ u (i, lt, e). all u (suc i, omega arith, e)) (λ (i, lt, e). lacks (suc i, omega arith, e))

-- a chord that the basis uses has its number in the relation
pub chord_number_is : (labels : ℕ) (vectors : List (List ℤ)) (cycle : CycleBasis) (t c : ℕ) (r : Relation) → IsCycleBasis labels vectors cycle
    → ShowsRelation labels cycle t r → c < length cycle.kept → Contains cycle.members (labels + c) → number_with r.chords.items (slice_index cycle.kept c) ≡
    (cycle.relation t).coefficient (labels + c)
chord_number_is labels vectors cycle t c r basis shows lt member =
    ap (λ l. number_with l (slice_index cycle.kept c)) shows.chords
    ∙ ⊎_elim
    (λ zero. number_missing labels cycle.kept (cycle.relation t) c rises lt (filter test cycle.members) all
    (λ has. absurd (false≢true (sym (unused zero) ∙ (filter_from test cycle.members (labels + c) has).1)))
    ∙ sym ((Decides-int_eq ((cycle.relation t).coefficient (labels + c)) (pos 0)).0 zero))
    (λ other. number_found labels cycle.kept (cycle.relation t) c rises lt (filter test cycle.members) all (filter_has test cycle.members (labels + c) member (used other)))
    (cases_Bool (int_eq ((cycle.relation t).coefficient (labels + c)) (pos 0)))
  where
    test : ℕ → Bool
    test m = not (nat_lt m labels) && not (int_eq ((cycle.relation t).coefficient m) (pos 0))

    rises : (i j : ℕ) → i < j → j < length cycle.kept → slice_index cycle.kept i < slice_index cycle.kept j
    rises i j = kept_rises (vector_at vectors) (λ i. IsZeroVector (vector_at vectors i)) [] 0 (length vectors) cycle.kept i j basis.kept

    unused : int_eq ((cycle.relation t).coefficient (labels + c)) (pos 0) ≡ true → test (labels + c) ≡ false
    unused e = ap₂ (λ a b. not a && not b) (past_test (labels + c) labels (omega arith)) e

    used : int_eq ((cycle.relation t).coefficient (labels + c)) (pos 0) ≡ false → test (labels + c) ≡ true
    used e = ap₂ (λ a b. not a && not b) (past_test (labels + c) labels (omega arith)) e

    all : (m : ℕ) → Contains (filter test cycle.members) m → (labels ≤ m) × (m - labels < length cycle.kept)
    all m has =
        let (member', passes) = filter_from test cycle.members m has in
        let small = (cycle_set_knows (vector_system labels vectors cycle.kept) cycle.members basis.cycle).has.free.within m member' in
        let rows : length (vector_system labels vectors cycle.kept).rows ≡ length cycle.kept = length-map cycle.kept (λ i. record { coeffs = vector_at vectors i; constant = pos 0 }) in
        let past : labels ≤ m = ⊎_elim (λ below. absurd (false≢true (sym (label below) ∙ passes))) (λ le. le) (cases_lt m labels) in
        (past, omega arith)
      where
        label : m < labels → test m ≡ false
        label below = ap (λ a. not a && not (int_eq ((cycle.relation t).coefficient m) (pos 0))) (below_test m labels below)

-- a chord's number is in range, as all that are listed are
pub number_in_range : (pairs : List (ℕ × ℤ)) (c : ℕ) → ((n : ℕ) → InRange (slice_index_or pairs n (0, pos 0)).1) → InRange (number_with pairs c)
number_in_range [] c all = omega arith
number_in_range (p ∷ pairs) c all = go (p.0 == c) (number_in_range pairs c (λ n. all (suc n)))
  where
    go : (b : Bool) → InRange (number_with pairs c) → InRange (if b then p.1 else number_with pairs c)
    go true rest = all 0
    go false rest = rest

-- ---- what a count gives a chord

-- the multiplier times the count
product_made : (k : LabelCount) (multiplier count : Fraction) → k.multiplier ≡ ratio_of multiplier → ratio_of count ≡ whole k.count → (r : Result Fraction Wide)
    → IsProduct (numerator_of multiplier) (denominator_of multiplier) (numerator_of count) (denominator_of count) r
    → mul k.multiplier (whole k.count) (shown_result ratio_of r)
product_made k multiplier count is whole_count r told =
    subst (λ f. mul f (whole k.count) (shown_result ratio_of r)) (sym is)
    (subst (λ f. mul (ratio_of multiplier) f (shown_result ratio_of r)) whole_count (mul_step multiplier count r told))

pub count_first : (cycle : CycleBasis) (c : ℕ) (k : LabelCount) (multiplier count : Fraction) → k.multiplier ≡ ratio_of multiplier → ratio_of count ≡ whole k.count
    → (w : Wide) → IsProduct (numerator_of multiplier) (denominator_of multiplier) (numerator_of count) (denominator_of count) (Err w) → count_fold cycle c k (Err w)
count_first cycle c k multiplier count is whole_count w told = inl (product_made k multiplier count is whole_count (Err w) told)

module _ (cycle : CycleBasis) (c : ℕ) (k : LabelCount) (multiplier count number : Fraction) (n d : ℤ) (is : k.multiplier ≡ ratio_of multiplier)
    (whole_count : ratio_of count ≡ whole k.count) (value : IsValue number n d) (nonzero : d ≢ pos 0) (same_n : n ≡ (cycle.relation k.label).coefficient c)
    (same_d : d ≡ (cycle.relation k.label).d) where
  second : quotient ((cycle.relation k.label).coefficient c) (cycle.relation k.label).d (Ok (ratio_of number))
  second = subst (λ z. quotient z (cycle.relation k.label).d (Ok (ratio_of number))) same_n (subst (λ z. quotient n z (Ok (ratio_of number))) same_d (new_step number n d nonzero value))

  pub count_made : (f : Fraction) (r : Result Fraction Wide) → IsProduct (numerator_of multiplier) (denominator_of multiplier) (numerator_of count)
      (denominator_of count) (Ok f) → IsProduct (numerator_of f) (denominator_of f) (numerator_of number) (denominator_of number) r
      → count_fold cycle c k (shown_result ratio_of r)
  count_made f (Ok g) told told' = (ratio_of f, product_made k multiplier count is whole_count (Ok f) told, (ratio_of number, second, mul_step f number (Ok g) told'))
  count_made f (Err w) told told' = inr (ratio_of f, product_made k multiplier count is whole_count (Ok f) told, inr (ratio_of number, second, mul_step f number (Err w) told'))

-- a count of 0 gives nothing, nor does a number of 0 whose product is in range
module _ (cycle : CycleBasis) (c : ℕ) (k : LabelCount) (multiplier none : Fraction) (n d : ℤ) (is : k.multiplier ≡ ratio_of multiplier)
    (value : IsValue none (pos 0) (pos 1)) (nonzero : d ≢ pos 0) (same_n : n ≡ (cycle.relation k.label).coefficient c) (same_d : d ≡ (cycle.relation k.label).d) where
  times_number : (x : Ratio) → and_then (quotient n d) (mul x) (Ok (whole (pos 0)))
      → and_then (quotient ((cycle.relation k.label).coefficient c) (cycle.relation k.label).d) (λ y. mul x y) (Ok (ratio_of none))
  times_number x h = subst (λ z. and_then (quotient z (cycle.relation k.label).d) (λ y. mul x y) (Ok (ratio_of none))) same_n
      (subst (λ z. and_then (quotient n z) (λ y. mul x y) (Ok (ratio_of none))) same_d
      (subst (λ r. and_then (quotient n d) (λ y. mul x y) (Ok r)) (sym (whole_is none (pos 0) value)) h))

  pub no_count : k.count ≡ pos 0 → InRange n → InRange d → count_fold cycle c k (Ok (ratio_of none))
  no_count e hn hd = (
    whole (pos 0),
    subst (λ z. mul k.multiplier (whole z) (Ok (whole (pos 0)))) (sym e) (subst (λ f. mul f (whole (pos 0)) (Ok (whole (pos 0)))) (sym is) (times_none multiplier)),
    times_number (whole (pos 0)) (count_adds_nothing n d nonzero hn hd),
  )

  pub no_number : (count f : Fraction) → ratio_of count ≡ whole k.count
      → IsProduct (numerator_of multiplier) (denominator_of multiplier) (numerator_of count) (denominator_of count) (Ok f) → n ≡ pos 0
      → count_fold cycle c k (Ok (ratio_of none))
  no_number count f whole_count told e = (ratio_of f, product_made k multiplier count is whole_count (Ok f) told, times_number (ratio_of f) (number_adds_nothing n d f nonzero e))

-- the opposite fraction is the negated one
pub opposite_is : (f g : Fraction) → IsValue g (neg_ℤ (numerator_of f)) (denominator_of f) → ratio_of g ≡ negated (ratio_of f)
opposite_is f g value = ratio_one (ratio_of g) (negated (ratio_of f)) (neg_ℤ (numerator_of f)) (denominator_of f)
    (new_step g (neg_ℤ (numerator_of f)) (denominator_of f) (positive_differs (denominator_of f) f.positive) value)
    (record { nonzero = positive_differs (denominator_of f) f.positive; positive = f.positive; reduced = IsGcd-neg_first (numerator_of f) _ 1 f.reduced; value = refl })

-- ---- all counts

module _ (cycle : CycleBasis) (counts : List LabelCount) (c : ℕ) where
  pub share_unsummed : (w : Wide) → joined add (count_fold cycle c) (whole (pos 0)) counts (Err w) → counts_fold cycle counts c (Err w)
  share_unsummed w h = inl h

  pub share_made : (f : Ratio) → joined add (count_fold cycle c) (whole (pos 0)) counts (Ok f) → counts_fold cycle counts c (Ok (negated f))
  share_made f h = (f, h, refl)

-- ---- the chords that the basis uses

pub used_at : (lts : System) (basis : CycleBasis) (used : List ℕ) (i : ℕ) → used ≡ used_chords lts basis → i < length used
    → (slice_index used i < length basis.kept) × Contains basis.members (labels lts + slice_index used i)
used_at lts basis used i e lt =
    let (test, _, below) = where_is (λ c. is_in basis.members (labels lts + c)) 0 (length basis.kept) (slice_index used i)
    (subst (λ l. Contains l (slice_index used i)) e (Contains-get_or used i 0 lt)) in
    (omega arith, in_has basis.members (labels lts + slice_index used i) test)

pub all_used : (lts : System) (basis : CycleBasis) (used : List ℕ) → used ≡ used_chords lts basis → All (λ c. (c < length basis.kept) × Contains basis.members (labels lts + c)) used
all_used lts basis used e = All-from_get_or (λ c. (c < length basis.kept) × Contains basis.members (labels lts + c)) used 0 (λ i lt. used_at lts basis used i e lt)

-- ---- the sum of what the counts give a chord

length_zero : {A : Type 0} (l : List A) → length l ≡ 0 → l ≡ []
length_zero [] e = refl
length_zero (x ∷ l) e = absurd (omega arith)

-- the label is one that isn't free
abbrev pub IsDependent : ℕ → CycleBasis → LabelCount → Type 0
IsDependent labels cycle k = (k.label < labels) × (¬ Contains cycle.members k.label)

module _ (P : LabelCount → Type 0) (counts : List Counted) (first : Counted) (rest : List Counted) (parts : counts ≡ first ∷ rest) (all : All P (map counted_of counts)) where
  pub first_count : P (counted_of first)
  first_count = All-head P (counted_of first) (map counted_of rest) (subst (λ l. All P (map counted_of l)) parts all)

  pub rest_count : (i : ℕ) (d : Counted) → i < length rest → d ≡ slice_index_or rest i d → P (counted_of d)
  rest_count i d lt is = subst (λ x. P (counted_of x)) (sym is)
      (subst P (get_or-map counted_of rest i d (counted_of d) lt)
      (All-tail P (counted_of first) (map counted_of rest) (subst (λ l. All P (map counted_of l)) parts all) i (counted_of d) (simp length-map lt)))

module _ (fold : LabelCount → Result Ratio Wide → Type 0) (counts : List Counted) where
  pub no_counts : (f : Fraction) → length counts ≡ 0 → IsValue f (pos 0) (pos 1) → joined add fold (whole (pos 0)) (map counted_of counts) (Ok (ratio_of f))
  no_counts f none value = subst (λ l. joined add fold (whole (pos 0)) (map counted_of l) (Ok (ratio_of f))) (sym (length_zero counts none)) (whole_is f (pos 0) value)

  module _ (first : Counted) (rest : List Counted) (parts : counts ≡ first ∷ rest) where
    pub first_fails : (w : Wide) → fold (counted_of first) (Err w) → joined add fold (whole (pos 0)) (map counted_of counts) (Err w)
    first_fails w made = subst (λ l. joined add fold (whole (pos 0)) (map counted_of l) (Err w)) (sym parts) (inl made)

    pub first_made : (x : Ratio) → fold (counted_of first) (Ok x) → (r : Result Ratio Wide) → further add fold x (map counted_of rest) r → joined add fold (whole (pos 0)) (map counted_of counts) r
    first_made x made (Ok y) h = subst (λ l. joined add fold (whole (pos 0)) (map counted_of l) (Ok y)) (sym parts) (x, made, h)
    first_made x made (Err w) h = subst (λ l. joined add fold (whole (pos 0)) (map counted_of l) (Err w)) (sym parts) (inr (x, made, h))

  module _ (rest : List Counted) (i : ℕ) (d : Counted) (lt : i < length rest) (is : d ≡ slice_index_or rest i d) (sum : Ratio)
      (so_far : (r : Result Ratio Wide) → further add fold sum (drop i (map counted_of rest)) r → joined add fold (whole (pos 0)) (map counted_of counts) r) where
    item : counted_of d ≡ slice_index_or (map counted_of rest) i (counted_of d)
    item = ap counted_of is ∙ sym (get_or-map counted_of rest i d (counted_of d) lt)

    lt' : i < length (map counted_of rest)
    lt' = simp length-map lt

    pub next_fails : (w : Wide) → fold (counted_of d) (Err w) → joined add fold (whole (pos 0)) (map counted_of counts) (Err w)
    next_fails w made = sum_unmade add fold (map counted_of rest) i (counted_of d) lt' sum (joined add fold (whole (pos 0)) (map counted_of counts)) so_far w (subst (λ k. fold k (Err w)) item made)

    pub next_unjoined : (x : Ratio) (w : Wide) → fold (counted_of d) (Ok x) → add sum x (Err w) → joined add fold (whole (pos 0)) (map counted_of counts) (Err w)
    next_unjoined x w made joins = sum_unjoined add fold (map counted_of rest) i (counted_of d) lt' sum
        (joined add fold (whole (pos 0)) (map counted_of counts)) so_far x w (subst (λ k. fold k (Ok x)) item made) joins

    pub next_made : (x more : Ratio) → fold (counted_of d) (Ok x) → add sum x (Ok more) → (r : Result Ratio Wide)
        → further add fold more (drop (i + 1) (map counted_of rest)) r → joined add fold (whole (pos 0)) (map counted_of counts) r
    next_made x more made joins = sum_next add fold (map counted_of rest) i (counted_of d) lt' sum
        (joined add fold (whole (pos 0)) (map counted_of counts)) so_far x more (subst (λ k. fold k (Ok x)) item made) joins

  pub counts_end : (rest : List Counted) (i : ℕ) (sum : Ratio)
      → ((r : Result Ratio Wide) → further add fold sum (drop i (map counted_of rest)) r → joined add fold (whole (pos 0)) (map counted_of counts) r)
      → length rest ≤ i → joined add fold (whole (pos 0)) (map counted_of counts) (Ok sum)
  counts_end rest i sum so_far past = sum_ends add fold (map counted_of rest) i sum (joined add fold (whole (pos 0)) (map counted_of counts)) so_far (simp length-map past)
