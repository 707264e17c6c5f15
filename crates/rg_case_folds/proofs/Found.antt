-- Effects and Start, made whole, keep the rows of a case over the common multiple.
use Rattle.std.proofs.Common.{◌≡◌, ⊎_elim, ℕ, zero, suc, ◌+◌, ◌<◌, ◌≤◌, ◌||◌, is_some, Bool, true, false, if◌then◌else◌, Option, Some, None, IsNone, List, [], ◌∷◌, ◌++◌, map, length, slice_index_or, Contains, Result, Ok, unwrap_or, IfSome, refl, sym, ap, ap₂, subst, ◌∙◌, arith, zero-add}
use Rattle.std.specs.Prelude.{ℤ, pos, ◌+ℤ◌, ◌*ℤ◌, ◌<ℤ◌, ◌≤ℤ◌}
use Rattle.std.specs.List.{range_with_len}
use Rattle.std.proofs.lemmas.Int.{ints}
use Rattle.std.proofs.lemmas.Bool.{true≢false, cases_Bool, cases_lt}
use Rattle.std.proofs.lemmas.List.{get_or_past, get_or_append_left, get_or-append_right, length-append}
use Rattle.std.proofs.lemmas.List.FromFn.{get_or-range_with_len, length-range_with_len}
use Rattle.rg_theory.specs.declared.Arc.{Arc}
use Rattle.rg_theory.specs.declared.Class.{Class}
use Rattle.rg_theory.specs.System.{System, labels}
use Rattle.rg_theory.specs.ClassWords.{HasNumbersInRange}
use Rattle.rg_integers.specs.declared.term.Wide.{Wide}
use Rattle.rg_integers.specs.Range.{InRange}
use Rattle.rg_integers.proofs.Ranges.{zero_in_range}
use Rattle.rg_integers.specs.Sum.{sum_below, dot}
use Rattle.rg_integers.proofs.Ring.{ring, mul_assoc, mul_left_comm}
use Rattle.rg_integers.proofs.Order.{mul-cancel_left, mul_is_zero, mul_not_negative, factor_not_negative, positive_differs, mul_positive}
use Rattle.rg_integers.proofs.Sums.{sum_below-same, sum_below-times}
use Rattle.rg_integers.proofs.Dots.{dot_comm, dot-times}
use Rattle.rg_linear.specs.Cycle.{CycleBasis, FollowsRelations}
use Rattle.rg_linear.specs.System.{LinearRow}
use Rattle.rg_case_folds.specs.Setting.{Setting}
use Rattle.rg_folds.specs.Fold.{gives, and_then, either, each, Ratio, whole, mul, multiple_of_all}
use Rattle.rg_case_folds.specs.Chords.{chord_system, IsBasis}
use Rattle.rg_folds.specs.Substitution.{is_in, numbers_where, free_labels}
use Rattle.rg_case_folds.specs.Rewriting.{all_numbers, has_label, has_start, CaseSystem}
use Rattle.rg_case_folds.specs.Values.{picked, column_values}
use Rattle.rg_case_folds.specs.Placing.{effect_fold, made_whole, ratio_at, top_at}
use Rattle.rg_case_folds.proofs.RowValues.{IsOver}
use Rattle.rg_case_folds.proofs.Scaling.{all_divide}
use Rattle.rg_case_folds.specs.Meaning.{AreEffects, MeetsCase}
use Rattle.rg_case_folds.proofs.Lists.{where_is}
use Rattle.rg_case_folds.specs.Places.{AreValuesOf}
use Rattle.rg_case_folds.proofs.Signs.{AllPositive, all_multiple}
use Rattle.rg_case_folds.proofs.Items.{each_length}
use Rattle.rg_case_folds.proofs.Wholes.{product_fits, each_at, divides_at}
use Rattle.rg_case_folds.proofs.Products.{mul_right_comm, itself_taken, once, none_of}
use Rattle.rg_fraction.proofs.Orders.{weak}
use Rattle.std.proofs.Math.IntN.{*ℤ_comm, zero-*ℤ}
use Rattle.rg_case_folds.proofs.EffectValues.{effect_is}

-- ---- lists of numbers

range_is : (a n : ℕ) → numbers_where (λ q. true) a n ≡ range_with_len a n
range_is a zero = refl
range_is a (suc n) = ap (λ l. a ∷ l) (range_is (suc a) n ∙ ap (λ k. range_with_len k n) (next a))
  where
    next : (a : ℕ) → suc a ≡ a + 1
    next a = omega arith

pub all_are : (n : ℕ) → all_numbers n ≡ range_with_len 0 n
all_are n = range_is 0 n

pub all_length : (n : ℕ) → length (all_numbers n) ≡ n
all_length n = ap length (all_are n) ∙ length-range_with_len 0 n

pub all_at : (n i : ℕ) → i < n → slice_index_or (all_numbers n) i 0 ≡ i
all_at n i lt = ap (λ l. slice_index_or l i 0) (all_are n) ∙ get_or-range_with_len 0 n i 0 lt ∙ zero-add i

-- ---- made whole

-- the effects by label and Start behind them are whole and in range: the number and the effects, over the multiple
pub record AreFound (lts : System) (found : List Ratio) (first : ℤ) (effect : ℕ → ℤ) (scale multiple : ℤ) : Type 0 where
  pub positive : pos 0 <ℤ multiple
  pub is_whole : (i : ℕ) → ratio_at found i ≡ whole (top_at found i)
  pub fits : (i : ℕ) → InRange (top_at found i)
  pub effects : (t : ℕ) → t < labels lts → top_at found t *ℤ scale ≡ effect t *ℤ multiple
  pub start_is : top_at found (labels lts) *ℤ scale ≡ first *ℤ multiple

-- what is known of each number before it is made whole
abbrev pub IsOverAt : ℤ → Ratio → ℤ → Type 0
IsOverAt scale r z = IsOver scale r z × (pos 0 <ℤ r.bottom)

positive_all : (rs : List Ratio) → ((i : ℕ) → i < length rs → pos 0 <ℤ (ratio_at rs i).bottom) → AllPositive (map (λ r. r.bottom) rs)
positive_all [] h = tt
positive_all (r ∷ rs) h = (h 0 (omega arith), positive_all rs (λ i lt. h (suc i) (omega arith)))

-- one number
made_at : (rs found : List Ratio) (m scale z : ℤ) (i : ℕ) → i < length rs → multiple_of_all (map (λ r. r.bottom) rs) (Ok m) → each (λ r. mul r (whole m)) rs (Ok found)
    → IsOverAt scale (ratio_at rs i) z → (ratio_at found i ≡ whole (top_at found i)) × InRange (top_at found i) × (top_at found i *ℤ scale ≡ z *ℤ m)
made_at rs found m scale z i lt multiple products (over, positive) =
    let (q, is) = divides_at rs m i (whole (pos 0)) (all_divide (map (λ r. r.bottom) rs) m multiple) lt in
    let (same, fits) = product_fits (ratio_at rs i) (ratio_at found i) m q positive is (each_at (λ r. mul r (whole m)) rs found (whole (pos 0)) (whole (pos 0)) i products lt) in
    let top : top_at found i ≡ (ratio_at rs i).top *ℤ q = ap (λ (r : Ratio). r.top) same in (
      same ∙ ap whole (sym top),
      subst InRange (sym top) fits,
      ap (λ z. z *ℤ scale) top ∙ mul_right_comm (ratio_at rs i).top q scale
          ∙ ap (λ z. z *ℤ q) over ∙ mul_assoc z (ratio_at rs i).bottom q ∙ ap (λ y. z *ℤ y) (sym is),
    )

pub not_bounded : (o : Option ℕ) → IsNone o → is_some o ≡ false
not_bounded None e = refl
not_bounded (Some k) e = absurd (true≢false e)

-- times what the start has to be a multiple of
abbrev pub TimesMarking : Class → List Ratio → Result (List Ratio) Wide → Type 0
TimesMarking class numbers r = either (is_some class.marking) (each (λ r. mul r (whole (pos (unwrap_or class.marking 1)))) numbers) (gives numbers) r

abbrev pub whole_by : Class → Bool → List Ratio → List Ratio → Type 0
whole_by class b numbers found = either b (gives numbers) (and_then (multiple_of_all (map (λ r. r.bottom) numbers)) (λ m. and_then (each (λ r. mul r (whole m)) numbers)
    (λ products. either (is_some class.marking) (each (λ r. mul r (whole (pos (unwrap_or class.marking 1)))) products) (gives products)))) (Ok found)

-- the effects and Start behind them, over the scale
module _ (lts : System) (tree : List Arc) (basis : CycleBasis) (start : Ratio) (value : ℕ → Ratio) (first : ℤ) (effect : ℕ → ℤ) (scale : ℤ) (effects : List Ratio)
    (is : IsBasis lts tree basis) (e : AreEffects lts tree basis effect) (v : AreValuesOf lts basis start value first effect scale)
    (made : each (effect_fold lts basis value) (all_numbers (labels lts)) (Ok effects)) where
  effects_count : length effects ≡ labels lts
  effects_count = each_length (effect_fold lts basis value) (all_numbers (labels lts)) effects made ∙ all_length (labels lts)

  pub label_at : (t : ℕ) → t < labels lts → IsOverAt scale (ratio_at (effects ++ start ∷ []) t) (effect t)
  label_at t lt = subst (λ r. IsOverAt scale r (effect t)) (sym (get_or_append_left effects (start ∷ []) (whole (pos 0)) t (subst (λ n. t < n) (sym effects_count) lt)))
      (effect_is lts tree basis start value first effect scale t (ratio_at effects t) is e v lt
      (subst (λ u. effect_fold lts basis value u (Ok (ratio_at effects t))) (all_at (labels lts) t lt)
      (each_at (effect_fold lts basis value) (all_numbers (labels lts)) effects 0 (whole (pos 0)) t made (subst (λ n. t < n) (sym (all_length (labels lts))) lt))))

  pub start_at : IsOverAt scale (ratio_at (effects ++ start ∷ []) (labels lts)) first
  start_at = subst (λ r. IsOverAt scale r first)
      (sym (get_or-append_right effects (start ∷ []) (labels lts) (labels lts) (whole (pos 0)) effects_count (omega arith)
      ∙ ap (λ k. ratio_at (start ∷ []) k) (itself_taken (labels lts)))) (v.start_is, v.start_bottom)

products_are : (s : Setting) (start : Ratio) (value : ℕ → Ratio) (first : ℤ) (effect : ℕ → ℤ) (scale : ℤ) (effects found : List Ratio) → s.class.plain ≡ false
    → IsNone s.class.bound → IsBasis s.lts s.tree s.basis → AreEffects s.lts s.tree s.basis effect → AreValuesOf s.lts s.basis start value first effect scale
    → each (effect_fold s.lts s.basis value) (all_numbers (labels s.lts)) (Ok effects) → (m : ℤ) → multiple_of_all (map (λ r. r.bottom) (effects ++ start ∷ [])) (Ok m)
    → each (λ r. mul r (whole m)) (effects ++ start ∷ []) (Ok found) → AreFound s.lts found first effect scale m
products_are s start value first effect scale effects found plain bound is e v made m multiple products = record {
  positive = all_multiple (map (λ r. r.bottom) numbers) m (positive_all numbers (λ i lt. (at i lt).1.1)) multiple;
  is_whole = λ i. ⊎_elim (λ lt. (made_at numbers found m scale (at i lt).0 i lt multiple products (at i lt).1).0) (λ le. past m products i le) (cases_lt i (length numbers));
  fits = λ i. ⊎_elim (λ lt. (made_at numbers found m scale (at i lt).0 i lt multiple products (at i lt).1).1) (λ le. past_fits m products i le) (cases_lt i (length numbers));
  effects = λ t lt. (made_at numbers found m scale (effect t) t (let k = many in omega arith) multiple products (at_label t lt)).2;
  start_is = (made_at numbers found m scale first (labels s.lts) (let k = many in omega arith) multiple products at_start).2;
}
  where
    numbers : List Ratio
    numbers = effects ++ start ∷ []

    many : length (effects ++ start ∷ []) ≡ labels s.lts + 1
    many = length-append effects (start ∷ []) ∙ ap (λ n. n + 1) (effects_count s.lts s.tree s.basis start value first effect scale effects is e v made)

    at_label : (t : ℕ) → t < labels s.lts → IsOverAt scale (ratio_at (effects ++ start ∷ []) t) (effect t)
    at_label = label_at s.lts s.tree s.basis start value first effect scale effects is e v made

    at_start : IsOverAt scale (ratio_at (effects ++ start ∷ []) (labels s.lts)) first
    at_start = start_at s.lts s.tree s.basis start value first effect scale effects is e v made

    at : (i : ℕ) → i < length (effects ++ start ∷ []) → (z : ℤ) × IsOverAt scale (ratio_at (effects ++ start ∷ []) i) z
    at i lt = ⊎_elim (λ low. (effect i, at_label i low)) (λ le. (first, subst (λ k. IsOverAt scale (ratio_at (effects ++ start ∷ []) k) first) (last le) at_start)) (cases_lt i (labels s.lts))
      where
        last : labels s.lts ≤ i → labels s.lts ≡ i
        last le = let k = many in omega arith

    past : (m : ℤ) → each (λ r. mul r (whole m)) (effects ++ start ∷ []) (Ok found) → (i : ℕ) → length (effects ++ start ∷ []) ≤ i → ratio_at found i ≡ whole (top_at found i)
    past m products i le = let beyond = get_or_past found i (whole (pos 0))
        (subst (λ n. n ≤ i) (sym (each_length (λ r. mul r (whole m)) (effects ++ start ∷ []) found products)) le) in beyond ∙ ap (λ (r : Ratio). whole r.top) (sym beyond)

    past_fits : (m : ℤ) → each (λ r. mul r (whole m)) (effects ++ start ∷ []) (Ok found) → (i : ℕ) → length (effects ++ start ∷ []) ≤ i → InRange (top_at found i)
    past_fits m products i le = let beyond = get_or_past found i (whole (pos 0))
        (subst (λ n. n ≤ i) (sym (each_length (λ r. mul r (whole m)) (effects ++ start ∷ []) found products)) le) in
        subst (λ (r : Ratio). InRange r.top) (sym beyond) zero_in_range

-- times n
times_at : (products found : List Ratio) (n : ℤ) (i : ℕ) → i < length products → each (λ r. mul r (whole n)) products (Ok found)
    → ratio_at products i ≡ whole (top_at products i) → (ratio_at found i ≡ whole (top_at found i)) × InRange (top_at found i) × (top_at found i ≡ top_at products i *ℤ n)
times_at products found n i lt times is =
    let (same, fits) = product_fits (whole (top_at products i)) (ratio_at found i) n n (omega (arith, ints)) (once n)
    (subst (λ r. mul r (whole n) (Ok (ratio_at found i))) is (each_at (λ r. mul r (whole n)) products found (whole (pos 0)) (whole (pos 0)) i times lt)) in
    let top : top_at found i ≡ top_at products i *ℤ n = ap (λ (r : Ratio). r.top) same in
    (same ∙ ap whole (sym top), subst InRange (sym top) fits, top)

-- each number is so many steps
abbrev pub AreSteps : Class → List Ratio → Type 0
AreSteps class found = (i : ℕ) → (u : ℤ) × (top_at found i ≡ pos (unwrap_or class.marking 1) *ℤ u)

-- the numbers times what the start has to be a multiple of
times_are : (lts : System) (class : Class) (products found : List Ratio) (first : ℤ) (effect : ℕ → ℤ) (scale m : ℤ) → HasNumbersInRange class
    → length products ≡ labels lts + 1 → AreFound lts products first effect scale m → TimesMarking class products (Ok found) → (k : ℤ)
    × AreFound lts found first effect scale k × AreSteps class found
times_are lts class products found first effect scale m numbers many f times = by class.marking numbers.marking times
  where
    by : (o : Option ℕ) → IfSome o (λ n. (0 < n) × (n ≤ 255)) → either (is_some o) (each (λ r. mul r (whole (pos (unwrap_or o 1)))) products) (gives products) (Ok found)
        → (k : ℤ) × AreFound lts found first effect scale k × ((i : ℕ) → (u : ℤ) × (top_at found i ≡ pos (unwrap_or o 1) *ℤ u))
    by None h same = (m, subst (λ l. AreFound lts l first effect scale m) (sym same) f, λ i. (top_at found i, once (top_at found i)))
    by (Some n) (some, few) made = (
      m *ℤ pos n,
      record {
        positive = mul_positive m (pos n) f.positive (omega (arith, ints));
        is_whole = λ i. ⊎_elim (λ lt. (at i lt).0) (λ le. (past i le).0) (cases_lt i (length products));
        fits = λ i. ⊎_elim (λ lt. (at i lt).1) (λ le. (past i le).1) (cases_lt i (length products));
        effects = λ t lt. moved (top_at found t) (top_at products t) scale (effect t) m (pos n) (at t (omega arith)).2 (f.effects t lt);
        start_is = moved (top_at found (labels lts)) (top_at products (labels lts)) scale first m (pos n) (at (labels lts) (omega arith)).2 f.start_is;
      },
      λ i. ⊎_elim (λ lt. (top_at products i, (at i lt).2 ∙ *ℤ_comm (top_at products i) (pos n))) (λ le. (pos 0, (past i le).2 ∙ none_of (pos n))) (cases_lt i (length products)),
    )
      where
        at : (i : ℕ) → i < length products → (ratio_at found i ≡ whole (top_at found i)) × InRange (top_at found i) × (top_at found i ≡ top_at products i *ℤ pos n)
        at i lt = times_at products found (pos n) i lt made (f.is_whole i)

        past : (i : ℕ) → length products ≤ i → (ratio_at found i ≡ whole (top_at found i)) × InRange (top_at found i) × (top_at found i ≡ pos 0)
        past i le =
            let beyond = get_or_past found i (whole (pos 0)) (subst (λ k. k ≤ i) (sym (each_length (λ r. mul r (whole (pos n))) products found made)) le) in
            (beyond ∙ ap (λ (r : Ratio). whole r.top) (sym beyond), subst (λ (r : Ratio). InRange r.top) (sym beyond) zero_in_range, ap (λ (r : Ratio). r.top) beyond)

        moved : (a p s e m n : ℤ) → a ≡ p *ℤ n → p *ℤ s ≡ e *ℤ m → a *ℤ s ≡ e *ℤ (m *ℤ n)
        moved a p s e m n g h = ap (λ z. z *ℤ s) g ∙ mul_right_comm p n s ∙ ap (λ z. z *ℤ n) h ∙ mul_assoc e m n

pub found_is : (s : Setting) (start : Ratio) (value : ℕ → Ratio) (first : ℤ) (effect : ℕ → ℤ) (scale : ℤ) (effects found : List Ratio) → HasNumbersInRange s.class
    → s.class.plain ≡ false → IsNone s.class.bound → IsBasis s.lts s.tree s.basis → AreEffects s.lts s.tree s.basis effect
    → AreValuesOf s.lts s.basis start value first effect scale → each (effect_fold s.lts s.basis value) (all_numbers (labels s.lts)) (Ok effects)
    → made_whole s.class (effects ++ start ∷ []) (Ok found) → (m : ℤ) × AreFound s.lts found first effect scale m × AreSteps s.class found
found_is s start value first effect scale effects found numbers plain bound is e v made whole_made =
    let (m, multiple, (products, are, times)) = subst (λ b. whole_by s.class b (effects ++ start ∷ []) found) (ap₂ ◌||◌ plain (not_bounded s.class.bound bound)) whole_made in
    let f = products_are s start value first effect scale effects products plain bound is e v made m multiple are in
    times_are s.lts s.class products found first effect scale m numbers
    (each_length (λ r. mul r (whole m)) (effects ++ start ∷ []) products are ∙ length-append effects (start ∷ [])
    ∙ ap (λ n. n + 1) (effects_count s.lts s.tree s.basis start value first effect scale effects is e v made)) f times

-- ---- the rows over the multiple

-- the effects of labels, 0 for labels without an arc
abbrev pub found_effect : System → List Ratio → ℕ → ℤ
found_effect lts found t = if has_label t lts.arcs then top_at found t else pos 0

module _ (lts : System) (tree : List Arc) (basis : CycleBasis) (found : List Ratio) (first : ℤ) (effect : ℕ → ℤ) (scale m : ℤ) (positive : pos 0 <ℤ scale)
    (e : AreEffects lts tree basis effect) (f : AreFound lts found first effect scale m) where
  pub same_effect : (t : ℕ) → t < labels lts → found_effect lts found t ≡ top_at found t
  same_effect t lt = ⊎_elim
      (λ used. ap (λ b. if b then top_at found t else pos 0) used)
      (λ unused. ap (λ b. if b then top_at found t else pos 0) unused
      ∙ sym (mul_is_zero (top_at found t) scale (positive_differs scale positive)
      (f.effects t lt ∙ ap (λ z. z *ℤ m) (e.unused t unused) ∙ zero-*ℤ m)))
      (cases_Bool (has_label t lts.arcs))

  -- effects below the labels, over the scale and over the multiple
  over_both : (t : ℕ) → t < labels lts → m *ℤ effect t ≡ scale *ℤ found_effect lts found t
  over_both t lt = *ℤ_comm m (effect t) ∙ sym (f.effects t lt) ∙ *ℤ_comm (top_at found t) scale ∙ ap (λ z. scale *ℤ z) (sym (same_effect t lt))

  follows : FollowsRelations (chord_system lts tree basis.kept) basis.members (found_effect lts found)
  follows t k lt row = mul-cancel_left scale (k.d *ℤ other t) (sum_below (labels lts) (λ j. k.coefficient j *ℤ other j)) (positive_differs scale positive)
      (mul_left_comm scale k.d (other t)
      ∙ ap (λ z. k.d *ℤ z) (sym (over_both t lt))
      ∙ mul_left_comm k.d m (effect t)
      ∙ ap (λ z. m *ℤ z) (e.follows t k lt row)
      ∙ sym (sum_below-times (labels lts) m (λ j. k.coefficient j *ℤ effect j))
      ∙ sum_below-same (labels lts) (λ j. m *ℤ (k.coefficient j *ℤ effect j)) (λ j. scale *ℤ (k.coefficient j *ℤ other j))
      (λ j lt'. mul_left_comm m (k.coefficient j) (effect j) ∙ ap (λ z. k.coefficient j *ℤ z) (over_both j lt') ∙ mul_left_comm (k.coefficient j) scale (other j))
      ∙ sum_below-times (labels lts) scale (λ j. k.coefficient j *ℤ other j))
    where
      other : ℕ → ℤ
      other = found_effect lts found

  pub found_effects : AreEffects lts tree basis (found_effect lts found)
  found_effects = record { follows = follows; unused = λ t unused. ap (λ b. if b then top_at found t else pos 0) unused }

-- ---- the columns

picked_times : (a b : ℤ) (test : ℕ → Bool) (ts : List ℕ) (x y : ℕ → ℤ) → ((t : ℕ) → Contains ts t → a *ℤ x t ≡ b *ℤ y t) → map (λ z. a *ℤ z) (picked test ts x) ≡ map (λ z. b *ℤ z) (picked test ts y)
picked_times a b test [] x y same = refl
picked_times a b test (t ∷ ts) x y same = go (test t) (same t (0, omega arith, refl)) (picked_times a b test ts x y (λ u (i, lt, e). same u (suc i, omega arith, e)))
  where
    go : (c : Bool) → a *ℤ x t ≡ b *ℤ y t → map (λ z. a *ℤ z) (picked test ts x) ≡ map (λ z. b *ℤ z) (picked test ts y)
        → map (λ z. a *ℤ z) (if c then (x t ∷ picked test ts x) else picked test ts x) ≡ map (λ z. b *ℤ z) (if c then (y t ∷ picked test ts y) else picked test ts y)
    go true here rest = ap₂ (λ z l. z ∷ l) here rest
    go false here rest = rest

columns_times : (lts : System) (basis : CycleBasis) (class : Class) (a b first other : ℤ) (x y : ℕ → ℤ) → a *ℤ first ≡ b *ℤ other
    → ((t : ℕ) → t < labels lts → a *ℤ x t ≡ b *ℤ y t)
    → map (λ z. a *ℤ z) (column_values lts basis class first x) ≡ map (λ z. b *ℤ z) (column_values lts basis class other y)
columns_times lts basis class a b first other x y start same = go (has_start class)
  where
    rest : map (λ z. a *ℤ z) (picked (λ t. has_label t lts.arcs) (free_labels (labels lts) basis) x) ≡ map (λ z. b *ℤ z) (picked (λ t. has_label t lts.arcs) (free_labels (labels lts) basis) y)
    rest = picked_times a b (λ t. has_label t lts.arcs) (free_labels (labels lts) basis) x y
        (λ t has. (let (_, _, lt) = where_is (λ t. is_in basis.members t) 0 (labels lts) t has in same t (omega arith)))

    go : (c : Bool) → map (λ z. a *ℤ z) ((if c then (first ∷ []) else []) ++ picked (λ t. has_label t lts.arcs) (free_labels (labels lts) basis) x)
        ≡ map (λ z. b *ℤ z) ((if c then (other ∷ []) else []) ++ picked (λ t. has_label t lts.arcs) (free_labels (labels lts) basis) y)
    go true = ap₂ (λ z l. z ∷ l) start rest
    go false = rest

-- a row is met over the scale exactly where it is over a multiple
row_over : (row : LinearRow) (xs ys : List ℤ) (a b : ℤ) → pos 0 <ℤ a → pos 0 <ℤ b → map (λ z. a *ℤ z) xs ≡ map (λ z. b *ℤ z) ys
    → pos 0 ≤ℤ (dot row.coeffs xs +ℤ (row.constant *ℤ b)) → pos 0 ≤ℤ (dot row.coeffs ys +ℤ (row.constant *ℤ a))
row_over row xs ys a b pa pb same met = factor_not_negative b (dot row.coeffs ys +ℤ (row.constant *ℤ a)) pb
    (subst (λ z. pos 0 ≤ℤ z) (spread a (dot row.coeffs xs) row.constant b ∙ ap (λ z. z +ℤ (row.constant *ℤ (a *ℤ b))) dots
    ∙ shut b (dot row.coeffs ys) row.constant a) (mul_not_negative a (dot row.coeffs xs +ℤ (row.constant *ℤ b)) (weak a pa) met))
  where
    spread : (a s c b : ℤ) → a *ℤ (s +ℤ (c *ℤ b)) ≡ (a *ℤ s) +ℤ (c *ℤ (a *ℤ b))
    spread a s c b = simp ring

    shut : (b s c a : ℤ) → (b *ℤ s) +ℤ (c *ℤ (a *ℤ b)) ≡ b *ℤ (s +ℤ (c *ℤ a))
    shut b s c a = simp ring

    dots : a *ℤ dot row.coeffs xs ≡ b *ℤ dot row.coeffs ys
    dots = ap (λ z. a *ℤ z) (dot_comm row.coeffs xs) ∙ sym (dot-times a xs row.coeffs) ∙ ap (λ l. dot l row.coeffs) same ∙ dot-times b ys row.coeffs ∙ ap (λ z. b *ℤ z) (dot_comm ys row.coeffs)

pub found_meets : (s : Setting) (case : CaseSystem) (found : List Ratio) (first : ℤ) (effect : ℕ → ℤ) (scale m : ℤ) → pos 0 <ℤ scale
    → AreEffects s.lts s.tree s.basis effect → AreFound s.lts found first effect scale m → MeetsCase s case first effect scale
    → MeetsCase s case (top_at found (labels s.lts)) (found_effect s.lts found) m
found_meets s case found first effect scale m positive e f met k has =
    let start = top_at found (labels s.lts) in
    let other = found_effect s.lts found in
    row_over k.row (column_values s.lts s.basis s.class first effect) (column_values s.lts s.basis s.class start other) m scale f.positive positive
    (columns_times s.lts s.basis s.class m scale first start effect other (*ℤ_comm m first ∙ sym f.start_is ∙ *ℤ_comm start scale)
    (over_both s.lts s.tree s.basis found first effect scale m positive e f))
    (met k has)
