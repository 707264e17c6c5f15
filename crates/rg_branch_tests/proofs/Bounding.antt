-- Single rows bound a form.
use Rattle.std.proofs.Common.{◌≡◌, ⊎_elim, ℕ, suc, ◌+◌, ◌<◌, ◌≤◌, List, [], ◌∷◌, length, All, ap, subst, sym, ◌∙◌, arith}
use Rattle.std.specs.Prelude.{ℤ, pos, neg_ℤ, ◌+ℤ◌, ◌-ℤ◌, ◌*ℤ◌, ◌≤ℤ◌, ◌<ℤ◌, slice_index_or, FitsSigned}
use Rattle.std.specs.Int.{w128}
use Rattle.std.proofs.lemmas.Int.{ints}
use Rattle.std.proofs.lemmas.List.{length-map, get_or_default}
use Rattle.rg_integers.specs.Range.{InRange}
use Rattle.rg_integers.proofs.Ring.{ring}
use Rattle.rg_integers.proofs.Order.{mul_not_negative, mul-le}
use Rattle.rg_integers.specs.Sum.{sum_below}
use Rattle.rg_integers.proofs.Sums.{sum_below-same, sum_below-times}
use Rattle.rg_linear.specs.declared.row.Row.{Row}
use Rattle.rg_linear.specs.View.{linear_row, IsWellFormed}
use Rattle.rg_linear.specs.System.{LinearSystem, LinearRow, row_variable, row_at, entry}
use Rattle.rg_linear.specs.Branching.{Form, scaled_value}
use Rattle.rg_linear.specs.Room.{gap_of, gap, total, room}
use Rattle.rg_linear.proofs.Members.{equal_or_not}
use Rattle.rg_branch.specs.declared.bounded.Bounded.{Bounded}
use Rattle.rg_branch.specs.View.{form_of, forms_of}
use Rattle.rg_branch.specs.Asked.{IsFormOf, CanBranch}
use Rattle.rg_branch.proofs.Values.{form_value, most_of_times}
use Rattle.rg_branch.proofs.Nodes.{form_here}
use Rattle.rg_branch.proofs.Points.{form_is}
use Rattle.rg_branch_tests.specs.declared.bounds.Top.{Top}
use Rattle.rg_branch_tests.specs.Bounds.{AreTimes, IsLow, IsTop, IsBoundedForm, IsByRows, EachIsByRows, AreByRows}

-- ---- numbers

low_of : (t r c s f l : ℤ) → pos 0 ≤ℤ t → pos 0 ≤ℤ r → pos 0 <ℤ s → (t *ℤ c) ≤ℤ neg_ℤ (f *ℤ l) → (l *ℤ (f *ℤ s)) ≤ℤ (t *ℤ (r -ℤ (c *ℤ s)))
low_of t r c s f l ht hr hs h =
    let m = mul_not_negative t r ht hr in
    let n = mul-le (t *ℤ c) (neg_ℤ (f *ℤ l)) s (most s hs) h in
    let a : (t *ℤ c) *ℤ s ≡ t *ℤ (c *ℤ s) = simp ring in
    let b : neg_ℤ (f *ℤ l) *ℤ s ≡ neg_ℤ (l *ℤ (f *ℤ s)) = simp ring in
    let d : t *ℤ (r -ℤ (c *ℤ s)) ≡ (t *ℤ r) -ℤ (t *ℤ (c *ℤ s)) = simp ring (omega (arith, ints)) in
    omega (arith, ints)
  where
    most : (s : ℤ) → pos 0 <ℤ s → pos 0 ≤ℤ s
    most s h = omega (arith, ints)

high_of : (m x c s f h r : ℤ) → pos 0 <ℤ m → pos 0 <ℤ s → pos 0 ≤ℤ r → r ≡ (neg_ℤ m *ℤ x) +ℤ (c *ℤ s) → c ≤ℤ (m *ℤ (f *ℤ h)) → x ≤ℤ (h *ℤ (f *ℤ s))
high_of m x c s f h r hm hs hr is most =
    let n = mul-le c (m *ℤ (f *ℤ h)) s (weak s hs) most in
    let a : (m *ℤ (f *ℤ h)) *ℤ s ≡ m *ℤ (h *ℤ (f *ℤ s)) = simp ring in
    let b : neg_ℤ m *ℤ x ≡ neg_ℤ (m *ℤ x) = simp ring in
    most_of_times m x (h *ℤ (f *ℤ s)) hm (omega (arith, ints))
  where
    weak : (s : ℤ) → pos 0 <ℤ s → pos 0 ≤ℤ s
    weak s h = omega (arith, ints)

-- ---- one form

pub bounded_form : (system : LinearSystem) (before : ℕ) (b : Bounded) (row : ℕ) (times : ℤ) → IsFormOf system before b → IsLow system before b
    → IsTop system b row times → IsBoundedForm system before b
bounded_form system before b row times is low top = record {
  form = is;
  between = λ scale x p meets. (
    subst (λ z. (b.low *ℤ (b.scale *ℤ scale)) ≤ℤ z) (sym (form_value system before b is scale x p low.row))
        (low_of b.times (x (row_variable system (before + b.row))) (row_at system (before + b.row)).constant scale b.scale b.low is.not_negative
        (meets (before + b.row) low.row) p.positive low.constant),
    high_of times (scaled_value system (form_of b) x) (row_at system row).constant scale b.scale b.high
        (x (row_variable system row)) top.positive p.positive (meets row top.within)
        (p.rows row top.within ∙ ap (λ z. z +ℤ ((row_at system row).constant *ℤ scale)) (turned x)) top.constant,
  );
}
  where
    turn : (a b c : ℤ) → (a *ℤ b) *ℤ c ≡ a *ℤ (b *ℤ c)
    turn a b c = simp ring

    turned : (x : ℕ → ℤ) → sum_below system.columns (λ j. entry system row j *ℤ x j) ≡ neg_ℤ times *ℤ scaled_value system (form_of b) x
    turned x =
        sum_below-same system.columns _ (λ j. neg_ℤ times *ℤ (slice_index_or b.coeffs.items j (pos 0) *ℤ x j))
        (λ j h. ap (λ z. z *ℤ x j) (top.entries j h) ∙ turn (neg_ℤ times) (slice_index_or b.coeffs.items j (pos 0)) (x j))
        ∙ sum_below-times system.columns (neg_ℤ times) (λ j. slice_index_or b.coeffs.items j (pos 0) *ℤ x j)

-- ---- all forms

abbrev pub a_top : Top
a_top = record { row = 0; times = pos 0 }

pub can_by_rows : (system : LinearSystem) (before : ℕ) (forms : List Bounded) (tops : List Top) → AreByRows system before forms tops → CanBranch system before forms
can_by_rows system before forms tops by = record {
  each = λ k b lt. (by.each k b a_top lt).form;
  bounded = record {
    positive = λ f lt. (let w = below f lt in let b = some_form forms f w in subst (λ (form : Form). pos 0 <ℤ form.scale) (form_here forms f b w) (by.each f b a_top w).form.positive);
    between = λ f scale x lt p meets. (let w = below f lt in let b = some_form forms f w in subst
        (λ (form : Form). ((form.low *ℤ (form.scale *ℤ scale)) ≤ℤ scaled_value system form x) × (scaled_value system form x ≤ℤ (form.high *ℤ (form.scale *ℤ scale))))
        (form_here forms f b w) ((bounded f b w).between scale x p meets));
  };
  few_forms = (let few = by.few_forms in omega arith);
  few = by.few;
}
  where
    below : (f : ℕ) → f < length (forms_of forms) → f < length forms
    below f lt = subst (λ n. f < n) (length-map forms form_of) lt

    some_form : (forms : List Bounded) (f : ℕ) → f < length forms → Bounded
    some_form [] f lt = absurd (omega arith)
    some_form (x ∷ forms) f lt = x

    bounded : (f : ℕ) (b : Bounded) → f < length forms → IsBoundedForm system before (slice_index_or forms f b)
    bounded f b lt = let shown = by.each f b a_top lt in
        bounded_form system before (slice_index_or forms f b) (before + (slice_index_or tops f a_top).row) (slice_index_or tops f a_top).times shown.form shown.low shown.high

-- one more form with its top
pub one_more_by_rows : (system : LinearSystem) (before : ℕ) (forms : List Bounded) (tops : List Top) (n : ℕ) (b : Bounded)
    → n < length forms → length tops ≡ length forms → b ≡ slice_index_or forms n b → IsByRows system before b (slice_index_or tops n a_top)
    → ((f : ℕ) (b : Bounded) (t : Top) → f < n → IsByRows system before (slice_index_or forms f b) (slice_index_or tops f t))
    → (f : ℕ) (b : Bounded) (t : Top) → f < n + 1 → IsByRows system before (slice_index_or forms f b) (slice_index_or tops f t)
one_more_by_rows system before forms tops n b lt size at is known f d t below = ⊎_elim
    (λ same. subst (λ m. IsByRows system before (slice_index_or forms m d) (slice_index_or tops m t)) (sym same)
    (subst (IsByRows system before (slice_index_or forms n d)) (get_or_default tops n a_top t (subst (λ m. n < m) (sym size) lt))
    (subst (λ x. IsByRows system before x (slice_index_or tops n a_top)) (at ∙ get_or_default forms n b d lt) is)))
    (λ ne. known f d t (omega arith))
    (equal_or_not f n)

-- a form that isn't shown with its top
pub not_each : (system : LinearSystem) (before : ℕ) (forms : List Bounded) (tops : List Top) (n : ℕ) (b : Bounded) → n < length forms
    → b ≡ slice_index_or forms n b → ¬ IsByRows system before b (slice_index_or tops n a_top) → ¬ EachIsByRows system before forms tops
not_each system before forms tops n b lt at not each = not (subst (λ x. IsByRows system before x (slice_index_or tops n a_top)) (sym at) (each n b a_top lt))

-- ---- how many splits the bounds allow

gap_is : (h l : ℤ) (n : ℕ) → pos n ≡ h -ℤ l → gap_of (h -ℤ l) ≡ n
gap_is h l n e = sym (ap gap_of e)

next : (n : ℕ) (g : ℕ → ℕ) → total (n + 1) g ≡ total n g + g n
next n g = ap (λ m. total m g) (one n)
  where
    one : (n : ℕ) → n + 1 ≡ suc n
    one n = omega arith

pub one_more_gap : (forms : List Bounded) (n more : ℕ) (b : Bounded) → n < length forms → b ≡ slice_index_or forms n b → pos more ≡ b.high -ℤ b.low
    → total (n + 1) (gap (forms_of forms) []) ≡ total n (gap (forms_of forms) []) + more
one_more_gap forms n more b lt at size = next n (gap (forms_of forms) []) ∙ ap (λ g. total n (gap (forms_of forms) []) + g) here
  where
    here : gap (forms_of forms) [] n ≡ more
    here = subst (λ (form : Form). gap_of (form.high -ℤ form.low) ≡ more) (form_is forms n b lt at) (gap_is b.high b.low more size)

pub room_is : (forms : List Bounded) → total (length forms) (gap (forms_of forms) []) ≡ room (forms_of forms) []
room_is forms = ap (λ n. total n (gap (forms_of forms) [])) (sym (length-map forms form_of))

-- ---- what the code has tested

module _ (system : LinearSystem) (b : Bounded) (item : Row) (i : ℕ) (lt : i < length system.rows) (is : linear_row item ≡ row_at system i) where
  pub form_asked : (before : ℕ) → i ≡ before + b.row → length b.coeffs.items ≡ system.columns → pos 0 <ℤ b.scale → b.low ≤ℤ b.high
      → pos 0 ≤ℤ b.times → FitsSigned w128 b.scale → FitsSigned w128 b.times → InRange (b.scale *ℤ b.low) → InRange (b.scale *ℤ b.high)
      → All InRange b.coeffs.items → AreTimes b.coeffs.items b.times (linear_row item).coeffs → IsFormOf system before b
  form_asked before here size positive ordered not_negative scale times low high coeffs same = record {
    one_each = size;
    positive = positive;
    scale_in_range = in_range b.scale (weak b.scale positive) scale;
    coeffs_in_range = λ j less. coeffs j (pos 0) (subst (λ n. j < n) (sym size) less);
    ordered = ordered;
    low_in_range = low;
    high_in_range = high;
    not_negative = not_negative;
    times_in_range = in_range b.times not_negative times;
    row_within = λ ne. subst (λ k. k < length system.rows) here lt;
    multiple = λ j less. same.each j (subst (λ n. j < n) (sym size) less)
        ∙ ap (λ (r : LinearRow). b.times *ℤ slice_index_or r.coeffs j (pos 0)) (is ∙ ap (row_at system) here);
  }
    where
      weak : (z : ℤ) → pos 0 <ℤ z → pos 0 ≤ℤ z
      weak z h = omega (arith, ints)

      in_range : (z : ℤ) → pos 0 ≤ℤ z → FitsSigned w128 z → InRange z
      in_range z h fits = omega (arith, ints)

  pub low_asked : (before : ℕ) → i ≡ before + b.row → (product low : ℤ) → InRange product → product ≡ b.times *ℤ item.constant → low ≡ b.scale *ℤ b.low
      → product ≤ℤ neg_ℤ low → IsLow system before b
  low_asked before here product low fits is_product is_low least = record {
    row = subst (λ k. k < length system.rows) here lt;
    in_range = subst (λ (r : LinearRow). InRange (b.times *ℤ r.constant)) (is ∙ ap (row_at system) here) (subst InRange is_product fits);
    constant = subst (λ (r : LinearRow). (b.times *ℤ r.constant) ≤ℤ neg_ℤ (b.scale *ℤ b.low)) (is ∙ ap (row_at system) here)
        (subst (λ z. z ≤ℤ neg_ℤ (b.scale *ℤ b.low)) is_product (subst (λ z. product ≤ℤ neg_ℤ z) is_low least));
  }

  pub top_asked : (times : ℤ) → IsWellFormed system → pos 0 <ℤ times → (high most : ℤ)
      → high ≡ b.scale *ℤ b.high → most ≡ times *ℤ high → InRange most → item.constant ≤ℤ most → AreTimes (linear_row item).coeffs (neg_ℤ times) b.coeffs.items
      → IsTop system b i times
  top_asked times well positive high most is_high is_most fits constant same = record {
    within = lt;
    positive = positive;
    entries = λ j less. ap (λ (r : LinearRow). slice_index_or r.coeffs j (pos 0)) (sym is) ∙ same.each j (subst (λ n. j < n) (sym size) less);
    in_range = subst InRange (is_most ∙ ap (λ z. times *ℤ z) is_high) fits;
    constant = subst (λ (r : LinearRow). r.constant ≤ℤ (times *ℤ (b.scale *ℤ b.high))) is (subst (λ z. item.constant ≤ℤ z) (is_most ∙ ap (λ z. times *ℤ z) is_high) constant);
  }
    where
      size : length (linear_row item).coeffs ≡ system.columns
      size = ap (λ (r : LinearRow). length r.coeffs) is ∙ well.one_each i lt

  -- ---- what it can't miss

  pub low_met : (before : ℕ) → i ≡ before + b.row → IsLow system before b → InRange (b.times *ℤ item.constant) × ((b.times *ℤ item.constant) ≤ℤ neg_ℤ (b.scale *ℤ b.low))
  low_met before here low =
      subst (λ (r : LinearRow). InRange (b.times *ℤ r.constant) × ((b.times *ℤ r.constant) ≤ℤ neg_ℤ (b.scale *ℤ b.low))) (sym (is ∙ ap (row_at system) here)) (low.in_range, low.constant)

  pub top_met : (times : ℤ) → IsTop system b i times → item.constant ≤ℤ (times *ℤ (b.scale *ℤ b.high))
  top_met times top = subst (λ (r : LinearRow). r.constant ≤ℤ (times *ℤ (b.scale *ℤ b.high))) (sym is) top.constant

  pub top_times : (times : ℤ) → IsWellFormed system → length b.coeffs.items ≡ system.columns → IsTop system b i times
      → AreTimes (linear_row item).coeffs (neg_ℤ times) b.coeffs.items
  top_times times well size top = record {
    size = wide ∙ sym size;
    each = λ j less. ap (λ (r : LinearRow). slice_index_or r.coeffs j (pos 0)) is ∙ top.entries j (subst (λ n. j < n) wide less);
  }
    where
      wide : length (linear_row item).coeffs ≡ system.columns
      wide = ap (λ (r : LinearRow). length r.coeffs) is ∙ well.one_each i lt

  pub form_times : (before : ℕ) → i ≡ before + b.row → IsWellFormed system → IsFormOf system before b → AreTimes b.coeffs.items b.times (linear_row item).coeffs
  form_times before here well form = record {
    size = form.one_each ∙ sym wide;
    each = λ j less. form.multiple j (subst (λ n. j < n) form.one_each less)
        ∙ ap (λ (r : LinearRow). b.times *ℤ slice_index_or r.coeffs j (pos 0)) (sym (is ∙ ap (row_at system) here));
  }
    where
      wide : length (linear_row item).coeffs ≡ system.columns
      wide = ap (λ (r : LinearRow). length r.coeffs) is ∙ well.one_each i lt

pub form_in_range : (system : LinearSystem) (before : ℕ) (b : Bounded) → IsFormOf system before b → All InRange b.coeffs.items
form_in_range system before b form j d lt =
    subst InRange (get_or_default b.coeffs.items j (pos 0) d lt) (form.coeffs_in_range j (subst (λ n. j < n) form.one_each lt))
