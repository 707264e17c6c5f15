-- What addends add up to, and what their absolute values do.
use Rattle.std.proofs.Common.{◌≡◌, ◌≢◌, ⊎_elim, set, slice_index_or, get_or-set_other, get_or-set_same, eq-eqb, ne_eqb, ℕ, ◌+◌, ◌^◌, ◌<◌, ◌≤◌, ◌==◌, Bool, true, false, if◌then◌else◌, List, [], ◌∷◌, ◌++◌, map, drop, length, Option, Some, None, Ok, add-one, ap, refl, subst, sym, ◌∙◌, arith}
use Rattle.std.specs.Prelude.{ℤ, pos, neg_ℤ, ◌+ℤ◌, ◌-ℤ◌, ◌*ℤ◌, unsigned_abs}
use Rattle.std.proofs.lemmas.Int.{ints}
use Rattle.std.proofs.lemmas.Bool.{cases_eq}
use Rattle.rg_case_folds.proofs.Items.{from_index}
use Rattle.rg_cert_meaning.specs.Expression.{same_variable, coefficient_in}
use Rattle.rg_cert_data.specs.declared.term.Term.{Term}
use Rattle.rg_cert_data.specs.Sums.{term_of, terms_in}
use Rattle.std.proofs.lemmas.List.{drop_all}
use Rattle.rg_integers.proofs.Ring.{ring}
use Rattle.rg_integers.specs.Range.{InRange}
use Rattle.rg_integers.proofs.Ranges.{in_range-neg}
use Rattle.rg_folds.specs.Fold.{further, whole_sum, whole_product}
use Rattle.rg_case_folds.specs.Spreading.{ArcTimes, Addend, Addend.number, Addend.product, addend_fold, leaving}
use Rattle.rg_cert_meaning.specs.declared.Variable.TheVariants.{Tokens}
use Rattle.rg_farkas.specs.declared.multiplied.Row.{Row}
use Rattle.rg_farkas.specs.View.{size_fold, coefficient_at, row_addend}
use Rattle.rg_farkas.specs.Addends.{addend_value, total}
use Rattle.rg_farkas.proofs.Bounded.{fits_product, made_product, made_sum, smaller_product, coefficient_most}
use Rattle.rg_case_parts.proofs.Counting.{term_here, none_here}

abbrev pub weight : List Addend → ℕ
weight [] = 0
weight (a ∷ addends) = unsigned_abs (addend_value a) + weight addends

-- ---- a sum of addends whose absolute values are in range

made_value : (a : Addend) → InRange (addend_value a) → addend_fold a (Ok (addend_value a))
made_value (number z) range = refl
made_value (product x y) range = subst (λ z. whole_product x y (Ok z)) (same (x *ℤ y)) (fits_product x y range)
  where
    same : (p : ℤ) → p -ℤ (pos 0 *ℤ pos 0) ≡ p
    same p = omega (arith, ints)

fits_plus : (x y : ℤ) → InRange x → InRange y → InRange (x +ℤ y) → whole_sum x y (Ok (x +ℤ y))
fits_plus x y left right both = (record { left = subst InRange (one x) left; right = subst InRange (one (neg_ℤ y)) (in_range-neg y right); difference = subst InRange (whole x y) both }, whole x y)
  where
    one : (z : ℤ) → z ≡ z *ℤ pos 1
    one z = omega (arith, ints)

    whole : (x y : ℤ) → x +ℤ y ≡ (x *ℤ pos 1) -ℤ (neg_ℤ y *ℤ pos 1)
    whole x y = omega (arith, ints)

pub small_sum : (addends : List Addend) (start : ℤ) → unsigned_abs start + weight addends < 2 ^ 127 → further whole_sum addend_fold start addends (Ok (start +ℤ total addends))
small_sum [] start lt = none start
  where
    none : (z : ℤ) → z +ℤ pos 0 ≡ z
    none z = omega (arith, ints)
small_sum (a ∷ addends) start lt = (
  addend_value a,
  made_value a (omega arith),
  (
    start +ℤ addend_value a,
    fits_plus start (addend_value a) (omega arith) (omega arith) (near start (addend_value a) (omega arith)),
    subst (λ z. further whole_sum addend_fold (start +ℤ addend_value a) addends (Ok z)) (assoc start (addend_value a) (total addends))
        (small_sum addends (start +ℤ addend_value a) (closer start (addend_value a) (weight addends) lt)),
  ),
)
  where
    near : (x y : ℤ) → unsigned_abs x + unsigned_abs y < 2 ^ 127 → InRange (x +ℤ y)
    near x y lt = omega (arith, ints)

    closer : (x y : ℤ) (w : ℕ) → unsigned_abs x + (unsigned_abs y + w) < 2 ^ 127 → unsigned_abs (x +ℤ y) + w < 2 ^ 127
    closer x y w lt = omega (arith, ints)

    assoc : (x y z : ℤ) → (x +ℤ y) +ℤ z ≡ x +ℤ (y +ℤ z)
    assoc x y z = omega (arith, ints)

-- ---- one addend more

total-insert : (xs ys : List Addend) (z : ℤ) → total (xs ++ number z ∷ ys) ≡ total (xs ++ ys) +ℤ z
total-insert [] ys z = turn z (total ys)
  where
    turn : (x y : ℤ) → x +ℤ y ≡ y +ℤ x
    turn x y = omega (arith, ints)
total-insert (x ∷ xs) ys z = ap (λ s. addend_value x +ℤ s) (total-insert xs ys z) ∙ assoc (addend_value x) (total (xs ++ ys)) z
  where
    assoc : (x y z : ℤ) → x +ℤ (y +ℤ z) ≡ (x +ℤ y) +ℤ z
    assoc x y z = omega (arith, ints)

weight-insert : (xs ys : List Addend) (z : ℤ) → weight (xs ++ number z ∷ ys) ≡ weight (xs ++ ys) + unsigned_abs z
weight-insert [] ys z = omega arith
weight-insert (x ∷ xs) ys z = let rest = weight-insert xs ys z in omega (arith, rest)

-- an arc more, with its multiplier
pub total_next : (q : ℕ) (rows : List Addend) (x : ArcTimes) (done : List ArcTimes)
    → total (rows ++ leaving q (x ∷ done)) ≡ total (rows ++ leaving q done) +ℤ (if x.arc.from == q then x.multiplier else pos 0)
total_next q rows x done = go (x.arc.from == q)
  where
    go : (b : Bool) → total (rows ++ (if b then (number x.multiplier ∷ leaving q done) else leaving q done)) ≡ total (rows ++ leaving q done) +ℤ (if b then x.multiplier else pos 0)
    go true = total-insert rows (leaving q done) x.multiplier
    go false = none (total (rows ++ leaving q done))
      where
        none : (z : ℤ) → z ≡ z +ℤ pos 0
        none z = omega (arith, ints)

pub weight_next : (q : ℕ) (rows : List Addend) (x : ArcTimes) (done : List ArcTimes) → weight (rows ++ leaving q (x ∷ done)) ≤ weight (rows ++ leaving q done) + unsigned_abs x.multiplier
weight_next q rows x done = go (x.arc.from == q)
  where
    go : (b : Bool) → weight (rows ++ (if b then (number x.multiplier ∷ leaving q done) else leaving q done)) ≤ weight (rows ++ leaving q done) + unsigned_abs x.multiplier
    go true = let e = weight-insert rows (leaving q done) x.multiplier in omega (arith, e)
    go false = omega arith

-- ---- the addends of rows

-- no state's absolute values add up to more than the sum of three times the multipliers
pub rows_weight : (q : ℕ) (rows : List Row) (n : ℕ) (t : ℤ) → further whole_sum (size_fold (λ r. pos 3)) (pos n) rows (Ok t) → n + weight (map (row_addend q) rows) ≤ unsigned_abs t
rows_weight q [] n t e = subst (λ z. n + 0 ≤ unsigned_abs z) (sym e) (omega arith)
rows_weight q (r ∷ rows) n t (z, (x, times, e), (more, joins, rest)) =
    let made = made_product r.multiplier (pos 3) x times in
    let sum = made_sum n (unsigned_abs x) more (subst (λ y. whole_sum (pos n) y (Ok more)) e joins) in
    let most = subst (λ k. unsigned_abs (coefficient_at (Tokens q) r) ≤ k) r.expression.places (coefficient_most r.expression.terms (Tokens q)) in
    let less = subst (λ y. unsigned_abs (r.multiplier *ℤ coefficient_at (Tokens q) r) ≤ unsigned_abs y) (sym made.0) (smaller_product r.multiplier (coefficient_at (Tokens q) r) (pos 3) most) in
    let later = rows_weight q rows (n + unsigned_abs x) t (subst (λ y. further whole_sum (size_fold (λ r. pos 3)) y rows (Ok t)) sum.0 rest) in
    omega (arith, less, later)

-- ---- sums by state

-- the sum at one index with a number more
pub set_added : (sums : List ℤ) (i q : ℕ) (z s : ℤ) → i < length sums → s ≡ slice_index_or sums i (pos 0) +ℤ z
    → slice_index_or (set sums i s) q (pos 0) ≡ slice_index_or sums q (pos 0) +ℤ (if i == q then z else pos 0)
set_added sums i q z s lt is = ⊎_elim same other (cases_eq i q)
  where
    none : (x : ℤ) → x ≡ x +ℤ pos 0
    none x = omega (arith, ints)

    same : i ≡ q → slice_index_or (set sums i s) q (pos 0) ≡ slice_index_or sums q (pos 0) +ℤ (if i == q then z else pos 0)
    same e = ap (λ k. slice_index_or (set sums i s) k (pos 0)) (sym e) ∙ get_or-set_same sums i s (pos 0) lt ∙ is
        ∙ ap (λ k. slice_index_or sums k (pos 0) +ℤ z) e ∙ ap (λ b. slice_index_or sums q (pos 0) +ℤ (if b then z else pos 0)) (sym (eq-eqb i q e))

    other : i ≢ q → slice_index_or (set sums i s) q (pos 0) ≡ slice_index_or sums q (pos 0) +ℤ (if i == q then z else pos 0)
    other ne = get_or-set_other sums i q s (pos 0) (λ e. ne (sym e)) ∙ none (slice_index_or sums q (pos 0)) ∙ ap (λ b. slice_index_or sums q (pos 0) +ℤ (if b then z else pos 0)) (sym (ne_eqb i q ne))

-- a row more
pub row_added : (q : ℕ) (rows : List Row) (i : ℕ) (r : Row) (now next first : ℤ) → i < length rows → r ≡ slice_index_or rows i r → now +ℤ total (map (row_addend q) (drop i rows)) ≡ first
    → next ≡ now +ℤ (r.multiplier *ℤ coefficient_at (Tokens q) r) → next +ℤ total (map (row_addend q) (drop (i + 1) rows)) ≡ first
row_added q rows i r now next first lt is so_far e =
    ap (λ z. z +ℤ total (map (row_addend q) (drop (i + 1) rows))) e ∙ assoc now (r.multiplier *ℤ coefficient_at (Tokens q) r) (total (map (row_addend q) (drop (i + 1) rows)))
    ∙ ap (λ u. now +ℤ ((u.multiplier *ℤ coefficient_at (Tokens q) u) +ℤ total (map (row_addend q) (drop (i + 1) rows)))) is
    ∙ ap (λ l. now +ℤ total (map (row_addend q) l)) (sym (from_index rows i r lt)) ∙ so_far
  where
    assoc : (x y z : ℤ) → (x +ℤ y) +ℤ z ≡ x +ℤ (y +ℤ z)
    assoc x y z = omega (arith, ints)

-- ---- the terms of a row, entry by entry

module _ (q : ℕ) (m : ℤ) (entries : List (Option Term)) (i : ℕ) where
  abbrev left_from : ℕ → ℤ
  left_from n = coefficient_in (terms_in (drop n entries)) (Tokens q)

  -- a term more
  pub entry_added : (t : Term) → slice_index_or entries i None ≡ Some t → (now next first : ℤ) → now +ℤ (m *ℤ left_from i) ≡ first
      → next ≡ now +ℤ (m *ℤ (if same_variable (term_of t).variable (Tokens q) then (term_of t).coefficient else pos 0)) → next +ℤ (m *ℤ left_from (i + 1)) ≡ first
  entry_added t is now next first so_far e = ap (λ z. z +ℤ (m *ℤ left_from (i + 1))) e
      ∙ parts now m (if same_variable (term_of t).variable (Tokens q) then (term_of t).coefficient else pos 0) (left_from (i + 1)) ∙ ap (λ z. now +ℤ (m *ℤ z)) (sym here) ∙ so_far
    where
      parts : (now m x y : ℤ) → (now +ℤ (m *ℤ x)) +ℤ (m *ℤ y) ≡ now +ℤ (m *ℤ (x +ℤ y))
      parts now m x y = simp ring (omega (arith, ints))

      here : left_from i ≡ (if same_variable (term_of t).variable (Tokens q) then (term_of t).coefficient else pos 0) +ℤ left_from (i + 1)
      here = ap (λ l. coefficient_in l (Tokens q)) (term_here entries i t is ∙ ap (λ n. term_of t ∷ terms_in (drop n entries)) (sym (add-one i)))

  -- no term
  pub no_entry : slice_index_or entries i None ≡ None → (now first : ℤ) → now +ℤ (m *ℤ left_from i) ≡ first → now +ℤ (m *ℤ left_from (i + 1)) ≡ first
  no_entry is now first so_far = ap (λ l. now +ℤ (m *ℤ coefficient_in l (Tokens q))) (sym (none_here entries i is ∙ ap (λ n. terms_in (drop n entries)) (sym (add-one i)))) ∙ so_far

  pub entries_end : (now first : ℤ) → length entries ≤ i → now +ℤ (m *ℤ left_from i) ≡ first → now ≡ first
  entries_end now first past so_far = none now m ∙ ap (λ l. now +ℤ (m *ℤ coefficient_in l (Tokens q))) (sym (ap terms_in (drop_all i entries past))) ∙ so_far
    where
      none : (now m : ℤ) → now ≡ now +ℤ (m *ℤ pos 0)
      none now m = omega (arith, ints)
