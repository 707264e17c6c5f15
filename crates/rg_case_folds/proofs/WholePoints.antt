-- The system of a case has a point with whole forms exactly where whole numbers keep all rows of the case.
use Rattle.std.proofs.Common.{◌≡◌, ◌⊎◌, ⊎_elim, ◌↔◌, ℕ, zero, suc, ◌/◌, ◌%◌, ◌<◌, ◌≤◌, ◌+◌, ◌++◌, ◌&&◌, ◌||◌, is_some, unwrap_or, IfSome, Option, Some, None, IsNone, Bool, true, false, if◌then◌else◌, List, [], ◌∷◌, length, map, Contains, ◌==◌, eqb-true, inl, inr, refl, sym, ap, subst, ◌∙◌, arith}
use Rattle.std.specs.Prelude.{ℤ, pos, negsuc, ◌+ℤ◌, ◌-ℤ◌, ◌*ℤ◌, ◌<ℤ◌, ◌≤ℤ◌, unsigned_abs}
use Rattle.std.proofs.Math.Nat.{div-add-mod'}
use Rattle.std.proofs.Math.IntN.{*ℤ-zero}
use Rattle.std.proofs.lemmas.Int.{ints}
use Rattle.std.proofs.lemmas.Bool.{true≢false, cases_lt, cases_Bool}
use Rattle.rg_theory.specs.declared.Arc.{Arc}
use Rattle.rg_theory.specs.declared.Class.{Class}
use Rattle.rg_theory.specs.declared.Problem.{Problem}
use Rattle.rg_theory.specs.declared.Problem.TheVariants.{Event, States}
use Rattle.rg_theory.specs.Class.{IsMultiple, AllowsStart}
use Rattle.rg_theory.specs.ClassWords.{HasNumbersInRange}
use Rattle.rg_theory.specs.System.{System, IsInRange, states, labels}
use Rattle.rg_theory.proofs.Arcs.{arc_in_range}
use Rattle.rg_theory.specs.Tree.{IsTree, parikh}
use Rattle.rg_integers.proofs.Ring.{ring, mul_left_comm}
use Rattle.rg_integers.proofs.Order.{mul_positive}
use Rattle.rg_cert_meaning.specs.Expression.{numbers_by}
use Rattle.rg_cert_meaning.specs.declared.Variable.{Variable}
use Rattle.rg_cert_meaning.specs.Row.{form_variable, step_of, cases_of}
use Rattle.rg_cert_meaning.specs.declared.Form.{Form}
use Rattle.rg_cert_meaning.specs.Refutes.{IsSeparationProblem, IsSeparable}
use Rattle.rg_cert_meaning.proofs.Making.{rows_exact}
use Rattle.rg_case_folds.specs.Setting.{Setting, CaseSetting, case_at}
use Rattle.rg_case_folds.specs.Rewriting.{has_label, has_start, splits_start, split_forms, CaseSystem, used_labels, all_numbers}
use Rattle.rg_case_folds.specs.Shown.{IsLive}
use Rattle.rg_case_folds.specs.Values.{numbers_along}
use Rattle.rg_case_folds.specs.WholeParts.{AreWholeParts, HasWholePoint, SomeCaseHasWholePoint}
use Rattle.rg_case_folds.specs.Meaning.{IsCaseOver, AreEffects, used_effect, KeepsRowsOver, HasWholeSolutionIn, shifted}
use Rattle.rg_case_folds.proofs.CaseMeaning.{start_means, whole_means}
use Rattle.rg_case_folds.proofs.Kept.{arc_value, effects_given, meets_given}
use Rattle.rg_case_folds.proofs.PointEffects.{point_gives}
use Rattle.rg_case_folds.proofs.Points.{point_meets, given_point, points_exact}
use Rattle.rg_case_folds.proofs.Whole.{solution_of_whole, solve_kept}
use Rattle.rg_case_folds.proofs.Times.{whole_of_solution, allows_by, steps_by, start_steps}
use Rattle.rg_case_folds.specs.Placing.{missing}
use Rattle.rg_case_folds.proofs.Missing.{missing_is_least}
use Rattle.rg_case_folds.proofs.Lifts.{lifted_keeps}
use Rattle.rg_case_folds.proofs.CaseRows.{kept_tokens}
use Rattle.rg_case_folds.proofs.Along.{number_at_first}
use Rattle.rg_case_folds.proofs.WholeParts.{whole_rows}
use Rattle.rg_case_folds.proofs.Forms.{variable_multiple, whole_forms, bounded_has, plain_has, start_has, form_names, form_there, form_count, start_of_bound, start_of_plain}
use Rattle.rg_cert_meaning.specs.declared.Form.TheVariants as split_form
use Rattle.rg_case_folds.proofs.Products.{once, IsTimes, sum_times}
use Rattle.rg_cert_meaning.specs.declared.Variable.TheVariants.{Tokens, Effect}

-- ---- whole parts

record Parts (z k : ℤ) : Type 0 where
  pub part : ℤ
  pub rest : ℤ
  pub is : z ≡ (k *ℤ part) +ℤ rest
  pub not_negative : pos 0 ≤ℤ rest
  pub below : rest <ℤ k

parts_of : (z : ℤ) (x : ℕ) → Parts z (pos (suc x))
parts_of (pos a) x = record {
  part = pos (a / suc x);
  rest = pos (a % suc x);
  is = (let e = div-add-mod' a (suc x) in omega (arith, ints));
  not_negative = omega (arith, ints);
  below = (let lt : a % suc x < suc x = omega arith in omega (arith, ints));
}
parts_of (negsuc a) x = record {
  part = negsuc (a / suc x);
  rest = pos (x) -ℤ pos (a % suc x);
  is = (let e = div-add-mod' a (suc x) in omega (arith, ints));
  not_negative = (let lt : a % suc x < suc x = omega arith in omega (arith, ints));
  below = (let lt : a % suc x < suc x = omega arith in omega (arith, ints));
}

parts_by : (z k : ℤ) → pos 0 <ℤ k → Parts z k
parts_by z (pos zero) h = absurd (omega (arith, ints))
parts_by z (pos (suc x)) h = parts_of z x
parts_by z (negsuc x) h = absurd (omega (arith, ints))

-- some arc has a label that is used
label_found : (t : ℕ) (arcs : List Arc) → has_label t arcs ≡ true → (a : Arc) × Contains arcs a × (a.label ≡ t)
label_found t [] e = absurd (true≢false (sym e))
label_found t (a ∷ arcs) e = go (a.label == t) refl e (label_found t arcs)
  where
    go : (b : Bool) → (a.label == t) ≡ b → (if b then true else has_label t arcs) ≡ true → (has_label t arcs ≡ true → (x : Arc) × Contains arcs x × (x.label ≡ t))
        → (x : Arc) × Contains (a ∷ arcs) x × (x.label ≡ t)
    go true is e more = (a, (0, omega arith, refl), eqb-true a.label t is)
    go false is e more = (let (x, (k, lt, at), l) = more e in (x, (suc k, omega arith, at), l))

-- ---- whole numbers, chosen

module _ (lts : System) (k : ℤ) (positive : pos 0 <ℤ k) (x : Variable → ℤ) (rest : ℤ) (not_negative : pos 0 ≤ℤ rest) (below : rest <ℤ k)
    (tokens : (q : ℕ) → q < states lts → (u : ℤ) × (x (Tokens q) ≡ (k *ℤ u) +ℤ rest)) (effects : (t : ℕ) → has_label t lts.arcs ≡ true → IsTimes k (x (Effect t)))
  where
    choose_tokens : (q : ℕ) → (q < states lts) ⊎ (states lts ≤ q) → ℤ
    choose_tokens q (inl lt) = (tokens q lt).0
    choose_tokens q (inr le) = pos 0

    choose_effect : (t : ℕ) → (has_label t lts.arcs ≡ true) ⊎ (has_label t lts.arcs ≡ false) → ℤ
    choose_effect t (inl e) = (effects t e).0
    choose_effect t (inr e) = pos 0

    chosen : Variable → ℤ
    chosen (Tokens q) = choose_tokens q (cases_lt q (states lts))
    chosen (Effect t) = choose_effect t (cases_Bool (has_label t lts.arcs))

    chosen_tokens : (q : ℕ) → q < states lts → x (Tokens q) ≡ (k *ℤ chosen (Tokens q)) +ℤ rest
    unfolding chosen choose_tokens
    chosen_tokens q lt = at (cases_lt q (states lts))
      where
        at : (d : (q < states lts) ⊎ (states lts ≤ q)) → x (Tokens q) ≡ (k *ℤ choose_tokens q d) +ℤ rest
        at (inl h) = (tokens q h).1
        at (inr h) = absurd (omega arith)

    chosen_parts : AreWholeParts lts k x chosen
    unfolding chosen choose_tokens choose_effect
    chosen_parts = record {
      positive = positive;
      rest = rest;
      not_negative = not_negative;
      below = below;
      tokens = chosen_tokens;
      others = λ q le. past_tokens q le (cases_lt q (states lts));
      effects = λ t e. at_effect t e (cases_Bool (has_label t lts.arcs));
      unused = λ t e. past_effect t e (cases_Bool (has_label t lts.arcs));
    }
      where
        past_tokens : (q : ℕ) → states lts ≤ q → (d : (q < states lts) ⊎ (states lts ≤ q)) → pos 0 ≤ℤ choose_tokens q d
        past_tokens q le (inl h) = absurd (omega arith)
        past_tokens q le (inr h) = omega (arith, ints)

        at_effect : (t : ℕ) → has_label t lts.arcs ≡ true → (d : (has_label t lts.arcs ≡ true) ⊎ (has_label t lts.arcs ≡ false)) → x (Effect t) ≡ k *ℤ choose_effect t d
        at_effect t e (inl h) = (effects t h).1
        at_effect t e (inr h) = absurd (true≢false (sym e ∙ h))

        past_effect : (t : ℕ) → has_label t lts.arcs ≡ false → (d : (has_label t lts.arcs ≡ true) ⊎ (has_label t lts.arcs ≡ false)) → choose_effect t d ≡ pos 0
        past_effect t e (inl h) = absurd (true≢false (sym h ∙ e))
        past_effect t e (inr h) = refl

    pub some_parts : (y : Variable → ℤ) × AreWholeParts lts k x y × ((q : ℕ) → q < states lts → x (Tokens q) ≡ (k *ℤ y (Tokens q)) +ℤ rest)
    some_parts = (chosen, chosen_parts, chosen_tokens)

-- whole numbers that keep the rows are a solution where the class allows their start
-- whole parts do
solve_parts : (lts : System) (class : Class) (problem : Problem) (number : ℕ) (k : ℤ) (x y : Variable → ℤ) → IsInRange lts → IsSeparationProblem lts problem
    → IsLive lts problem → AllowsStart class (unsigned_abs (y (Tokens lts.initial))) → AreWholeParts lts k x y → KeepsRowsOver lts class problem number k x
    → HasWholeSolutionIn lts class problem number
solve_parts lts class problem number k x y fine asked live allows parts keeps = solve_kept lts class problem number y (whole_rows lts class problem number k x y fine asked live parts keeps) allows

-- in a problem of two states and a class without bound the class allows their start after a lift
solve_lifted : (lts : System) (class : Class) (s s' number : ℕ) (y : Variable → ℤ) → is_some class.bound ≡ false → HasNumbersInRange class
    → KeepsRowsOver lts class (States s s') number (pos 1) y → HasWholeSolutionIn lts class (States s s') number
solve_lifted lts class s s' number y bound numbers keeps =
    solve_kept lts class (States s s') number (shifted (pos more) y) (lifted_keeps lts class bound (pos more) (omega (arith, ints)) y s s' number keeps)
    (subst (λ m. AllowsStart class m) (sum_is (y (Tokens lts.initial)) more above) (lifted class.marking numbers.marking))
  where
    more : ℕ
    more = missing (unwrap_or class.marking 1) (unsigned_abs (y (Tokens lts.initial)))

    above : pos 0 ≤ℤ y (Tokens lts.initial)
    above = kept_tokens lts class (States s s') number (pos 1) y keeps lts.initial

    sum_is : (z : ℤ) (m : ℕ) → pos 0 ≤ℤ z → unsigned_abs z + m ≡ unsigned_abs (z +ℤ pos m)
    sum_is z m h = omega (arith, ints)

    lifted : (o : Option ℕ) → IfSome o (λ n. (0 < n) × (n ≤ 255))
        → IfSome o (λ n. IsMultiple n (unsigned_abs (y (Tokens lts.initial)) + missing (unwrap_or o 1) (unsigned_abs (y (Tokens lts.initial)))))
    lifted None h = tt
    lifted (Some n) (some, few) = (missing_is_least n (unsigned_abs (y (Tokens lts.initial))) some).0

-- ---- numbers along the tree whose forms are whole

-- the start is split on in a bounded class, and in an event problem of a plain one
bounded_splits : (class : Class) (problem : Problem) → is_some class.marking ≡ true → is_some class.bound ≡ true → splits_start class problem ≡ true
bounded_splits class (Event s t) m b = by (is_some class.marking) class.plain (is_some class.bound) m b
  where
    by : (m p b : Bool) → m ≡ true → b ≡ true → (m && (p || b)) ≡ true
    by true true b e f = refl
    by true false b e f = f
    by false p b e f = e
bounded_splits class (States s s') m b = by (is_some class.marking) (is_some class.bound) m b
  where
    by : (m b : Bool) → m ≡ true → b ≡ true → (m && b) ≡ true
    by true b e f = f
    by false b e f = e

pub plain_splits : (class : Class) (s t : ℕ) → is_some class.marking ≡ true → class.plain ≡ true → splits_start class (Event s t) ≡ true
plain_splits class s t m p = by (is_some class.marking) class.plain (is_some class.bound) m p
  where
    by : (m p b : Bool) → m ≡ true → p ≡ true → (m && (p || b)) ≡ true
    by true true b e f = refl
    by true false b e f = absurd (true≢false (sym f))
    by false p b e f = e

-- a class without marking allows every start
pub allowed : (class : Class) (m : ℕ) → (is_some class.marking ≡ true → AllowsStart class m) → AllowsStart class m
allowed class m some = by class.marking some
  where
    by : (o : Option ℕ) → (is_some o ≡ true → IfSome o (λ n. IsMultiple n m)) → IfSome o (λ n. IsMultiple n m)
    by None h = tt
    by (Some n) h = h refl

module _ (it : CaseSetting) (fine : IsInRange it.lts) (g : IsTree it.lts it.tree) (k : ℤ)
    (positive : pos 0 <ℤ k) (start : ℤ) (effect : ℕ → ℤ) (e : AreEffects it.lts it.tree it.basis effect)
    (keeps : KeepsRowsOver it.lts it.class it.problem it.number k (numbers_along it.lts it.tree start effect))
    (whole : (split : Form) → Contains (split_forms it.lts it.class it.problem) split → IsTimes k (numbers_along it.lts it.tree start effect (form_variable it.lts.initial split)))
    (starts : splits_start it.class it.problem ≡ true → (u : ℤ) × (numbers_along it.lts it.tree start effect (Tokens it.lts.initial) ≡ k *ℤ (pos (unwrap_or it.class.marking 1) *ℤ u)))
  where
    -- where all tokens are whole
    pub bounded_parts : is_some it.class.bound ≡ true
        → (y : Variable → ℤ) × AreWholeParts it.lts k (numbers_along it.lts it.tree start effect) y × AllowsStart it.class (unsigned_abs (y (Tokens it.lts.initial)))
    bounded_parts bound =
        let tokens : (q : ℕ) → q < states it.lts → (u : ℤ) × (numbers_along it.lts it.tree start effect (Tokens q) ≡ (k *ℤ u) +ℤ pos 0) =
        λ q lt. (let (u, h) = whole (split_form.Tokens q) (bounded_has it.lts it.class it.problem q bound lt) in (u, more _ _ h)) in
        let effects : (t : ℕ) → has_label t it.lts.arcs ≡ true → IsTimes k (effect t) = λ t h. of_arc t (label_found t it.lts.arcs h) in
        let (y, parts, exact) = some_parts it.lts k positive (numbers_along it.lts it.tree start effect) (pos 0) (omega (arith, ints)) positive tokens effects in (
          y,
          parts,
          allowed it.class (unsigned_abs (y (Tokens it.lts.initial)))
              (λ some. (let (u, h) = starts (bounded_splits it.class it.problem some bound) in allows_by it.class (y (Tokens it.lts.initial)) u
              (start_steps (unwrap_or it.class.marking 1) k (numbers_along it.lts it.tree start effect (Tokens it.lts.initial)) (y (Tokens it.lts.initial)) (pos 0) u
              (omega (arith, ints)) positive (exact it.lts.initial fine.initial) h))),
        )
      where
        more : (z y : ℤ) → z ≡ y → z ≡ y +ℤ pos 0
        more z y e = omega (arith, ints)

        less : (k a e b u w : ℤ) → a ≡ k *ℤ u → b ≡ k *ℤ w → a +ℤ e ≡ b → e ≡ k *ℤ (w -ℤ u)
        less k a e b u w h g m = let d : k *ℤ (w -ℤ u) ≡ (k *ℤ w) -ℤ (k *ℤ u) = simp ring (omega (arith, ints)) in omega (arith, ints)

        of_arc : (t : ℕ) → (a : Arc) × Contains it.lts.arcs a × (a.label ≡ t) → IsTimes k (effect t)
        of_arc t (a, has, is) =
            let ranges = arc_in_range it.lts fine a.from a.label a.to has in
            let (u, h) = whole (split_form.Tokens a.from) (bounded_has it.lts it.class it.problem a.from bound ranges.0) in
            let (w, h') = whole (split_form.Tokens a.to) (bounded_has it.lts it.class it.problem a.to bound ranges.2) in
            let m = arc_value it.lts it.class it.problem it.number k (numbers_along it.lts it.tree start effect) a.from a.label a.to keeps has in
            (w -ℤ u, subst (λ n. effect n ≡ k *ℤ (w -ℤ u)) is (less k _ _ _ u w h h' m))

    -- where all effects of labels with an arc are whole
    pub plain_parts : is_some it.class.bound ≡ false → it.class.plain ≡ true
        → (y : Variable → ℤ) × AreWholeParts it.lts k (numbers_along it.lts it.tree start effect) y
        × (splits_start it.class it.problem ≡ true → (u : ℤ) × (y (Tokens it.lts.initial) ≡ pos (unwrap_or it.class.marking 1) *ℤ u))
    plain_parts bound plain =
        let effects : (t : ℕ) → has_label t it.lts.arcs ≡ true → IsTimes k (effect t) = λ t h. (let (a, has, is) = label_found t it.lts.arcs h in
        let lt : t < labels it.lts = subst (λ n. n < labels it.lts) is (arc_in_range it.lts fine a.from a.label a.to has).1 in
        whole (split_form.Effect t) (plain_has it.lts it.class it.problem t bound plain lt h)) in
        let parts = parts_by start k positive in
        let tokens : (q : ℕ) → q < states it.lts → (u : ℤ) × (numbers_along it.lts it.tree start effect (Tokens q) ≡ (k *ℤ u) +ℤ parts.rest) = λ q lt.
        (let (u, h) = sum_times k (labels it.lts) (λ t. pos (parikh it.tree q t) *ℤ effect t)
        (λ t below. scaled k (pos (parikh it.tree q t)) (effect t)
        (⊎_elim (λ used. effects t used) (λ none. (pos 0, e.unused t none ∙ sym (*ℤ-zero k))) (cases_Bool (has_label t it.lts.arcs)))) in
        (parts.part +ℤ u, joined k start _ parts.part parts.rest u parts.is h)) in
        let (y, are, exact) = some_parts it.lts k positive (numbers_along it.lts it.tree start effect) parts.rest parts.not_negative parts.below tokens effects in (
          y,
          are,
          λ splits. (let (u, h) = starts splits in (
            u,
            start_steps (unwrap_or it.class.marking 1) k (numbers_along it.lts it.tree start effect (Tokens it.lts.initial))
                (y (Tokens it.lts.initial)) parts.rest u parts.not_negative parts.below (exact it.lts.initial fine.initial) h,
          )),
        )
      where
        scaled : (k n z : ℤ) → IsTimes k z → IsTimes k (n *ℤ z)
        scaled k n z (u, e) = (n *ℤ u, ap (λ y. n *ℤ y) e ∙ mul_left_comm n k u)

        joined : (k s m a r u : ℤ) → s ≡ (k *ℤ a) +ℤ r → m ≡ k *ℤ u → s +ℤ m ≡ (k *ℤ (a +ℤ u)) +ℤ r
        joined k s m a r u e h = let d : k *ℤ (a +ℤ u) ≡ (k *ℤ a) +ℤ (k *ℤ u) = simp ring (omega (arith, ints)) in omega (arith, ints)

-- of an event by the form of the start, of two states by a lift
by_problem : (lts : System) (class : Class) (problem : Problem) (number : ℕ) (k : ℤ) (x y : Variable → ℤ) → IsInRange lts → IsSeparationProblem lts problem
    → IsLive lts problem → HasNumbersInRange class → is_some class.bound ≡ false → class.plain ≡ true → AreWholeParts lts k x y
    → KeepsRowsOver lts class problem number k x → (splits_start class problem ≡ true → (u : ℤ) × (y (Tokens lts.initial) ≡ pos (unwrap_or class.marking 1) *ℤ u))
    → HasWholeSolutionIn lts class problem number
by_problem lts class (Event s t) number k x y fine asked live numbers bound plain are keeps starts =
    solve_parts lts class (Event s t) number k x y fine asked live
    (allowed class (unsigned_abs (y (Tokens lts.initial)))
    (λ some. (let (u, h) = starts (plain_splits class s t some plain) in allows_by class (y (Tokens lts.initial)) u h))) are keeps
by_problem lts class (States s s') number k x y fine asked live numbers bound plain are keeps starts =
    solve_lifted lts class s s' number y bound numbers (whole_rows lts class (States s s') number k x y fine asked live are keeps)

-- ---- points with whole forms

module _ (it : CaseSetting) (case : CaseSystem) (c : IsCaseOver it case) (live : IsLive it.lts it.problem) where
  abbrev WholeAt : ℤ → ℤ → (ℕ → ℤ) → Type 0
  WholeAt k start effect = ((split : Form) → Contains (split_forms it.lts it.class it.problem) split
      → IsTimes k (numbers_along it.lts it.tree start effect (form_variable it.lts.initial split)))
      × (splits_start it.class it.problem ≡ true → (u : ℤ) × (numbers_along it.lts it.tree start effect (Tokens it.lts.initial) ≡ k *ℤ (pos (unwrap_or it.class.marking 1) *ℤ u)))

  -- the point gives numbers along the tree with whole forms
  point_solution : has_start it.class ≡ true → ((k : ℤ) (start : ℤ) (effect : ℕ → ℤ) → pos 0 <ℤ k → AreEffects it.lts it.tree it.basis effect
      → KeepsRowsOver it.lts it.class it.problem it.number k (numbers_along it.lts it.tree start effect) → WholeAt k start effect
      → HasWholeSolutionIn it.lts it.class it.problem it.number) → HasWholePoint case → HasWholeSolutionIn it.lts it.class it.problem it.number
  point_solution starts solve (scale, v, p, meets, whole) =
      let (times, start, effect, g) = point_gives it case v c in
      let k : pos 0 <ℤ (times *ℤ scale) = mul_positive times scale g.positive p.positive in
      let keeps = (start_means it case start effect (times *ℤ scale) c g.effects k starts).0 ((point_meets it case v scale times start effect c p g).0 meets) in
      let steps : (split : Form) → Contains (split_forms it.lts it.class it.problem) split → (u : ℤ)
      × (numbers_along it.lts it.tree start effect (form_variable it.lts.initial split) ≡ (times *ℤ scale) *ℤ (pos (step_of it.class split) *ℤ u)) = λ split has.
      variable_multiple it case c v scale times start effect split starts whole g (form_names it.lts it.class it.problem split has) has in
      solve (times *ℤ scale) start effect k g.effects keeps
      ((λ split has. (let (u, h) = steps split has in (pos (step_of it.class split) *ℤ u, h))), (λ splits. steps split_form.Start (start_has it.lts it.class it.problem splits)))

  bounded_solution : is_some it.class.bound ≡ true → HasWholePoint case → HasWholeSolutionIn it.lts it.class it.problem it.number
  bounded_solution bound = point_solution (start_of_bound it.class bound) (λ k start effect positive e keeps (whole, steps).
      (let (y, are, allows) = bounded_parts it c.in_range c.is_tree k positive start effect e keeps whole steps bound in
      solve_parts it.lts it.class it.problem it.number k (numbers_along it.lts it.tree start effect) y c.in_range c.asked live allows are keeps))

  plain_solution : is_some it.class.bound ≡ false → it.class.plain ≡ true → HasWholePoint case → HasWholeSolutionIn it.lts it.class it.problem it.number
  plain_solution bound plain = point_solution (start_of_plain it.class plain) (λ k start effect positive e keeps (whole, steps).
      (let (y, are, start_is) = plain_parts it c.in_range c.is_tree k positive start effect e keeps whole steps bound plain in
      by_problem it.lts it.class it.problem it.number k (numbers_along it.lts it.tree start effect) y c.in_range c.asked live c.numbers bound plain are keeps start_is))

  -- whole numbers give a point with whole forms
  whole_point : has_start it.class ≡ true → HasWholeSolutionIn it.lts it.class it.problem it.number → HasWholePoint case
  whole_point starts (tokens, effect, allows, keeps) =
      let x = numbers_by tokens effect in
      let keeps' = (whole_means it.lts it.class it.problem it.number x).1 keeps in
      let e = effects_given it case x (pos 1) c keeps' in
      let (v, p, g) = given_point it case (x (Tokens it.lts.initial)) (used_effect it.lts x) (pos 1) c e (omega (arith, ints)) in (
        pos 1,
        v,
        p,
        (point_meets it case v (pos 1) (pos 1) (x (Tokens it.lts.initial)) (used_effect it.lts x) c p g).1
            (meets_given it case x (pos 1) c live (omega (arith, ints)) keeps'),
        λ f lt. (let (var, names, has, made) = form_there it case f c.is_case lt in let (w, is) = steps_of tokens allows
            (used_effect it.lts x) var in whole_forms it case c v (x (Tokens it.lts.initial))
            (used_effect it.lts x) f var w starts g names made is),
      )
    where
      steps_of : (tokens : ℕ → ℕ) → AllowsStart it.class (tokens it.lts.initial) → (effect : ℕ → ℤ) (split : Form)
          → (w : ℤ) × (numbers_along it.lts it.tree (pos (tokens it.lts.initial)) effect (form_variable it.lts.initial split) ≡ pos (step_of it.class split) *ℤ w)
      steps_of tokens allows effect (split_form.Tokens q) =
          (numbers_along it.lts it.tree (pos (tokens it.lts.initial)) effect (Tokens q), once (numbers_along it.lts it.tree (pos (tokens it.lts.initial)) effect (Tokens q)))
      steps_of tokens allows effect (split_form.Effect t) = (effect t, once (effect t))
      steps_of tokens allows effect split_form.Start =
          let (w, is) = steps_by it.class (tokens it.lts.initial) allows in (w, number_at_first it.lts it.tree (pos (tokens it.lts.initial)) effect c.is_tree ∙ is)

  -- a class without forms
  no_bound : is_some it.class.bound ≡ false → IsNone it.class.bound
  no_bound e = go it.class.bound e
    where
      go : (o : Option ℕ) → is_some o ≡ false → IsNone o
      go None e = refl
      go (Some k) e = absurd (true≢false e)

  formless : is_some it.class.bound ≡ false → it.class.plain ≡ false → HasWholePoint case ↔ HasWholeSolutionIn it.lts it.class it.problem it.number
  formless bound plain = (
    (λ (scale, v, p, meets, whole). whole_of_solution it.lts it.class it.problem it.number plain (no_bound bound) c.numbers ((points_exact it case c live).0 (scale, v, p, meets))),
    (λ solution. (let (scale, v, p, meets) = (points_exact it case c live).1 (solution_of_whole it.lts it.class it.problem it.number solution) in
        (scale, v, p, meets, λ f lt. absurd (none f (form_count it case c.is_case ∙ ap length (no_variable bound plain)) lt)))),
  )
    where
      no_variable : is_some it.class.bound ≡ false → it.class.plain ≡ false → split_forms it.lts it.class it.problem ≡ []
      no_variable b p =
          ap (λ x. (if x then map split_form.Tokens (all_numbers (states it.lts)) else
          (if it.class.plain then map split_form.Effect (used_labels it.lts) else []))
          ++ (if splits_start it.class it.problem then (split_form.Start ∷ []) else [])) b
          ∙ ap (λ x. (if x then map split_form.Effect (used_labels it.lts) else []) ++ (if splits_start it.class it.problem then (split_form.Start ∷ []) else [])) p
          ∙ ap (λ x. if x then (split_form.Start ∷ []) else []) (no_splits it.problem)
        where
          no_splits : (p' : Problem) → splits_start it.class p' ≡ false
          no_splits (Event s t) = by (is_some it.class.marking) it.class.plain (is_some it.class.bound) p b
            where
              by : (m p b : Bool) → p ≡ false → b ≡ false → (m && (p || b)) ≡ false
              by true true b e f = e
              by true false b e f = f
              by false p b e f = refl
          no_splits (States s s') = by (is_some it.class.marking) (is_some it.class.bound) b
            where
              by : (m b : Bool) → b ≡ false → (m && b) ≡ false
              by true b f = f
              by false b f = refl

      none : (f : ℕ) → length case.forms ≡ 0 → f < length case.forms → ⊥
      none f e lt = omega arith

  pub whole_points_exact : HasWholePoint case ↔ HasWholeSolutionIn it.lts it.class it.problem it.number
  whole_points_exact = ⊎_elim
      (λ bound. (bounded_solution bound, whole_point (start_of_bound it.class bound)))
      (λ bound. ⊎_elim (λ plain. (plain_solution bound plain, whole_point (start_of_plain it.class plain))) (λ plain. formless bound plain) (cases_Bool it.class.plain))
      (cases_Bool (is_some it.class.bound))

pub whole_point_separates : (s : Setting) (problem : Problem) (case : ℕ → CaseSystem) → IsLive s.lts problem → 0 < cases_of s.lts s.class problem
    → ((number : ℕ) → number < cases_of s.lts s.class problem → IsCaseOver (case_at s problem number) (case number))
    → SomeCaseHasWholePoint s.lts s.class problem case ↔ IsSeparable s.lts s.class problem
whole_point_separates s problem case live some c =
    let exact = rows_exact s.lts s.class problem (c 0 some).in_range (c 0 some).asked some in (
      (λ (number, lt, point). (let (tokens, effect, allows, keeps) =
          (whole_points_exact (case_at s problem number) (case number) (c number lt) live).0 point in exact.1 (number, lt, tokens, effect, allows, keeps))),
      (λ separable. (let (number, lt, tokens, effect, allows, keeps) = exact.0 separable in
          (number, lt, (whole_points_exact (case_at s problem number) (case number) (c number lt) live).1 (tokens, effect, allows, keeps)))),
    )
