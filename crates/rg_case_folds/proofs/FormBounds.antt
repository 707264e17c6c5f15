-- The forms of a case lie between their bounds wherever its rows are met.
use Rattle.std.proofs.Common.{◌≡◌, ◌⊎◌, inl, inr, refl, ℕ, ◌<◌, is_some, unwrap_or, Option, Some, None, true, false, [], ◌∷◌, Ok, sym, ap, subst, ◌∙◌, arith}
use Rattle.std.specs.Prelude.{ℤ, pos, negsuc, ◌+ℤ◌, ◌-ℤ◌, ◌*ℤ◌, ◌<ℤ◌, ◌≤ℤ◌}
use Rattle.std.proofs.lemmas.Int.{ints, by_lt_z}
use Rattle.std.proofs.lemmas.Bool.{true≢false, cases_Bool}
use Rattle.rg_theory.specs.declared.Class.{Class}
use Rattle.rg_theory.specs.declared.Problem.{Problem}
use Rattle.rg_theory.specs.ClassWords.{HasNumbersInRange}
use Rattle.rg_theory.specs.declared.Problem.TheVariants.{Event, States}
use Rattle.rg_theory.specs.System.{states, labels}
use Rattle.rg_integers.proofs.Ring.{ring, one-mul}
use Rattle.rg_integers.proofs.Order.{mul_positive, mul_not_negative, factor_not_negative}
use Rattle.rg_linear.specs.System.{IsPoint, MeetsRows}
use Rattle.rg_linear.specs.Branching.{Form, form_at, scaled_value, AreBounded}
use Rattle.rg_linear.proofs.Branches.{positive_times_less, positive_times_most}
use Rattle.rg_cert_meaning.specs.Expression.{plus}
use Rattle.rg_cert_meaning.specs.declared.Variable.{Variable}
use Rattle.rg_cert_meaning.specs.Row.{form_variable, step_of}
use Rattle.rg_cert_meaning.specs.declared.Form.{Form as SplitForm}
use Rattle.rg_case_folds.specs.Setting.{CaseSetting}
use Rattle.rg_case_folds.specs.Rewriting.{splits_start, form_fold, form_low, form_high, CaseSystem, rows_of}
use Rattle.rg_case_folds.specs.Values.{NamesLabels, numbers_along}
use Rattle.rg_case_folds.specs.Meaning.{IsCaseOver, KeepsRowsOver}
use Rattle.rg_case_folds.proofs.CaseMeaning.{start_means}
use Rattle.rg_case_folds.proofs.PointEffects.{point_gives}
use Rattle.rg_case_folds.proofs.Points.{point_meets}
use Rattle.rg_case_folds.proofs.Forms.{form_there, form_positive, form_value, point_form, step_positive, IsSplitOf, split_is, split_starts, start_split}
use Rattle.rg_case_folds.proofs.Along.{number_at_first}
use Rattle.rg_case_folds.proofs.StartBounds.{start_bounded}
use Rattle.rg_cert_meaning.specs.Refutes.{IsSeparationProblem}
use Rattle.rg_cert_meaning.specs.declared.RowName.TheVariants as row_name
use Rattle.rg_cert_meaning.specs.declared.Form.TheVariants as split_form
use Rattle.rg_fraction.proofs.Orders.{weak}
use Rattle.rg_cert_meaning.specs.declared.Variable.TheVariants.{Tokens, Effect}

-- the value lies between two bounds, times a scale
abbrev IsBetween : ℤ → ℤ → ℤ → ℤ → Type 0
IsBetween low high scale value = ((low *ℤ scale) ≤ℤ value) × (value ≤ℤ (high *ℤ scale))

most_of_times : (k a b : ℤ) → pos 0 <ℤ k → (k *ℤ a) ≤ℤ (k *ℤ b) → a ≤ℤ b
most_of_times k a b h g = by_lt_z b a (λ less. (let m = positive_times_less k b a h less in absurd (omega (arith, ints)))) (λ most. most)

module _ (t s f z v : ℤ) (ht : pos 0 <ℤ t) (hf : pos 0 <ℤ f) where
  turn : (a : ℤ) → f *ℤ (a *ℤ (t *ℤ s)) ≡ t *ℤ (a *ℤ (f *ℤ s))
  turn a = simp ring

  -- the bounds of a variable are those of its form
  bounds_of : (low high : ℤ) → f *ℤ z ≡ t *ℤ v → IsBetween low high (t *ℤ s) z → IsBetween low high (f *ℤ s) v
  bounds_of low high e (below, above) = (
    most_of_times t _ _ ht (carry _ _ _ _ (positive_times_most f _ _ hf below) (turn low) e),
    most_of_times t _ _ ht (carry _ _ _ _ (positive_times_most f _ _ hf above) e (turn high)),
  )
    where
      carry : (a b a' b' : ℤ) → a ≤ℤ b → a ≡ a' → b ≡ b' → a' ≤ℤ b'
      carry a b a' b' h e g = omega (arith, ints)

  -- by steps, where the least is 0
  start_bounds : (n : ℕ) (high : ℤ) → 0 < n → f *ℤ z ≡ pos n *ℤ (t *ℤ v) → IsBetween (pos 0) high (t *ℤ s) z → IsBetween (pos 0) high (f *ℤ s) v
  start_bounds n high some e (below, above) = (from_zero (f *ℤ s) v low, most_of_times t v (high *ℤ (f *ℤ s)) ht most)
    where
      from_zero : (a v : ℤ) → pos 0 ≤ℤ v → (pos 0 *ℤ a) ≤ℤ v
      from_zero a v h = omega (arith, ints)

      to_zero : (a z : ℤ) → (pos 0 *ℤ a) ≤ℤ z → pos 0 ≤ℤ z
      to_zero a z h = omega (arith, ints)

      positive : (n : ℕ) → 0 < n → pos 0 <ℤ pos n
      positive n h = omega (arith, ints)

      one_time : pos 0 ≤ℤ (t *ℤ v)
      one_time = factor_not_negative (pos n) (t *ℤ v) (positive n some) (subst (λ w. pos 0 ≤ℤ w) e (mul_not_negative f z (weak f hf) (to_zero (t *ℤ s) z below)))

      low : pos 0 ≤ℤ v
      low = factor_not_negative t v ht one_time

      more : (n : ℕ) (w : ℤ) → 0 < n → pos 0 ≤ℤ w → w ≤ℤ (pos n *ℤ w)
      more n w some h =
          let d = mul_not_negative (pos n -ℤ pos 1) w (less n some) h in
          let is : (pos n -ℤ pos 1) *ℤ w ≡ (pos n *ℤ w) -ℤ w = simp ring (omega (arith, ints)) in
          omega (arith, ints)
        where
          less : (n : ℕ) → 0 < n → pos 0 ≤ℤ (pos n -ℤ pos 1)
          less n h = omega (arith, ints)

      chain : (a b c d : ℤ) → a ≤ℤ b → b ≡ c → c ≤ℤ d → a ≤ℤ d
      chain a b c d h g k = omega (arith, ints)

      most : (t *ℤ v) ≤ℤ (t *ℤ (high *ℤ (f *ℤ s)))
      most = subst (λ w. (t *ℤ v) ≤ℤ w) (turn high)
          (chain (t *ℤ v) (pos n *ℤ (t *ℤ v)) (f *ℤ z) (f *ℤ (high *ℤ (t *ℤ s))) (more n (t *ℤ v) some one_time) (sym e)
          (positive_times_most f z (high *ℤ (t *ℤ s)) hf above))

  -- the bounds of the variable are those of its form, by steps of any number where the least is 0
  form_bounds : (class : Class) (split : SplitForm) (high : ℤ) → HasNumbersInRange class → f *ℤ z ≡ pos (step_of class split) *ℤ (t *ℤ v)
      → IsBetween (form_low split) high (t *ℤ s) z → IsBetween (form_low split) high (f *ℤ s) v
  form_bounds class (split_form.Tokens q) high numbers e both = bounds_of (pos 0) high (e ∙ one-mul (t *ℤ v)) both
  form_bounds class (split_form.Effect u) high numbers e both = bounds_of (negsuc 0) high (e ∙ one-mul (t *ℤ v)) both
  form_bounds class split_form.Start high numbers e both =
      start_bounds (step_of class split_form.Start) high (step_positive class split_form.Start numbers) e both

effect_both : (k z : ℤ) → pos 0 ≤ℤ (((negsuc 0 *ℤ z) +ℤ pos 0) +ℤ (pos 1 *ℤ k)) → pos 0 ≤ℤ (((pos 1 *ℤ z) +ℤ pos 0) +ℤ (pos 1 *ℤ k)) → IsBetween (negsuc 0) (pos 1) k z
effect_both k z h g = (omega (arith, ints), omega (arith, ints))

module _ (it : CaseSetting) (case : CaseSystem) (c : IsCaseOver it case) where
  abbrev IsForm : SplitForm → Type 0
  IsForm split = IsSplitOf it.lts it.class it.problem split

  module _ (k start : ℤ) (effect : ℕ → ℤ) where
    abbrev x : Variable → ℤ
    x = numbers_along it.lts it.tree start effect

    abbrev Keeps : Problem → Type 0
    Keeps p = KeepsRowsOver it.lts it.class p it.number k x

    by_low : (p : Problem) → Keeps p → (q : ℕ) → (pos 0 *ℤ k) ≤ℤ x (Tokens q)
    by_low p kept q = tokens_low (x (Tokens q)) (row p kept)
      where
        row : (p : Problem) → Keeps p → pos 0 ≤ℤ (((pos 1 *ℤ x (Tokens q)) +ℤ pos 0) +ℤ (pos 0 *ℤ k))
        row (Event s t) kept = kept (row_name.Tokens q) tt
        row (States s s') kept = kept (row_name.Tokens q) tt

        tokens_low : (z : ℤ) → pos 0 ≤ℤ (((pos 1 *ℤ z) +ℤ pos 0) +ℤ (pos 0 *ℤ k)) → (pos 0 *ℤ k) ≤ℤ z
        tokens_low z h = omega (arith, ints)

    by_high : (p : Problem) → Keeps p → (q : ℕ) → is_some it.class.bound ≡ true → q < states it.lts → x (Tokens q) ≤ℤ (pos (unwrap_or it.class.bound 0) *ℤ k)
    by_high p kept q bound lt = tokens_high (x (Tokens q)) (pos (unwrap_or it.class.bound 0)) (row p kept)
      where
        row : (p : Problem) → Keeps p → pos 0 ≤ℤ (((negsuc 0 *ℤ x (Tokens q)) +ℤ pos 0) +ℤ (pos (unwrap_or it.class.bound 0) *ℤ k))
        row (Event s t) kept = kept (row_name.Cap q) (lt, bound)
        row (States s s') kept = kept (row_name.Cap q) (lt, bound)

        tokens_high : (z b : ℤ) → pos 0 ≤ℤ (((negsuc 0 *ℤ z) +ℤ pos 0) +ℤ (b *ℤ k)) → z ≤ℤ (b *ℤ k)
        tokens_high z b h = omega (arith, ints)

    by_effect : (p : Problem) → Keeps p → (t : ℕ) → it.class.plain ≡ true → t < labels it.lts → IsBetween (negsuc 0) (pos 1) k (x (Effect t))
    by_effect (Event s u) kept t plain lt = effect_both k (x (Effect t)) (kept (row_name.Up t) (lt, plain)) (kept (row_name.Down t) (lt, plain))
    by_effect (States s s') kept t plain lt = effect_both k (x (Effect t)) (kept (row_name.Up t) (lt, plain)) (kept (row_name.Down t) (lt, plain))

    by_event : (p : Problem) → IsSeparationProblem it.lts p → Keeps p → pos 0 ≤ℤ k → it.class.plain ≡ true → (s t : ℕ) → p ≡ Event s t
        → x (Tokens it.lts.initial) ≤ℤ (pos (states it.lts) *ℤ k)
    by_event (Event s t) asked kept scale plain s' t' same =
        from_first (x (Tokens it.lts.initial)) start (pos (states it.lts)) (number_at_first it.lts it.tree start effect c.is_tree)
        (start_bounded it.lts it.tree it.class s t it.number k start effect c.in_range c.is_tree (c.reachable.each s asked.0) asked.1 plain scale kept)
      where
        from_first : (z s b : ℤ) → z ≡ s → s ≤ℤ (b *ℤ k) → z ≤ℤ (b *ℤ k)
        from_first z s b e h = omega (arith, ints)
    by_event (States s s') asked kept scale plain s'' t' same = absurd (is_event (States s s') (Event s'' t') same tt)
      where
        IsStates : Problem → Type 0
        IsStates (Event s t) = ⊥
        IsStates (States s s') = Unit {0}

        is_event : (a b : Problem) → a ≡ b → IsStates a → IsStates b
        is_event a b e h = subst IsStates e h

    -- the bound of the start
    start_high : Keeps it.problem → pos 0 ≤ℤ k → splits_start it.class it.problem ≡ true
        → x (Tokens it.lts.initial) ≤ℤ (pos (unwrap_or it.class.bound (states it.lts)) *ℤ k)
    start_high keeps scale splits = by_cases (cases_Bool (is_some it.class.bound)) (start_split it.class it.problem splits).1
      where
        of_bound : (o : Option ℕ) (d : ℕ) → is_some o ≡ true → unwrap_or o 0 ≡ unwrap_or o d
        of_bound None d e = absurd (true≢false (sym e))
        of_bound (Some b) d e = refl

        of_none : (o : Option ℕ) (d : ℕ) → is_some o ≡ false → d ≡ unwrap_or o d
        of_none None d e = refl
        of_none (Some b) d e = absurd (true≢false e)

        by_cases : (is_some it.class.bound ≡ true) ⊎ (is_some it.class.bound ≡ false)
            → (is_some it.class.bound ≡ true) ⊎ ((it.class.plain ≡ true) × ((s : ℕ) × (t : ℕ) × (it.problem ≡ Event s t)))
            → x (Tokens it.lts.initial) ≤ℤ (pos (unwrap_or it.class.bound (states it.lts)) *ℤ k)
        by_cases (inl bound) _ = subst (λ b. x (Tokens it.lts.initial) ≤ℤ (pos b *ℤ k)) (of_bound it.class.bound (states it.lts) bound)
            (by_high it.problem keeps it.lts.initial bound c.in_range.initial)
        by_cases (inr none) (inl bound) = absurd (true≢false (sym bound ∙ none))
        by_cases (inr none) (inr (plain, (s, t, same))) = subst (λ b. x (Tokens it.lts.initial) ≤ℤ (pos b *ℤ k)) (of_none it.class.bound (states it.lts) none)
            (by_event it.problem c.asked keeps scale plain s t same)

    -- the rows bound a variable that has a form
    variable_bounds : (split : SplitForm) → pos 0 ≤ℤ k → Keeps it.problem → IsForm split
        → IsBetween (form_low split) (form_high it.lts it.class split) k (x (form_variable it.lts.initial split))
    variable_bounds (split_form.Tokens q) scale keeps (bound, lt) = (by_low it.problem keeps q, by_high it.problem keeps q bound lt)
    variable_bounds (split_form.Effect t) scale keeps (bound, plain, used, lt) = by_effect it.problem keeps t plain lt
    variable_bounds split_form.Start scale keeps splits = (by_low it.problem keeps it.lts.initial, start_high keeps scale splits)

  pub forms_bounded : AreBounded (rows_of case) case.forms
  forms_bounded = record {
    positive = λ f lt. (let (split, names, has, made) = form_there it case f c.is_case lt in form_positive it case c split (form_at case.forms f) made);
    between = λ f scale v lt p meets.
        (let (split, names, has, made) = form_there it case f c.is_case lt in
        between (form_at case.forms f) split scale v p meets names (split_is it.lts it.class it.problem split has) made);
  }
    where
      between : (form : Form) (split : SplitForm) (scale : ℤ) (v : ℕ → ℤ) → IsPoint (rows_of case) scale v → MeetsRows (rows_of case) v
          → NamesLabels (labels it.lts) (plus (form_variable it.lts.initial split) ∷ []) → IsForm split → form_fold it.setting split (Ok form)
          → IsBetween form.low form.high (form.scale *ℤ scale) (scaled_value (rows_of case) form v)
      between form split scale v p meets names own made =
          let (times, start, effect, g) = point_gives it case v c in
          let k : pos 0 <ℤ (times *ℤ scale) = mul_positive times scale g.positive p.positive in
          let starts = split_starts it.lts it.class it.problem split own in
          let keeps = (start_means it case start effect (times *ℤ scale) c g.effects k starts).0 ((point_meets it case v scale times start effect c p g).0 meets) in
          let value = form_value it case c split form start effect made names (λ none. absurd (true≢false (sym starts ∙ none))) g.effects in
          let over = point_form it case c v times start effect form g in
          ends (form.scale *ℤ scale) (scaled_value (rows_of case) form v) made
          (form_bounds times scale form.scale (numbers_along it.lts it.tree start effect (form_variable it.lts.initial split)) (scaled_value (rows_of case) form v)
          g.positive (form_positive it case c split form made) it.class split (form_high it.lts it.class split) c.numbers
          (sym value ∙ ap (λ z. pos (step_of it.class split) *ℤ z) (sym over))
          (variable_bounds (times *ℤ scale) start effect split (weak (times *ℤ scale) k) keeps own))
        where
          ends : (s z : ℤ) → form_fold it.setting split (Ok form) → IsBetween (form_low split) (form_high it.lts it.class split) s z → IsBetween form.low form.high s z
          ends s z (scaled, fold, e) both = subst (λ (low : ℤ). IsBetween low form.high s z) (sym (ap (λ (f : Form). f.low) e))
              (subst (λ (high : ℤ). IsBetween (form_low split) high s z) (sym (ap (λ (f : Form). f.high) e)) both)
