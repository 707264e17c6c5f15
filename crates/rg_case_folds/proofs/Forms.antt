-- The forms of a case are worth the tokens and effects that they name.
use Rattle.std.proofs.Common.{◌≡◌, ⊎_elim, ℕ, zero, suc, ◌<◌, ◌≤◌, ◌||◌, ◌&&◌, ◌⊎◌, inl, inr, is_some, unwrap_or, Option, Some, None, IfSome, Bool, true, false, if◌then◌else◌, List, [], ◌∷◌, length, map, Result, Ok, Contains, refl, sym, ap, subst, ◌∙◌, arith}
use Rattle.std.specs.Prelude.{ℤ, pos, ◌+ℤ◌, ◌*ℤ◌, ◌<ℤ◌, slice_index_or}
use Rattle.std.proofs.lemmas.Int.{ints}
use Rattle.std.proofs.lemmas.Bool.{true≢false}
use Rattle.std.proofs.lemmas.List.{get_or_default}
use Rattle.std.proofs.lemmas.List.Elements.{Contains-append_left, Contains-append_right, Contains-append_cases}
use Rattle.rg_theory.specs.declared.Class.{Class}
use Rattle.rg_theory.specs.declared.Problem.{Problem}
use Rattle.rg_theory.specs.declared.Problem.TheVariants.{Event, States}
use Rattle.rg_theory.specs.ClassWords.{HasNumbersInRange}
use Rattle.rg_theory.specs.System.{System, states, labels}
use Rattle.rg_theory.proofs.Lists.{Contains-cons_cases, map_there, map_from}
use Rattle.rg_integers.specs.Sum.{dot, number_at}
use Rattle.rg_integers.proofs.Ring.{ring, mul_left_comm}
use Rattle.rg_integers.proofs.Order.{mul-cancel_left, positive_differs, mul_positive}
use Rattle.rg_integers.proofs.Sums.{sum_below-same, sum_below-times}
use Rattle.rg_integers.specs.declared.term.Wide.{Wide}
use Rattle.rg_linear.specs.Branching.{Form, form_at, scaled_value, FormsWhole}
use Rattle.rg_cert_meaning.specs.Expression.{plus}
use Rattle.rg_cert_meaning.specs.Row.{form_variable, step_of}
use Rattle.rg_cert_meaning.specs.declared.Form.{Form as SplitForm}
use Rattle.rg_case_folds.specs.Setting.{Setting, CaseSetting}
use Rattle.rg_folds.specs.Fold.{each}
use Rattle.rg_case_folds.specs.Rewriting.{has_label, has_start, splits_start, split_forms, form_fold, CaseSystem, rows_of, system_fold, used_labels, all_numbers}
use Rattle.rg_case_folds.specs.Values.{NamesLabels, numbers_along, column_values}
use Rattle.rg_case_folds.proofs.ExactRows.{terms_value}
use Rattle.rg_case_folds.proofs.Signs.{terms_positive}
use Rattle.rg_case_folds.specs.Meaning.{IsCaseOver, AreEffects, AreGivenBy}
use Rattle.rg_case_folds.proofs.Lists.{first, nothing, where_is, where_has, if_true, if_false, of_if, of_optional}
use Rattle.rg_case_folds.proofs.ColumnValues.{row_sum}
use Rattle.rg_case_folds.proofs.Products.{grouped, once}
use Rattle.rg_cert_meaning.specs.declared.Form.TheVariants as split_form

-- ---- the forms are those of the variables, in order

module _ {A X : Type 0} (make : A → Result X Wide → Type 0) where
  pub each_length : (items : List A) (xs : List X) → each make items (Ok xs) → length xs ≡ length items
  each_length [] xs e = ap length e
  each_length (a ∷ items) xs (x, is, (rest, each_is, e)) = ap length e ∙ ap suc (each_length items rest each_is)

  pub each_at : (items : List A) (xs : List X) (f : ℕ) (a : A) (d : X) → each make items (Ok xs) → f < length items
      → make (slice_index_or items f a) (Ok (slice_index_or xs f d))
  each_at [] xs f a d e lt = absurd (omega arith)
  each_at (b ∷ items) xs zero a d (x, is, (rest, each_is, e)) lt = subst (λ l. make b (Ok (slice_index_or l 0 d))) (sym e) is
  each_at (b ∷ items) xs (suc f) a d (x, is, (rest, each_is, e)) lt =
      subst (λ l. make (slice_index_or items f a) (Ok (slice_index_or l (suc f) d))) (sym e) (each_at items rest f a d each_is (omega arith))

-- ---- which variables have a form

module _ (class : Class) where
  -- a class with forms has Start
  pub start_of_bound : is_some class.bound ≡ true → has_start class ≡ true
  start_of_bound e = go class.pure class.plain (is_some class.bound) e
    where
      go : (a b d : Bool) → d ≡ true → (a || (b || d)) ≡ true
      go true b d e = refl
      go false true d e = refl
      go false false d e = e

  pub start_of_plain : class.plain ≡ true → has_start class ≡ true
  start_of_plain e = go class.pure class.plain (is_some class.bound) e
    where
      go : (a b d : Bool) → b ≡ true → (a || (b || d)) ≡ true
      go true b d e = refl
      go false true d e = refl
      go false false d e = absurd (true≢false (sym e))

  -- where the start is split on it has to be a multiple, and has a bound: that of the class, or that of an event in a plain one
  pub start_split : (problem : Problem) → splits_start class problem ≡ true
      → (is_some class.marking ≡ true) × ((is_some class.bound ≡ true) ⊎ ((class.plain ≡ true) × ((s : ℕ) × (t : ℕ) × (problem ≡ Event s t))))
  start_split (Event s t) e = by (is_some class.marking) class.plain (is_some class.bound) e
    where
      by : (m p b : Bool) → (m && (p || b)) ≡ true → (m ≡ true) × ((b ≡ true) ⊎ ((p ≡ true) × ((s' : ℕ) × (t' : ℕ) × (Event s t ≡ Event s' t'))))
      by false p b e = absurd (true≢false (sym e))
      by true true b e = (refl, inr (refl, (s, t, refl)))
      by true false true e = (refl, inl refl)
      by true false false e = absurd (true≢false (sym e))
  start_split (States s s') e = by (is_some class.marking) (is_some class.bound) e
    where
      by : (m b : Bool) → (m && b) ≡ true → (m ≡ true) × ((b ≡ true) ⊎ ((class.plain ≡ true) × ((s'' : ℕ) × (t' : ℕ) × (States s s' ≡ Event s'' t'))))
      by false b e = absurd (true≢false (sym e))
      by true true e = (refl, inl refl)
      by true false e = absurd (true≢false (sym e))

  pub step_positive : (split : SplitForm) → HasNumbersInRange class → 0 < step_of class split
  step_positive (split_form.Tokens q) numbers = omega arith
  step_positive (split_form.Effect t) numbers = omega arith
  step_positive split_form.Start numbers = by class.marking numbers.marking
    where
      by : (o : Option ℕ) → IfSome o (λ n. (0 < n) × (n ≤ 255)) → 0 < unwrap_or o 1
      by None h = omega arith
      by (Some n) h = h.0

module _ (lts : System) (class : Class) (problem : Problem) where
  abbrev tokens : List SplitForm
  tokens = map split_form.Tokens (all_numbers (states lts))

  abbrev effects : List SplitForm
  effects = map split_form.Effect (used_labels lts)

  abbrev plain_effects : List SplitForm
  plain_effects = if class.plain then effects else []

  abbrev first_forms : List SplitForm
  first_forms = if is_some class.bound then tokens else plain_effects

  abbrev start_form : List SplitForm
  start_form = if splits_start class problem then (split_form.Start ∷ []) else []

  abbrev HasForm : SplitForm → Type 0
  HasForm split = Contains (split_forms lts class problem) split

  pub bounded_has : (q : ℕ) → is_some class.bound ≡ true → q < states lts → HasForm (split_form.Tokens q)
  bounded_has q bound lt = Contains-append_left first_forms start_form (split_form.Tokens q)
      (if_true (is_some class.bound) tokens plain_effects (split_form.Tokens q) bound
      (map_there split_form.Tokens (all_numbers (states lts)) q (where_has (λ q. true) 0 (states lts) q refl (omega arith) (omega arith))))

  pub plain_has : (t : ℕ) → is_some class.bound ≡ false → class.plain ≡ true → t < labels lts → has_label t lts.arcs ≡ true → HasForm (split_form.Effect t)
  plain_has t bound plain lt used = Contains-append_left first_forms start_form (split_form.Effect t)
      (if_false (is_some class.bound) tokens plain_effects (split_form.Effect t) bound
      (if_true class.plain effects [] (split_form.Effect t) plain
      (map_there split_form.Effect (used_labels lts) t (where_has (λ t. has_label t lts.arcs) 0 (labels lts) t used (omega arith) (omega arith)))))

  pub start_has : splits_start class problem ≡ true → HasForm split_form.Start
  start_has splits = Contains-append_right first_forms start_form split_form.Start
      (if_true (splits_start class problem) (split_form.Start ∷ []) [] split_form.Start splits (first split_form.Start []))

  -- what a split may be on, by kinds
  abbrev pub IsSplitOf : SplitForm → Type 0
  IsSplitOf (split_form.Tokens q) = (is_some class.bound ≡ true) × (q < states lts)
  IsSplitOf (split_form.Effect t) = (is_some class.bound ≡ false) × (class.plain ≡ true) × (has_label t lts.arcs ≡ true) × (t < labels lts)
  IsSplitOf split_form.Start = splits_start class problem ≡ true

  pub split_is : (split : SplitForm) → HasForm split → IsSplitOf split
  split_is split has = ⊎_elim of_first of_start (Contains-append_cases first_forms start_form split has)
    where
      of_tokens : (is_some class.bound ≡ true) × Contains tokens split → IsSplitOf split
      of_tokens (bound, within) =
          let (q, at, is) = map_from split_form.Tokens (all_numbers (states lts)) split within in
          let (_, _, below) = where_is (λ q. true) 0 (states lts) q at in
          subst IsSplitOf is (bound, omega arith)

      of_effects : (is_some class.bound ≡ false) × Contains plain_effects split → IsSplitOf split
      of_effects (bound, rest) =
          let (plain, within) = of_optional class.plain effects split rest in
          let (t, at, is) = map_from split_form.Effect (used_labels lts) split within in
          let (used, _, below) = where_is (λ t. has_label t lts.arcs) 0 (labels lts) t at in
          subst IsSplitOf is (bound, plain, used, omega arith)

      of_first : Contains first_forms split → IsSplitOf split
      of_first front = ⊎_elim of_tokens of_effects (of_if (is_some class.bound) tokens plain_effects split front)

      of_start : Contains start_form split → IsSplitOf split
      of_start back =
          let (splits, alone) = of_optional (splits_start class problem) (split_form.Start ∷ []) split back in
          ⊎_elim (λ is. subst IsSplitOf is splits) (λ none. absurd (nothing split none)) (Contains-cons_cases split_form.Start split [] alone)

  -- such a class has Start
  pub split_starts : (split : SplitForm) → IsSplitOf split → has_start class ≡ true
  split_starts (split_form.Tokens q) (bound, lt) = start_of_bound class bound
  split_starts (split_form.Effect t) (bound, plain, used, lt) = start_of_plain class plain
  split_starts split_form.Start splits = ⊎_elim (start_of_bound class) (λ (plain, event). start_of_plain class plain) (start_split class problem splits).1

  -- the variable of a form names a label of the system
  pub form_names : (split : SplitForm) → HasForm split → NamesLabels (labels lts) (plus (form_variable lts.initial split) ∷ [])
  form_names split has = by split (split_is split has)
    where
      by : (split : SplitForm) → IsSplitOf split → NamesLabels (labels lts) (plus (form_variable lts.initial split) ∷ [])
      by (split_form.Tokens q) h = tt
      by (split_form.Effect t) (bound, plain, used, lt) = (lt, tt)
      by split_form.Start h = tt

-- ---- the form with a number, and its value

-- what is known of the form of a variable
pub record FormOf (s : Setting) (case : CaseSystem) (split : SplitForm) : Type 0 where
  pub number : ℕ
  pub within : number < length case.forms
  pub made : form_fold s split (Ok (form_at case.forms number))

module _ (it : CaseSetting) (case : CaseSystem) where
  abbrev variables : List SplitForm
  variables = split_forms it.lts it.class it.problem

  abbrev Names : SplitForm → Type 0
  Names split = NamesLabels (labels it.lts) (plus (form_variable it.lts.initial split) ∷ [])

  abbrev no_form : Form
  no_form = record { scale = pos 1; coeffs = []; low = pos 0; high = pos 0 }

  pub form_of_variable : (split : SplitForm) → system_fold it (Ok case) → Contains variables split → FormOf it.setting case split
  form_of_variable split (all, made, (forms, forms_made, (columns, keeps, form_list))) (f, lt, e) = record {
    number = f;
    within = subst (λ k. f < k) (sym (ap length form_list ∙ each_length (form_fold it.setting) variables forms forms_made)) lt;
    made = subst (λ (w : SplitForm). form_fold it.setting w (Ok (form_at case.forms f))) e
        (subst (λ (fs : List Form). form_fold it.setting (slice_index_or variables f split) (Ok (form_at fs f))) (sym form_list)
        (each_at (form_fold it.setting) variables forms f split no_form forms_made lt));
  }

  -- as many forms as variables
  pub form_count : system_fold it (Ok case) → length case.forms ≡ length variables
  form_count (all, made, (forms, forms_made, (columns, keeps, form_list))) = ap length form_list ∙ each_length (form_fold it.setting) variables forms forms_made

  -- the variable that names form f
  pub form_named : (f : ℕ) → system_fold it (Ok case) → f < length case.forms
      → Names (slice_index_or variables f (split_form.Tokens 0)) × Contains variables (slice_index_or variables f (split_form.Tokens 0))
      × form_fold it.setting (slice_index_or variables f (split_form.Tokens 0)) (Ok (form_at case.forms f))
  form_named f (all, made, (forms, forms_made, (columns, keeps, form_list))) lt =
      let within : f < length variables = subst (λ k. f < k) (ap length form_list ∙ each_length (form_fold it.setting) variables forms forms_made) lt in
      let split = slice_index_or variables f (split_form.Tokens 0) in
      let has : Contains variables split = (f, within, get_or_default variables f split (split_form.Tokens 0) within) in (
        form_names it.lts it.class it.problem split has,
        has,
        subst (λ (fs : List Form). form_fold it.setting split (Ok (form_at fs f))) (sym form_list)
            (each_at (form_fold it.setting) variables forms f (split_form.Tokens 0) no_form forms_made within),
      )

  -- the variable of form f
  pub form_there : (f : ℕ) → system_fold it (Ok case) → f < length case.forms
      → (split : SplitForm) × Names split × Contains variables split × form_fold it.setting split (Ok (form_at case.forms f))
  form_there f made lt = let (names, has, fold) = form_named f made lt in (slice_index_or variables f (split_form.Tokens 0), names, has, fold)

  module _ (c : IsCaseOver it case) where
    abbrev steps : SplitForm → ℤ
    steps split = pos (step_of it.class split)

    pub form_positive : (split : SplitForm) → (form : Form) → form_fold it.setting split (Ok form) → pos 0 <ℤ form.scale
    form_positive split form (scaled, fold, e) = subst (λ (f : Form). pos 0 <ℤ f.scale) (sym e)
        (mul_positive (steps split) scaled.multiple (let some = step_positive it.class split c.numbers in omega (arith, ints))
        (terms_positive it.setting (plus (form_variable it.lts.initial split) ∷ []) scaled fold))

    pub form_value : (split : SplitForm) (form : Form) (start : ℤ) (effect : ℕ → ℤ) → form_fold it.setting split (Ok form)
        → Names split → (has_start it.class ≡ false → start ≡ pos 0) → AreEffects it.lts it.tree it.basis effect
        → steps split *ℤ dot form.coeffs (column_values it.lts it.basis it.class start effect)
        ≡ form.scale *ℤ numbers_along it.lts it.tree start effect (form_variable it.lts.initial split)
    form_value split form start effect (scaled, fold, e) names no_start given =
        ap (λ (f : Form). steps split *ℤ dot f.coeffs (column_values it.lts it.basis it.class start effect)) e
        ∙ ap (λ z. steps split *ℤ z) (terms_value it.setting (plus (form_variable it.lts.initial split) ∷ []) start effect scaled c.is_basis names no_start
        given.follows given.unused fold ∙ ap (λ z. scaled.multiple *ℤ z) (one value))
        ∙ grouped (steps split) scaled.multiple value
        ∙ ap (λ (f : Form). f.scale *ℤ value) (sym e)
      where
        value : ℤ
        value = numbers_along it.lts it.tree start effect (form_variable it.lts.initial split)

        one : (z : ℤ) → (pos 1 *ℤ z) +ℤ pos 0 ≡ z
        one z = omega (arith, ints)

    -- over the columns of a point
    pub point_form : (v : ℕ → ℤ) (times start : ℤ) (effect : ℕ → ℤ) (form : Form) → AreGivenBy it.setting case v times start effect
        → times *ℤ scaled_value (rows_of case) form v ≡ dot form.coeffs (column_values it.lts it.basis it.class start effect)
    point_form v times start effect form g =
        sym (sum_below-times case.columns times (λ j. number_at form.coeffs j *ℤ v j))
        ∙ sum_below-same case.columns (λ j. times *ℤ (number_at form.coeffs j *ℤ v j))
        (λ j. number_at form.coeffs j *ℤ number_at (column_values it.lts it.basis it.class start effect) j)
        (λ j lt. mul_left_comm times (number_at form.coeffs j) (v j) ∙ ap (λ z. number_at form.coeffs j *ℤ z) (g.columns j lt))
        ∙ sym (row_sum it case start effect form.coeffs c.is_case)

    -- a variable with a whole form is a multiple of the scale, by its steps
    pub variable_multiple : (v : ℕ → ℤ) (scale times start : ℤ) (effect : ℕ → ℤ) (split : SplitForm) → has_start it.class ≡ true
        → FormsWhole (rows_of case) case.forms scale v → AreGivenBy it.setting case v times start effect → Names split → Contains variables split
        → (u : ℤ) × (numbers_along it.lts it.tree start effect (form_variable it.lts.initial split) ≡ (times *ℤ scale) *ℤ (steps split *ℤ u))
    variable_multiple v scale times start effect split starts whole g names has =
        let f = form_of_variable split c.is_case has in
        let form = form_at case.forms f.number in
        let (u, e) = whole f.number f.within in
        let value = form_value split form start effect f.made names (λ none. absurd (true≢false (sym starts ∙ none))) g.effects in
        let over = point_form v times start effect form g in (
          u,
          mul-cancel_left form.scale _ _ (positive_differs form.scale (form_positive split form f.made))
              (sym value ∙ ap (λ z. steps split *ℤ z) (sym over ∙ ap (λ z. times *ℤ z) e) ∙ turn (steps split) times u form.scale scale),
        )
      where
        turn : (n t u f s : ℤ) → n *ℤ (t *ℤ (u *ℤ (f *ℤ s))) ≡ f *ℤ ((t *ℤ s) *ℤ (n *ℤ u))
        turn n t u f s = simp ring

    -- and Start and effects that are whole make every form whole where its variable is so many steps
    pub whole_forms : (v : ℕ → ℤ) (start : ℤ) (effect : ℕ → ℤ) (f : ℕ) (split : SplitForm) (w : ℤ) → has_start it.class ≡ true
        → AreGivenBy it.setting case v (pos 1) start effect → Names split → form_fold it.setting split (Ok (form_at case.forms f))
        → numbers_along it.lts it.tree start effect (form_variable it.lts.initial split) ≡ steps split *ℤ w
        → (u : ℤ) × (scaled_value (rows_of case) (form_at case.forms f) v ≡ u *ℤ ((form_at case.forms f).scale *ℤ pos 1))
    whole_forms v start effect f split w starts g names made is =
        let form = form_at case.forms f in
        let value = form_value split form start effect made names (λ none. absurd (true≢false (sym starts ∙ none))) g.effects in
        let over = point_form v (pos 1) start effect form g in
        let some : pos 0 <ℤ steps split = (let h = step_positive it.class split c.numbers in omega (arith, ints)) in (
          w,
          mul-cancel_left (steps split) _ _ (positive_differs (steps split) some)
              (ap (λ z. steps split *ℤ z) (once (scaled_value (rows_of case) form v) ∙ over) ∙ value
              ∙ ap (λ z. form.scale *ℤ z) is ∙ turn form.scale (steps split) w),
        )
      where
        turn : (f n u : ℤ) → f *ℤ (n *ℤ u) ≡ n *ℤ (u *ℤ (f *ℤ pos 1))
        turn f n u = simp ring
