-- Each form of a case is a multiple of the row that stays for the tokens of its state or for `down` of its label.
use Rattle.std.proofs.Common.{◌≡◌, ◌⊎◌, ⊎_elim, ℕ, zero, suc, max, ◌<◌, ◌≤◌, is_some, unwrap_or, Option, Some, None, IfSome, true, List, [], ◌∷◌, map, length, Ok, Contains, All, inl, inr, refl, sym, ap, subst, ◌∙◌, arith}
use Rattle.std.specs.Prelude.{ℤ, pos, negsuc, ◌*ℤ◌, int_div, slice_index_or}
use Rattle.std.proofs.Math.IntN.{*ℤ-zero, zero-*ℤ, *ℤ_comm}
use Rattle.std.proofs.lemmas.Int.{ints}
use Rattle.std.proofs.lemmas.Bool.{true≢false}
use Rattle.std.proofs.lemmas.List.{get_or_default, length-map}
use Rattle.std.proofs.lemmas.List.Elements.{All-head, All-tail}
use Rattle.rg_theory.specs.declared.Class.{Class}
use Rattle.rg_theory.specs.declared.Problem.{Problem}
use Rattle.rg_theory.specs.declared.Problem.TheVariants.{Event, States}
use Rattle.rg_theory.specs.Limits.{most_states}
use Rattle.rg_theory.specs.System.{System, IsInRange, states, labels}
use Rattle.rg_theory.specs.Tree.{IsTree}
use Rattle.rg_theory.proofs.Lists.{map_there}
use Rattle.rg_integers.proofs.Ring.{mul-one}
use Rattle.rg_integers.specs.Range.{InRange}
use Rattle.rg_integers.specs.Divisor.{int_gcd}
use Rattle.rg_integers.specs.Sum.{number_at}
use Rattle.rg_fraction.proofs.Ones.{first_part}
use Rattle.rg_linear.specs.System.{LinearRow, row_at}
use Rattle.rg_linear.specs.Branching.{Form, form_at}
use Rattle.rg_linear.proofs.Firsts.{item_stays}
use Rattle.rg_cert_meaning.specs.Expression.{Term, Expression, plus, minus}
use Rattle.rg_cert_meaning.specs.Row.{RowStands, row_expression, form_variable, step_of}
use Rattle.rg_cert_meaning.specs.declared.RowName.{RowName}
use Rattle.rg_cert_meaning.specs.declared.Variable.{Variable}
use Rattle.rg_cert_meaning.specs.declared.Form.{Form as SplitForm}
use Rattle.rg_case_folds.specs.Setting.{Setting, CaseSetting}
use Rattle.rg_folds.specs.Fold.{each, Ratio, whole, mul}
use Rattle.rg_case_folds.specs.Rewriting.{Scaled, has_start, terms_fold, form_fold, row_fold, split_forms, form_low, form_high, names_of, KeptRow, IsIdle, CaseSystem, rows_of}
use Rattle.rg_case_folds.specs.Meaning.{IsCaseOver}
use Rattle.rg_case_folds.specs.FormRows.{form_row, IsMultipleOfRow}
use Rattle.rg_case_folds.proofs.OneResult.{terms_one}
use Rattle.rg_case_folds.proofs.Opposites.{same_multiple}
use Rattle.rg_case_folds.proofs.LeftOut.{left_out}
use Rattle.rg_case_folds.proofs.CaseRows.{tokens_stand}
use Rattle.rg_case_folds.proofs.SystemRows.{made_of}
use Rattle.rg_case_folds.proofs.Forms.{form_named, start_of_bound, plain_has, IsSplitOf, split_is, split_starts}
use Rattle.rg_case_folds.proofs.StartAlone.{start_alone}
use Rattle.rg_integers.proofs.Signs.{abs-times}
use Rattle.rg_cert_meaning.specs.declared.RowName.TheVariants as row_name
use Rattle.rg_case_folds.proofs.Products.{once}
use Rattle.rg_cert_meaning.specs.declared.Form.TheVariants as split_form

module _ (lts : System) (class : Class) where
  -- the row has the terms of the form
  pub same_terms : (problem : Problem) (n : ℕ) (split : SplitForm)
      → (row_expression lts class problem n [] (form_row lts.initial split)).terms ≡ plus (form_variable lts.initial split) ∷ []
  same_terms (Event s t) n (split_form.Tokens q) = refl
  same_terms (Event s t) n (split_form.Effect u) = refl
  same_terms (Event s t) n split_form.Start = refl
  same_terms (States s s') n (split_form.Tokens q) = refl
  same_terms (States s s') n (split_form.Effect u) = refl
  same_terms (States s s') n split_form.Start = refl

  module _ (problem : Problem) (n : ℕ) where
    abbrev IsNamed : RowName → Type 0
    IsNamed name = Contains (names_of lts class problem n) name

    -- the row is among those of the case
    pub form_row_named : (split : SplitForm) → IsInRange lts → Contains (split_forms lts class problem) split → IsNamed (form_row lts.initial split)
    form_row_named split fine has = by split (split_is lts class problem split has)
      where
        down_stands : (p : Problem) (t : ℕ) → t < labels lts → class.plain ≡ true → RowStands lts class p n [] (row_name.Down t)
        down_stands (Event s u) t lt plain = (lt, plain)
        down_stands (States s s') t lt plain = (lt, plain)

        tokens_named : (q : ℕ) → q < states lts → has_start class ≡ true → IsNamed (row_name.Tokens q)
        tokens_named q lt starts = ⊎_elim (λ named. named) (⊎_elim (λ none. absurd (true≢false (sym starts ∙ none))) (λ past. absurd (omega arith)))
            (left_out lts class problem n (row_name.Tokens q) fine (tokens_stand lts class problem n q))

        by : (split : SplitForm) → IsSplitOf lts class problem split → IsNamed (form_row lts.initial split)
        by (split_form.Tokens q) (bound, lt) = tokens_named q lt (start_of_bound class bound)
        by (split_form.Effect t) (bound, plain, used, lt) = ⊎_elim (λ named. named) (λ none. absurd (true≢false (sym used ∙ none)))
            (left_out lts class problem n (row_name.Down t) fine (down_stands problem t lt plain))
        by split_form.Start splits = tokens_named lts.initial fine.initial (split_starts lts class problem split_form.Start splits)

    -- so is the row of a bound
    cap_named : (q : ℕ) → IsInRange lts → q < states lts → is_some class.bound ≡ true → IsNamed (row_name.Cap q)
    cap_named q fine lt bound =
        ⊎_elim (λ named. named) (λ none. absurd none) (left_out lts class problem n (row_name.Cap q) fine (cap_stands problem))
      where
        cap_stands : (p : Problem) → RowStands lts class p n [] (row_name.Cap q)
        cap_stands (Event s t) = (lt, bound)
        cap_stands (States s s') = (lt, bound)

-- the form is the row, times what the row was divided by
pub form_over_row : (it : CaseSetting) (split : SplitForm) (form : Form) (k : KeptRow) → form_fold it.setting split (Ok form)
    → row_fold it.setting (form_row it.lts.initial split) (row_expression it.lts it.class it.problem it.number [] (form_row it.lts.initial split)) (Ok k)
    → (divisor : ℕ) × (form.coeffs ≡ map (λ z. pos (max divisor 1) *ℤ z) k.row.coeffs)
form_over_row it split form k (scaled, fold, e) (scaled', fold', (constant, product, (named, d))) =
    let one = (terms_one it.setting (plus (form_variable it.lts.initial split) ∷ [])).one (Ok scaled) (Ok scaled') fold
    (subst (λ (ts : List Term). terms_fold it.setting ts (Ok scaled')) (same_terms it.lts it.class it.problem it.number split) fold') in
    let same : scaled ≡ scaled' = cc in
    (d.divisor, ap (λ (f : Form). f.coeffs) e ∙ ap (λ (s : Scaled). s.numbers) same ∙ d.coeffs)

pub number_times : (d : ℤ) (xs : List ℤ) (j : ℕ) → number_at (map (λ z. d *ℤ z) xs) j ≡ d *ℤ number_at xs j
number_times d [] j = sym (*ℤ-zero d)
number_times d (x ∷ xs) zero = refl
number_times d (x ∷ xs) (suc j) = number_times d xs j

pub number_zero : (xs : List ℤ) (j : ℕ) → All (λ z. z ≡ pos 0) xs → number_at xs j ≡ pos 0
number_zero [] j all = refl
number_zero (x ∷ xs) zero all = All-head (λ z. z ≡ pos 0) x xs all
number_zero (x ∷ xs) (suc j) all = number_zero xs j (All-tail (λ z. z ≡ pos 0) x xs all)

-- a form with the coefficients of a row, so many times
module _ (case : CaseSystem) (form : Form) (k : KeptRow) (divisor : ℕ) (e : form.coeffs ≡ map (λ z. pos (max divisor 1) *ℤ z) k.row.coeffs) where
  abbrev many : ℤ
  many = pos (max divisor 1)

  abbrev rows : List LinearRow
  rows = map (λ (x : KeptRow). x.row) case.kept

  coefficient : (j : ℕ) → number_at form.coeffs j ≡ many *ℤ number_at k.row.coeffs j
  coefficient j = ap (λ xs. number_at xs j) e ∙ number_times many k.row.coeffs j

  -- the form is a multiple of the row that is kept, where that equals this one
  pub multiple_of_kept : (i : ℕ) → i < length case.kept → slice_index_or rows i k.row ≡ k.row → IsMultipleOfRow (rows_of case) form i many
  multiple_of_kept i lt at = record {
    within = λ some. within;
    not_negative = (omega (arith, ints));
    multiple = λ j below. coefficient j ∙ ap (λ (r : LinearRow). many *ℤ number_at r.coeffs j)
        (sym (get_or_default rows i (record { coeffs = []; constant = pos 0 }) k.row within ∙ at));
  }
    where
      within : i < length rows
      within = subst (λ n. i < n) (sym (length-map case.kept (λ (x : KeptRow). x.row))) lt

  -- and no time any row where all coefficients are 0
  multiple_of_none : All (λ z. z ≡ pos 0) k.row.coeffs → IsMultipleOfRow (rows_of case) form 0 (pos 0)
  multiple_of_none zeros = record {
    within = λ some. absurd (some refl);
    not_negative = (omega (arith, ints));
    multiple = λ j below. coefficient j ∙ ap (λ z. many *ℤ z) (number_zero k.row.coeffs j zeros) ∙ *ℤ-zero many
        ∙ sym (zero-*ℤ (number_at (row_at (rows_of case) 0).coeffs j));
  }

  -- a row is left out where it says nothing, and else kept
  some_multiple : IsIdle k ⊎ (Contains [] k.row ⊎ ((y : KeptRow) × Contains case.kept y × (y.row ≡ k.row)))
      → (row : ℕ) × (times : ℤ) × IsMultipleOfRow (rows_of case) form row times
  some_multiple (inl (zeros, weak)) = (0, pos 0, multiple_of_none zeros)
  some_multiple (inr (inl (i, below, at))) = absurd (omega arith)
  some_multiple (inr (inr (y, has, same))) =
      let (i, below, at) : Contains rows k.row = subst (Contains rows) same (map_there (λ (x : KeptRow). x.row) case.kept y has) in
      (i, many, multiple_of_kept i (subst (λ n. i < n) (length-map case.kept (λ (x : KeptRow). x.row)) below) at)

-- ---- the bounds, times the scale

-- a product of whole numbers is in range
product_in_range : (c m : ℤ) (p : Ratio) → mul (whole c) (whole m) (Ok p) → InRange (c *ℤ m)
product_in_range c m p (fits, _, _) =
    subst (λ z. InRange (z *ℤ m)) (first_part c) (subst (λ z. InRange (int_div c (int_gcd c (pos 1)) *ℤ z)) (first_part m) fits.left)

pub start_scale : (s : Setting) (form : Form) → IsTree s.lts s.tree → form_fold s split_form.Start (Ok form) → form.scale ≡ pos (step_of s.class split_form.Start)
start_scale s form g (scaled, fold, e) =
    ap (λ (f : Form). f.scale) e
    ∙ ap (λ m. pos (step_of s.class split_form.Start) *ℤ m) (start_alone s scaled g fold)
    ∙ mul-one (pos (step_of s.class split_form.Start))

-- the scale times the constant of a row, where a step is 1
module _ (s : Setting) (split : SplitForm) (form : Form) (name : RowName) (e : Expression) (k : KeptRow) (step : step_of s.class split ≡ 1) where
  abbrev variable : Variable
  variable = form_variable s.lts.initial split

  in_range : (scaled scaled' : Scaled) (p : Ratio) → form.scale ≡ pos (step_of s.class split) *ℤ scaled.multiple → scaled'.multiple ≡ scaled.multiple
      → mul (whole e.constant) (whole scaled'.multiple) (Ok p) → InRange (e.constant *ℤ form.scale)
  in_range scaled scaled' p is same product =
      subst (λ z. InRange (e.constant *ℤ z)) (same ∙ by_one (step_of s.class split) scaled.multiple step ∙ sym is) (product_in_range e.constant scaled'.multiple p product)
    where
      by_one : (n : ℕ) (m : ℤ) → n ≡ 1 → m ≡ pos n *ℤ m
      by_one n m e = subst (λ k. m ≡ pos k *ℤ m) (sym e) (once m)

  -- with the terms of the form
  fits_one : e.terms ≡ plus variable ∷ [] → form_fold s split (Ok form) → row_fold s name e (Ok k) → InRange (e.constant *ℤ form.scale)
  fits_one same (scaled, fold, is) (scaled', fold', (constant, product, divided)) =
      let one = (terms_one s (plus variable ∷ [])).one (Ok scaled) (Ok scaled') fold (subst (λ (ts : List Term). terms_fold s ts (Ok scaled')) same fold') in
      let equal : scaled ≡ scaled' = cc in
      in_range scaled scaled' constant (ap (λ (f : Form). f.scale) is) (ap (λ (x : Scaled). x.multiple) (sym equal)) product

  -- or with their opposites
  fits_opposite : e.terms ≡ minus variable ∷ [] → form_fold s split (Ok form) → row_fold s name e (Ok k) → InRange (e.constant *ℤ form.scale)
  fits_opposite opposite (scaled, fold, is) (scaled', fold', (constant, product, divided)) =
      in_range scaled scaled' constant (ap (λ (f : Form). f.scale) is)
      (same_multiple s variable scaled scaled' fold (subst (λ (ts : List Term). terms_fold s ts (Ok scaled')) opposite fold')) product

-- ---- the forms of a case

module _ (it : CaseSetting) (case : CaseSystem) (c : IsCaseOver it case) where
  abbrev row : Problem → RowName → Expression
  row p name = row_expression it.lts it.class p it.number [] name

  abbrev names : List RowName
  names = names_of it.lts it.class it.problem it.number

  -- a row that is named is among those from which the kept ones were taken
  row_of : (all : List KeptRow) (name : RowName) → each (λ m. row_fold it.setting m (row it.problem m)) names (Ok all) → Contains names name
      → (k : KeptRow) × Contains all k × row_fold it.setting name (row it.problem name) (Ok k)
  row_of all name made has = made_of (λ m. row_fold it.setting m (row it.problem m)) names all name made has

  pub form_multiple : (f : ℕ) → f < length case.forms → (row : ℕ) × (times : ℤ) × IsMultipleOfRow (rows_of case) (form_at case.forms f) row times
  form_multiple f lt =
      let (all, made, (forms, forms_made, (columns, keeps, form_list))) = c.is_case in
      let split = slice_index_or (split_forms it.lts it.class it.problem) f (split_form.Tokens 0) in
      let (_, has, fold) = form_named it case f c.is_case lt in
      let (k, in_all, own) = row_of all (form_row it.lts.initial split) made (form_row_named it.lts it.class it.problem it.number split c.in_range has) in
      let (divisor, e) = form_over_row it split (form_at case.forms f) k fold own in
      some_multiple case (form_at case.forms f) k divisor e (item_stays (λ x. x.row) IsIdle [] all case.kept k keeps in_all)

  -- of the start a step is at most 255, and there are at most 4,096 states
  start_fits : (form : Form) → states it.lts ≤ most_states → form_fold it.setting split_form.Start (Ok form) → InRange (form.scale *ℤ form_high it.lts it.class split_form.Start)
  start_fits form few fold = subst (λ z. InRange (z *ℤ form_high it.lts it.class split_form.Start)) (sym (start_scale it.setting form c.is_tree fold))
      (by_numbers (step_of it.class split_form.Start) (unwrap_or it.class.bound (states it.lts)) (step_few it.class.marking c.numbers.marking)
      (high_few it.class.bound c.numbers.bound))
    where
      by_numbers : (n h : ℕ) → n ≤ 255 → h ≤ 4096 → InRange (pos n *ℤ pos h)
      by_numbers n h few low = let most = abs-times (pos n) (pos h) 255 4096 (omega (arith, ints)) (omega (arith, ints)) in omega (arith, most)

      step_few : (o : Option ℕ) → IfSome o (λ n. (0 < n) × (n ≤ 255)) → unwrap_or o 1 ≤ 255
      step_few None h = omega arith
      step_few (Some n) h = h.1

      high_few : (o : Option ℕ) → IfSome o (λ n. (0 < n) × (n ≤ 255)) → unwrap_or o (states it.lts) ≤ 4096
      high_few None h = few
      high_few (Some n) h = let lt = h.1 in omega arith

  -- the rows of the upper bounds of tokens and of effects
  tokens_fit : (q : ℕ) (form : Form) (p : Problem) (k : KeptRow) → form_fold it.setting (split_form.Tokens q) (Ok form)
      → row_fold it.setting (row_name.Cap q) (row p (row_name.Cap q)) (Ok k) → InRange (pos (unwrap_or it.class.bound 0) *ℤ form.scale)
  tokens_fit q form (Event s t) k fold own =
      fits_opposite it.setting (split_form.Tokens q) form (row_name.Cap q) (row (Event s t) (row_name.Cap q)) k refl refl fold own
  tokens_fit q form (States s s') k fold own =
      fits_opposite it.setting (split_form.Tokens q) form (row_name.Cap q) (row (States s s') (row_name.Cap q)) k refl refl fold own

  effect_fits : (t : ℕ) (form : Form) (p : Problem) (k : KeptRow) → form_fold it.setting (split_form.Effect t) (Ok form)
      → row_fold it.setting (row_name.Down t) (row p (row_name.Down t)) (Ok k) → InRange (pos 1 *ℤ form.scale)
  effect_fits t form (Event s u) k fold own =
      fits_one it.setting (split_form.Effect t) form (row_name.Down t) (row (Event s u) (row_name.Down t)) k refl refl fold own
  effect_fits t form (States s s') k fold own =
      fits_one it.setting (split_form.Effect t) form (row_name.Down t) (row (States s s') (row_name.Down t)) k refl refl fold own

  pub form_fits : states it.lts ≤ most_states → (f : ℕ) → f < length case.forms
      → InRange ((form_at case.forms f).scale *ℤ (form_at case.forms f).low) × InRange ((form_at case.forms f).scale *ℤ (form_at case.forms f).high)
  form_fits few f lt =
      let (all, made, rest) = c.is_case in
      let split = slice_index_or (split_forms it.lts it.class it.problem) f (split_form.Tokens 0) in
      let (_, has, fold) = form_named it case f c.is_case lt in
      with_bounds split (form_at case.forms f) fold (bounds all made split (form_at case.forms f) (split_is it.lts it.class it.problem split has) fold)
    where
      zero_low : (s : ℤ) → InRange (s *ℤ pos 0)
      zero_low s = subst InRange (sym (*ℤ-zero s)) (omega arith)

      plainly : (s : ℤ) → InRange (pos 1 *ℤ s) → InRange (s *ℤ negsuc 0) × InRange (s *ℤ pos 1)
      plainly s h = (less s h, subst InRange (*ℤ_comm (pos 1) s) h)
        where
          less : (s : ℤ) → InRange (pos 1 *ℤ s) → InRange (s *ℤ negsuc 0)
          less s h = omega (arith, ints)

      bounds : (all : List KeptRow) → each (λ m. row_fold it.setting m (row it.problem m)) names (Ok all) → (split : SplitForm) (form : Form)
          → IsSplitOf it.lts it.class it.problem split → form_fold it.setting split (Ok form)
          → InRange (form.scale *ℤ form_low split) × InRange (form.scale *ℤ form_high it.lts it.class split)
      bounds all made (split_form.Tokens q) form (bound, lt) fold =
          let (k, _, own) = row_of all (row_name.Cap q) made (cap_named it.lts it.class it.problem it.number q c.in_range lt bound) in
          (zero_low form.scale, subst InRange (*ℤ_comm (pos (unwrap_or it.class.bound 0)) form.scale) (tokens_fit q form it.problem k fold own))
      bounds all made (split_form.Effect t) form (bound, plain, used, lt) fold =
          let has = plain_has it.lts it.class it.problem t bound plain lt used in
          let (k, _, own) = row_of all (row_name.Down t) made (form_row_named it.lts it.class it.problem it.number (split_form.Effect t) c.in_range has) in
          plainly form.scale (effect_fits t form it.problem k fold own)
      bounds all made split_form.Start form splits fold = (zero_low form.scale, start_fits form few fold)

      with_bounds : (split : SplitForm) (form : Form) → form_fold it.setting split (Ok form)
          → InRange (form.scale *ℤ form_low split) × InRange (form.scale *ℤ form_high it.lts it.class split)
          → InRange (form.scale *ℤ form.low) × InRange (form.scale *ℤ form.high)
      with_bounds split form (scaled, fold, e) fits =
          subst (λ z. InRange (form.scale *ℤ z) × InRange (form.scale *ℤ form.high)) (sym (ap (λ (x : Form). x.low) e))
          (subst (λ z. InRange (form.scale *ℤ form_low split) × InRange (form.scale *ℤ z)) (sym (ap (λ (x : Form). x.high) e)) fits)
