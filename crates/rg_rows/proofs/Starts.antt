-- The form of the tokens at the start.
use Rattle.std.proofs.Common.{◌≡◌, ℕ, ◌<◌, ◌≤◌, List, [], map, length, Ok, Err, Option, Some, None, unwrap_or, IfSome, All, ap, subst, sym, refl, ◌∙◌, arith}
use Rattle.std.specs.Prelude.{ℤ, pos, ◌*ℤ◌, ◌<ℤ◌, slice_index_or}
use Rattle.std.proofs.lemmas.Int.{ints}
use Rattle.std.proofs.lemmas.List.{get_or-map}
use Rattle.rg_theory.specs.declared.Class.{Class}
use Rattle.rg_theory.specs.ClassWords.{HasNumbersInRange}
use Rattle.rg_theory.specs.Tree.{IsTree}
use Rattle.rg_integers.specs.declared.term.Wide.{Wide}
use Rattle.rg_integers.specs.Range.{InRange}
use Rattle.rg_cert_meaning.specs.Row.{row_expression, step_of}
use Rattle.rg_case_folds.specs.Setting.{CaseSetting}
use Rattle.rg_folds.specs.Fold.{each}
use Rattle.rg_case_folds.specs.Rewriting.{Scaled, terms_fold, form_fold, form_low, form_high}
use Rattle.rg_case_folds.specs.FormRows.{form_row}
use Rattle.rg_case_folds.proofs.StartAlone.{start_alone}
use Rattle.rg_rows.specs.declared.case_row.CaseRow.{CaseRow}
use Rattle.rg_rows.specs.declared.named_form.NamedForm.{NamedForm}
use Rattle.rg_rows.specs.View.{kept_row, fold_of}
use Rattle.rg_rows.specs.Forms.{linear_form, split_of, IsPartOf}
use Rattle.rg_rows.specs.Making.{IsMade}
use Rattle.rg_rows.proofs.FormSteps.{terms_are, form_of_terms, form_of_none, times_row, row_at_index}
use Rattle.rg_rows.proofs.Placing.{row_got}
use Rattle.rg_cert_meaning.specs.declared.RowName.{RowName}
use Rattle.rg_cert_meaning.specs.declared.RowName.TheVariants as row_name
use Rattle.rg_cert_meaning.specs.declared.Form.TheVariants as split_form

step_positive : (class : Class) → HasNumbersInRange class → pos 0 <ℤ pos (step_of class split_form.Start)
step_positive class bound = let h = some class.marking bound.marking in omega (arith, ints)
  where
    some : (o : Option ℕ) → IfSome o (λ k. (0 < k) × (k ≤ 255)) → 0 < unwrap_or o 1
    some None h = omega arith
    some (Some n) h = h.0

module _ (it : CaseSetting) where
  -- the row's terms are those of the start, once
  pub start_made : (n : ℕ) (s : Scaled) (f : NamedForm) → n ≡ it.lts.initial → IsTree it.lts it.tree
      → terms_fold it.setting (row_expression it.lts it.class it.problem it.number [] (row_name.Tokens n)).terms (Ok s)
      → f.scale ≡ pos (step_of it.class split_form.Start) → f.coeffs.items ≡ s.numbers
      → f.low ≡ form_low split_form.Start → f.high ≡ form_high it.lts it.class split_form.Start → form_fold it.setting split_form.Start (Ok (linear_form f))
  start_made n s f at is_tree terms scale coeffs low high =
      let e = row_expression it.lts it.class it.problem it.number [] (row_name.Tokens it.lts.initial) in
      let here : terms_fold it.setting e.terms (Ok s) = subst (λ m. terms_fold it.setting (row_expression it.lts it.class it.problem it.number [] (row_name.Tokens m)).terms (Ok s)) at terms in
      let alone : s.multiple ≡ pos 1 = start_alone it.setting s is_tree (terms_are it split_form.Start e refl (Ok s) here) in
      form_of_terms it split_form.Start e refl s (linear_form f) here
      (λ j. record {
        scale = (scale ∙ once (pos (step_of it.class split_form.Start))
            ∙ ap (λ z. pos (step_of it.class split_form.Start) *ℤ z) (sym alone)) j;
        coeffs = coeffs j;
        low = low j;
        high = high j;
      })
    where
      once : (m : ℤ) → m ≡ m *ℤ pos 1
      once m = omega (arith, ints)

  pub start_fails : (n : ℕ) (w : Wide) → n ≡ it.lts.initial
      → terms_fold it.setting (row_expression it.lts it.class it.problem it.number [] (row_name.Tokens n)).terms (Err w) → form_fold it.setting split_form.Start (Err w)
  start_fails n w at terms =
      form_of_none it split_form.Start (row_expression it.lts it.class it.problem it.number [] (row_name.Tokens it.lts.initial)) refl w
      (subst (λ m. terms_fold it.setting (row_expression it.lts it.class it.problem it.number [] (row_name.Tokens m)).terms (Err w)) at terms)

  module _ (names : List RowName) (rows : List CaseRow) (i n : ℕ) (at : n ≡ it.lts.initial) (lt : i < length names)
      (here : (d : RowName) → slice_index_or names i d ≡ row_name.Tokens n) (lt' : i < length rows)
      (made : each (fold_of it) names (Ok (map kept_row rows))) (row : CaseRow)
      (is_row : row ≡ slice_index_or rows i row) where
    start_row : fold_of it (row_name.Tokens it.lts.initial) (Ok (kept_row row)) × ((kept_row row).name ≡ row_name.Tokens it.lts.initial)
    start_row =
        row_at_index it names (map kept_row rows) i (row_name.Tokens it.lts.initial) (kept_row row) made lt
        ((here (row_name.Tokens it.lts.initial)) ∙ ap row_name.Tokens at)
        (get_or-map kept_row rows i row (kept_row row) lt' ∙ ap kept_row (sym is_row))

    pub start_times : (s : Scaled) → terms_fold it.setting (row_expression it.lts it.class it.problem it.number [] (row_name.Tokens n)).terms (Ok s)
        → (t : ℕ) × (0 < t) × (s.numbers ≡ map (λ z. pos t *ℤ z) row.coeffs.items)
    start_times s terms =
        times_row it split_form.Start (row_expression it.lts it.class it.problem it.number [] (row_name.Tokens it.lts.initial)) refl s (kept_row row)
        (subst (λ m. terms_fold it.setting (row_expression it.lts it.class it.problem it.number [] (row_name.Tokens m)).terms (Ok s)) at terms) start_row.0

    pub start_is_made : (columns : ℕ) (indices : List ℕ) (f : NamedForm) → split_of f ≡ split_form.Start
        → IsPartOf f row.coeffs.items (slice_index_or indices i 0) → f.scale ≡ pos (step_of it.class split_form.Start)
        → f.low ≡ form_low split_form.Start → f.high ≡ form_high it.lts it.class split_form.Start → length f.coeffs.items ≡ columns
        → InRange f.scale → All InRange f.coeffs.items → InRange f.times → IsMade it.lts it.class columns (map kept_row rows) indices f
    start_is_made columns indices f same part is_scale low high one_each scale coeffs times = record {
      number = i;
      row = kept_row row;
      at = row_got rows i row lt' is_row;
      named = start_row.1 ∙ ap (form_row it.lts.initial) (sym same);
      part = part;
      bounds = (low ∙ ap form_low (sym same), high ∙ ap (form_high it.lts it.class) (sym same));
      one_each = one_each;
      positive = λ bound. subst (λ z. pos 0 <ℤ z) (sym is_scale) (step_positive it.class bound);
      scale_in_range = scale;
      coeffs_in_range = coeffs;
      times_in_range = times;
    }
