-- The forms of a case are as a branching asks.
use Rattle.std.proofs.Common.{◌≡◌, ℕ, ◌+◌, ◌*◌, ◌^◌, ◌<◌, ◌≤◌, List, [], map, length, All, Ok, sym, ap, subst, ◌∙◌, arith}
use Rattle.std.specs.Prelude.{ℤ, pos, ◌+ℤ◌, ◌-ℤ◌, ◌*ℤ◌, ◌≤ℤ◌, ◌<ℤ◌, slice_index_or}
use Rattle.std.proofs.lemmas.Int.{ints}
use Rattle.std.proofs.lemmas.List.{length-map, get_or-map}
use Rattle.rg_theory.specs.ClassWords.{HasNumbersInRange}
use Rattle.rg_theory.specs.System.{states, labels}
use Rattle.rg_integers.specs.Range.{InRange}
use Rattle.rg_integers.specs.Sum.{sum_over}
use Rattle.rg_linear.specs.Branching.{Form, form_at, AreBounded}
use Rattle.rg_cert_meaning.specs.declared.RowName.{RowName}
use Rattle.rg_case_folds.specs.Setting.{CaseSetting}
use Rattle.rg_folds.specs.Fold.{each}
use Rattle.rg_case_folds.specs.Rewriting.{split_forms, form_low, KeptRow, CaseSystem, rows_of}
use Rattle.rg_case_folds.specs.Meaning.{IsCaseOver}
use Rattle.rg_case_folds.proofs.FormBounds.{forms_bounded}
use Rattle.rg_case_folds.proofs.FormRows.{form_fits}
use Rattle.rg_rows.specs.declared.named_form.NamedForm.{NamedForm}
use Rattle.rg_rows.specs.View.{AreIndices, fold_of}
use Rattle.rg_rows.specs.Forms.{linear_form, split_of, StandsInRow, IsFormOf, AreFormsOf}
use Rattle.rg_rows.specs.Making.{IsMade}
use Rattle.rg_rows.proofs.FormRoom.{bounds_ordered, forms_few, room_few}
use Rattle.rg_rows.proofs.FormTimes.{stands_in_row, over_row}

module _ (s : CaseSetting) (names : List RowName) (case : CaseSystem)
    (all : List KeptRow) (indices : List ℕ) (made : each (fold_of s) names (Ok all)) (are : AreIndices all case.kept indices)
    (forms : List NamedForm) (is_made : All (IsMade s.lts s.class case.columns all indices) forms) where
  pub all_stand : All (StandsInRow s (rows_of case)) forms
  all_stand k d lt = stands_in_row s names case all indices made are case.columns (slice_index_or forms k d) (is_made k d lt)

  module _ (forms_are : map linear_form forms ≡ case.forms) (splits : map split_of forms ≡ split_forms s.lts s.class s.problem) (c : IsCaseOver s case) (few_states : states s.lts ≤ 4096) where
    forms_length : length forms ≡ length case.forms
    forms_length = sym (length-map forms linear_form) ∙ ap length forms_are

    form_is : (k : ℕ) (d : NamedForm) → k < length forms → form_at case.forms k ≡ linear_form (slice_index_or forms k d)
    form_is k d lt = ap (λ fs. form_at fs k) (sym forms_are) ∙ get_or-map linear_form forms k d (record { scale = pos 1; coeffs = []; low = pos 0; high = pos 0 }) lt

    one_form : (k : ℕ) (d : NamedForm) → k < length forms → IsFormOf (rows_of case) (slice_index_or forms k d)
    one_form k d lt =
        let m = is_made k d lt in
        let fits = subst (λ (f : Form). InRange (f.scale *ℤ f.low) × InRange (f.scale *ℤ f.high)) (form_is k d lt) (form_fits s case c few_states k (subst (λ n. k < n) forms_length lt)) in
        record {
          one_each = m.one_each;
          positive = m.positive c.numbers;
          scale_in_range = m.scale_in_range;
          coeffs_in_range = m.coeffs_in_range;
          ordered = subst (λ z. z ≤ℤ (slice_index_or forms k d).high) (sym m.bounds.0)
              (subst (λ z. form_low (split_of (slice_index_or forms k d)) ≤ℤ z) (sym m.bounds.1) (bounds_ordered s.lts s.class (split_of (slice_index_or forms k d))));
          low_in_range = fits.0;
          high_in_range = fits.1;
          times_in_range = m.times_in_range;
          over = over_row s names case all indices made are case.columns (slice_index_or forms k d) m;
        }

    pub all_forms : HasNumbersInRange s.class → case.columns + length (rows_of case).rows + 4096 * (states s.lts + labels s.lts + 1) < 2 ^ 32 → AreFormsOf (rows_of case) forms
    all_forms bound few =
        let count : length forms ≤ states s.lts + labels s.lts + 1 = (let h = forms_few s.lts s.class s.problem in let e = sym (length-map forms split_of) ∙ ap length splits in omega arith) in
        let room = room_few s.lts s.class forms bound few_states (λ k d lt. (is_made k d lt).bounds) in
        record {
          each = one_form;
          bounded = subst (AreBounded (rows_of case)) (sym forms_are) (forms_bounded s case c);
          few_forms = omega arith;
          few = close (case.columns + length (rows_of case).rows) (length forms) (states s.lts + labels s.lts + 1) (sum_over (λ (f : NamedForm). f.high -ℤ f.low) forms) (2 ^ 32) count room few;
        }
      where
        close : (a n m : ℕ) (z : ℤ) (t : ℕ) → n ≤ m → z ≤ℤ pos (4096 * n) → a + 4096 * m < t → (pos a +ℤ z) <ℤ pos t
        close a n m z t h k g = omega (arith, ints)
