-- The system of a case, where the rows that all cases share come after its own.
use Rattle.std.proofs.Common.{◌≡◌, ℕ, ◌+◌, ◌*◌, ◌^◌, ◌<◌, ◌≤◌, List, [], ◌++◌, map, length, All, Ok, Err, ap, refl, subst, sym, ◌∙◌, arith}
use Rattle.std.proofs.Math.ListN.{take}
use Rattle.std.proofs.lemmas.List.{length-append, length-map, map-append, take-map}
use Rattle.std.proofs.lemmas.List.Elements.{All-append, All-take}
use Rattle.rg_theory.specs.ClassWords.{HasNumbersInRange}
use Rattle.rg_theory.specs.System.{states, labels}
use Rattle.rg_linear.specs.Branching.{Form}
use Rattle.rg_linear.specs.Firsts.{KeepsEqualRows}
use Rattle.rg_linear.specs.View.{linear_row, linear_system, IsWellFormed}
use Rattle.rg_linear.specs.declared.row.Row.{Row}
use Rattle.rg_linear.proofs.Firsts.{kept_count, kept_is}
use Rattle.rg_cert_meaning.specs.declared.Form.{Form as SplitForm}
use Rattle.rg_cert_meaning.specs.declared.RowName.{RowName}
use Rattle.rg_case_folds.specs.Setting.{CaseSetting}
use Rattle.rg_folds.specs.Fold.{each}
use Rattle.rg_case_folds.specs.Meaning.{IsCaseOver}
use Rattle.rg_case_folds.specs.Rewriting.{CaseSystem, IsIdle, KeptRow, column_count, problem_rows, names_of, form_fold, rows_of, split_forms, system_fold}
use Rattle.rg_case_folds.proofs.Items.{each_length}
use Rattle.rg_case_parts.proofs.Picking.{columns_few}
use Rattle.rg_rows.specs.declared.case_row.CaseRow.{CaseRow}
use Rattle.rg_rows.specs.declared.kept.CaseRows.{CaseRows}
use Rattle.rg_rows.specs.declared.named_form.NamedForm.{NamedForm}
use Rattle.rg_rows.specs.declared.shared_rows.SharedRows.{SharedRows}
use Rattle.rg_rows.specs.View.{kept_row, columns_in, fold_of, ShowsRows, AreIndices, AreOwnRows}
use Rattle.rg_rows.specs.Forms.{form_after, forms_after, form_count, linear_form, split_of, StandsInRow, AreFormsOf}
use Rattle.rg_rows.specs.Making.{IsMade}
use Rattle.rg_rows.specs.Sharing.{IsApart, shared_names, class_forms, AreSharedRows}
use Rattle.rg_rows.proofs.Assembling.{all_stand, all_forms}
use Rattle.rg_rows.proofs.FormsAfter.{each_mapped, linear_after, split_after, made_after}
use Rattle.rg_rows.proofs.FormNames.{shared_forms}
use Rattle.rg_rows.proofs.Forming.{names_few, well_formed}
use Rattle.rg_rows.proofs.Joining.{kept_append, rows_differ, indices_append, names_alone, each_joined}
use Rattle.rg_rows.proofs.Naming.{own_first}
use Rattle.rg_rows.proofs.Making.{case_made, case_fails}
use Rattle.rg_rows.proofs.FormSteps.{each_early_fails, each_take}
use Rattle.rg_integers.specs.declared.term.Wide.{Wide}

pub shown_count : (r : CaseRows) (kept : List KeptRow) → ShowsRows r kept → length r.rows.items ≡ length kept
shown_count r kept shows = sym (length-map r.rows.items linear_row) ∙ ap length shows.rows ∙ length-map kept (λ (k : KeptRow). k.row)

-- a step of its own rows that is out of range is the first of the case
pub own_fails : (s : CaseSetting) (own_names : List RowName) → own_names ≡ problem_rows s.lts s.class s.problem → (w : Wide) → each (fold_of s) own_names (Err w) → system_fold s (Err w)
own_fails s own_names named w failed =
    let (others, first) = own_first s.lts s.class s.problem s.number in
    case_fails s (own_names ++ others) (ap (λ l. l ++ others) named ∙ sym first) w (each_early_fails (fold_of s) own_names others w failed)

module _ (s : CaseSetting) (shared : SharedRows) (are : AreSharedRows s.setting shared) where
  module _ (own : List CaseRow) (own_are : AreOwnRows s own) where
    abbrev all : List CaseRow
    all = own ++ are.all

    rows_are : map kept_row all ≡ map kept_row own ++ map kept_row are.all
    rows_are = map-append kept_row own are.all

    abbrev names : List RowName
    names = problem_rows s.lts s.class s.problem ++ shared_names s.lts s.class

    names_are : names ≡ names_of s.lts s.class s.problem s.number
    names_are = sym (names_alone s.lts s.class s.problem s.number are.alone)

    all_made : each (fold_of s) names (Ok (map kept_row all))
    all_made = subst (λ l. each (fold_of s) names (Ok l)) (sym rows_are)
        (each_joined (fold_of s) (problem_rows s.lts s.class s.problem) (shared_names s.lts s.class) (map kept_row own) (map kept_row are.all) own_are.made (are.made s.problem s.number))

    pub all_few : length own + length are.all ≤ 3 * states s.lts + 3 * labels s.lts + 2
    all_few =
        let a = each_length (fold_of s) names (map kept_row all) all_made in
        let b = ap length names_are in
        let d = length-map all kept_row in
        let e = length-append own are.all in
        let f = names_few s.lts s.class s.problem s.number in
        omega arith

    module _ (kept : List KeptRow) (places : List ℕ) (firsts : KeepsEqualRows (λ k. k.row) IsIdle [] (map kept_row own) kept)
        (are_places : AreIndices (map kept_row own) kept places) where
      kept_few : length kept + length are.kept ≤ length own + length are.all
      kept_few =
          let a = kept_count (λ (k : KeptRow). k.row) IsIdle [] (map kept_row own) kept firsts in
          let b = kept_count (λ (k : KeptRow). k.row) IsIdle [] (map kept_row are.all) are.kept are.firsts in
          let d = length-map own kept_row in
          let e = length-map are.all kept_row in
          omega arith

      pub all_kept_few : length kept + length are.kept ≤ 3 * states s.lts + 3 * labels s.lts + 2
      all_kept_few = let a = kept_few in let b = all_few in omega arith

      module _ (apart : All (IsApart shared.hashes.keys) (map kept_row own)) where
        all_firsts : KeepsEqualRows (λ k. k.row) IsIdle [] (map kept_row all) (kept ++ are.kept)
        all_firsts = subst (λ l. KeepsEqualRows (λ (k : KeptRow). k.row) IsIdle [] l (kept ++ are.kept)) (sym rows_are)
            (kept_append (λ (k : KeptRow). k.row) IsIdle [] (map kept_row own) (map kept_row are.all) kept are.kept firsts are.firsts (λ y has (i, lt, at). absurd (omega arith))
            (rows_differ shared.hashes.keys (map kept_row own) (map kept_row are.all) are.kept apart are.hashed
            (λ y has. kept_is (λ (k : KeptRow). k.row) IsIdle [] (map kept_row are.all) are.kept y are.firsts has)))

        pub are_well_formed : (columns : ℕ) (rows : List Row) → columns ≡ columns_in s.setting
            → map linear_row rows ≡ map (λ k. k.row) (kept ++ are.kept) → columns + (3 * states s.lts + 3 * labels s.lts + 2) < 2 ^ 32 → IsWellFormed (linear_system columns rows)
        are_well_formed columns rows is shows few = well_formed columns all rows (kept ++ are.kept) shows all_firsts
            (subst (λ n. All (λ (r : CaseRow). length r.coeffs.items ≡ n) all) (sym is)
            (All-append (λ (r : CaseRow). length r.coeffs.items ≡ columns_in s.setting) own are.all own_are.one_each are.one_each))
            (let e = length-append own are.all in let a = all_few in omega arith)

        abbrev all_places : List ℕ
        all_places = places ++ map (λ i. length kept + i) are.indices

        all_indices : AreIndices (map kept_row all) (kept ++ are.kept) all_places
        all_indices = subst (λ l. AreIndices l (kept ++ are.kept) all_places) (sym rows_are)
            (indices_append (map kept_row own) (map kept_row are.all) kept are.kept places are.indices (map (λ i. length kept + i) are.indices) are_places are.are_indices refl)

        abbrev pub part : List NamedForm
        part = take (form_count s.class s.problem (length shared.forms.items)) shared.forms.items

        abbrev pub forms : List NamedForm
        forms = forms_after (length kept) part

        first_are : take (form_count s.class s.problem (length shared.forms.items)) (class_forms s.lts s.class) ≡ split_forms s.lts s.class s.problem
        first_are =
            ap (λ n. take (form_count s.class s.problem n) (class_forms s.lts s.class)) (sym (length-map shared.forms.items split_of) ∙ ap length are.splits)
            ∙ shared_forms s.lts s.class s.problem s.number are.alone

        pub splits_are : map split_of part ≡ split_forms s.lts s.class s.problem
        splits_are =
            sym (take-map split_of (form_count s.class s.problem (length shared.forms.items)) shared.forms.items)
            ∙ ap (take (form_count s.class s.problem (length shared.forms.items))) are.splits ∙ first_are

        forms_made : each (form_fold s.setting) (split_forms s.lts s.class s.problem) (Ok (map linear_form part))
        forms_made = subst (λ (l : List SplitForm). each (form_fold s.setting) l (Ok (map linear_form part))) first_are
            (subst (λ (l : List Form). each (form_fold s.setting) (take (form_count s.class s.problem (length shared.forms.items)) (class_forms s.lts s.class)) (Ok l))
            (take-map linear_form (form_count s.class s.problem (length shared.forms.items)) shared.forms.items)
            (each_take (form_fold s.setting) (form_count s.class s.problem (length shared.forms.items)) (class_forms s.lts s.class) (map linear_form shared.forms.items) are.forms_made))

        are_made : All (IsMade s.lts s.class (columns_in s.setting) (map kept_row all) all_places) forms
        are_made = subst (λ l. All (IsMade s.lts s.class (columns_in s.setting) l all_places) forms) (sym rows_are)
            (each_mapped (form_after (length kept)) (IsMade s.lts s.class (columns_in s.setting) (map kept_row are.all) are.indices)
            (IsMade s.lts s.class (columns_in s.setting) (map kept_row own ++ map kept_row are.all) all_places) part
            (λ f is. made_after s.lts s.class (columns_in s.setting) (map kept_row are.all) are.indices f is
            (map kept_row own) places all_places (length kept) are_places.one_each are.are_indices.one_each refl)
            (All-take (IsMade s.lts s.class (columns_in s.setting) (map kept_row are.all) are.indices) (form_count s.class s.problem (length shared.forms.items)) shared.forms.items are.are_made))

        module _ (columns : ℕ) (columns_are : columns ≡ columns_in s.setting) where
          abbrev pub shown : CaseSystem
          shown = record { columns = columns; kept = kept ++ are.kept; forms = map linear_form part }

          pub case_is : system_fold s (Ok shown)
          case_is = case_made s names names_are (map kept_row all) all_made (map linear_form part) shown forms_made columns_are all_firsts refl

          made_over : All (IsMade s.lts s.class columns (map kept_row all) all_places) forms
          made_over = subst (λ n. All (IsMade s.lts s.class n (map kept_row all) all_places) forms) (sym columns_are) are_made

          pub forms_stand : All (StandsInRow s (rows_of shown)) forms
          forms_stand = all_stand s names shown (map kept_row all) all_places all_made all_indices forms made_over

          pub are_forms : IsCaseOver s shown → HasNumbersInRange s.class → states s.lts ≤ 4096 → labels s.lts ≤ 256 → AreFormsOf (rows_of shown) forms
          are_forms over bound few_states few_labels =
              let most : column_count s.lts s.basis s.class ≤ labels s.lts + 1 = columns_few s.lts s.basis s.class in
              let size : length (rows_of shown).rows ≡ length kept + length are.kept = length-map (kept ++ are.kept) (λ (k : KeptRow). k.row) ∙ length-append kept are.kept in
              let few = all_kept_few in
              all_forms s names shown (map kept_row all) all_places all_made all_indices forms made_over
              (linear_after (length kept) part) (split_after (length kept) part ∙ splits_are) over few_states bound (omega arith)
