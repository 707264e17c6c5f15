use Rattle.std.proofs.Common.{rules, ◌≡◌, ◌+◌, ◌*◌, ◌^◌, ◌<◌, ◌≤◌, [], All, Contains, List, map, length, take, Ok, Err, ap, ap₂, refl, subst, sym, ◌∙◌, arith}
use Rattle.std.proofs.lemmas.List.{length-map}
use Rattle.rg_theory.specs.System.{states, labels}
use Rattle.rg_fraction.specs.declared.fold_stop.FoldStop.TheVariants as stop
use Rattle.rg_linear.specs.Firsts.{KeepsEqualRows}
use Rattle.rg_cert_meaning.specs.declared.RowName.{RowName}
use Rattle.rg_cert_meaning.specs.declared.Form.{Form}
use Rattle.rg_folds.specs.Fold.{each}
use Rattle.rg_case_folds.specs.Rewriting.{CaseSystem, IsIdle, KeptRow, column_count, names_of, form_fold, rows_of}
use Rattle.rg_case_folds.specs.Meaning.{IsCaseOver}
use Rattle.rg_linear.specs.System.{LinearSystem}
use Rattle.rg_linear.specs.View.{linear_system}
use Rattle.rg_cycles.specs.View.{cycle_of}
use Rattle.rg_rows.specs.declared.held_row.HeldRow.{HeldRow}
use Rattle.rg_rows.specs.View.{kept_row, row_in, columns_in, AreNamesWithin, AreIndices, AreRowsOf, fold_of}
use Rattle.rg_rows.specs.Forms.{linear_form, case_forms, StandsInRow, AreFormsOf}
use Rattle.rg_rows.specs.Making.{IsMade}
use Rattle.rg_case_parts.specs.SettingViews.{shown_setting, shown_case}
use Rattle.rg_case_parts.proofs.Picking.{columns_few}
use Rattle.rg_linear.proofs.Firsts.{kept_count}
use Rattle.rg_rows.proofs.Terms.{names_within}
use Rattle.rg_rows.proofs.Naming.{own_taken, own_no_more}
use Rattle.rg_rows.proofs.Making.{case_fails, case_made, forms_fail}
use Rattle.rg_rows.proofs.Forming.{names_few, well_formed}
use Rattle.rg_rows.proofs.FormNames.{forms_are, has_start_name}
use Rattle.rg_rows.proofs.FormsAfter.{none_before}
use Rattle.rg_rows.proofs.NamedCases.{has_names}
use Rattle.rg_rows.proofs.Assembling.{all_stand, all_forms}
use Rattle.rg_rows.proofs.named_case.whole_case.Goals as goal
use Rattle.rg_cert_meaning.specs.declared.RowName.TheVariants as row_name

pub rows_after-requires-clause-names : goal.rows_after-requires-clause-names
rows_after-requires-clause-names c =
    let named = c.deref.ensures.value ∙ c.in_ok-names.ensures in
    subst (AreNamesWithin (shown_case c.args.c)) (sym named) (names_within (shown_case c.args.c) c.requires.asked)

pub rows_after-requires-clause-known : goal.rows_after-requires-clause-known
rows_after-requires-clause-known c =
    let s = shown_case c.args.c in
    let named = c.deref.ensures.value ∙ c.in_ok-names.ensures in
    let many = sym (length-map c.args.own.items row_in) ∙ c.requires.own.many in
    subst (λ (l : List RowName). AreRowsOf s l (map row_in c.args.own.items)) (sym (ap₂ take many named ∙ own_taken s.lts s.class s.problem s.number)) c.requires.own

pub rows_after-requires-clause-within : goal.rows_after-requires-clause-within
rows_after-requires-clause-within c =
    let s = shown_case c.args.c in
    let named = ap length (c.deref.ensures.value ∙ c.in_ok-names.ensures) in
    let many = sym (length-map c.args.own.items row_in) ∙ c.requires.own.many in
    let less = own_no_more s.lts s.class s.problem s.number in
    omega arith

pub firsts-requires : goal.firsts-requires
firsts-requires c =
    let lts = c.args.c.setting.lts.now in
    let named = c.deref.ensures.value ∙ c.in_ok-names.ensures in
    let size : length c.in_ok-all.all.items ≡ length (names_of lts c.args.c.setting.class c.args.c.problem c.args.c.number) = c.in_ok-all.ensures.few ∙ ap length named in
    let same = ap length c.deref-2.ensures.value in
    let some = names_few lts c.args.c.setting.class c.args.c.problem c.args.c.number in
    let wide : states lts ≤ 4096 = c.is_well_formed.ensures.few_states in
    let high : labels lts ≤ 256 = c.is_well_formed.ensures.few_labels in
    omega arith

pub case_forms-requires-clause-names : goal.case_forms-requires-clause-names
case_forms-requires-clause-names c =
    let named = c.deref-3.ensures.value ∙ c.in_ok-names.ensures in
    subst (AreNamesWithin (shown_case c.args.c)) (sym named) (names_within (shown_case c.args.c) c.requires.asked)

pub case_forms-requires-clause-rows : goal.case_forms-requires-clause-rows
case_forms-requires-clause-rows c =
    subst (λ (l : List RowName). each (fold_of (shown_case c.args.c)) l (Ok (map kept_row (map row_in c.deref-4.result.now)))) (c.deref.ensures.value ∙ sym c.deref-3.ensures.value)
    (subst (λ (l : List HeldRow). each (fold_of (shown_case c.args.c)) c.deref.result.now (Ok (map kept_row (map row_in l)))) (sym c.deref-4.ensures.value) c.in_ok-all.ensures.comes)

pub case_forms-requires-clause-one_each : goal.case_forms-requires-clause-one_each
case_forms-requires-clause-one_each c = ap length c.deref-4.ensures.value ∙ c.in_ok-all.ensures.few ∙ ap length (c.deref.ensures.value ∙ sym c.deref-3.ensures.value)

pub case_forms-requires-clause-indices : goal.case_forms-requires-clause-indices
case_forms-requires-clause-indices c =
    let (kept, shows, firsts, indices) = c.in_ok-kept.ensures in
    ap length c.deref-5.ensures.value ∙ indices.one_each ∙ length-map (map row_in c.deref-2.result.now) kept_row
    ∙ length-map c.deref-2.result.now row_in ∙ ap length (c.deref-2.ensures.value ∙ sym c.deref-4.ensures.value)

pub case_forms-requires-clause-start : goal.case_forms-requires-clause-start
case_forms-requires-clause-start c = λ splits.
    let named = c.deref-3.ensures.value ∙ c.in_ok-names.ensures in
    subst (λ (l : List RowName). Contains l (row_name.Tokens c.args.c.setting.lts.now.initial)) (sym named)
    (has_start_name c.args.c.setting.lts.now c.args.c.setting.class c.args.c.problem c.is_well_formed.ensures.in_range.initial splits c.args.c.number)

pub returns-in_err-all-clause-wide : goal.returns-in_err-all-clause-wide
returns-in_err-all-clause-wide c = λ w e.
    let result : c.from_residual-in_err-all.result ≡ Err c.in_err-all.field-0.0 = search rules in
    let is : c.in_err-all.field-0.0 ≡ stop.Wide w = cc in
    case_fails (shown_case c.args.c) c.deref.result.now (c.deref.ensures.value ∙ c.in_ok-names.ensures) w (rw is at c.in_err-all.ensures.comes)

pub returns-in_err-forms-clause-wide : goal.returns-in_err-forms-clause-wide
returns-in_err-forms-clause-wide c = λ w e.
    let s = shown_case c.args.c in
    let result : c.from_residual-in_err-forms.result ≡ Err c.in_err-forms.field-0.0 = search rules in
    let is : c.in_err-forms.field-0.0 ≡ stop.Wide w = cc in
    let named = c.deref.ensures.value ∙ c.in_ok-names.ensures in
    let named_again = c.deref-3.ensures.value ∙ c.in_ok-names.ensures in
    forms_fail s c.deref.result.now named (map kept_row (map row_in c.in_ok-all.all.items)) c.in_ok-all.ensures.comes w
    (subst (λ (l : List Form). each (form_fold s.setting) l (Err w))
    (ap (case_forms s.class s.problem) named_again ∙ forms_are s.lts s.class s.problem s.number) (rw is at c.in_err-forms.ensures.comes))

pub invariant_of-result : goal.invariant_of-result
invariant_of-result c =
    let lts = c.args.c.setting.lts.now in
    let all = map row_in c.in_ok-all.all.items in
    let (kept, shows, firsts, indices) = c.in_ok-kept.ensures in
    let columns : c.count.result ≡ columns_in (shown_setting c.args.c.setting) = c.count.ensures lts c.args.c.setting.class (sym c.requires.labels) c.requires.common.columns in
    let named = c.deref.ensures.value ∙ c.in_ok-names.ensures in
    let size : length all ≡ length (names_of lts c.args.c.setting.class c.args.c.problem c.args.c.number) = length-map c.in_ok-all.all.items row_in ∙ c.in_ok-all.ensures.few ∙ ap length named in
    let some = names_few lts c.args.c.setting.class c.args.c.problem c.args.c.number in
    let most : columns_in (shown_setting c.args.c.setting) ≤ labels lts + 1 = columns_few lts (cycle_of c.args.c.setting.basis.now) c.args.c.setting.class in
    let wide : states lts ≤ 4096 = c.is_well_formed.ensures.few_states in
    let high : labels lts ≤ 256 = c.is_well_formed.ensures.few_labels in
    let few : c.count.result + length all < 2 ^ 32 = omega arith in
    has_names c.count.result c.in_ok-kept.kept c.in_ok-forms.forms.items kept shows
    (well_formed c.count.result all c.in_ok-kept.kept.rows.items kept shows.rows
    (subst (λ l. KeepsEqualRows (λ k. k.row) IsIdle [] (map kept_row (map row_in l)) kept) c.deref-2.ensures.value firsts)
    (subst (λ n. All (λ r. length r.coeffs.items ≡ n) all) (sym columns) c.in_ok-all.ensures.one_each)
    few)

pub returns-clause-made : goal.returns-clause-made
returns-clause-made c =
    let it = shown_case c.args.c in
    let (kept, shows, firsts, indices) = c.in_ok-kept.ensures in
    let all = map row_in c.in_ok-all.all.items in
    let forms = c.in_ok-forms.forms.items in
    let named = c.deref.ensures.value ∙ c.in_ok-names.ensures in
    let named_again = c.deref-3.ensures.value ∙ c.in_ok-names.ensures in
    let columns : c.count.result ≡ column_count it.lts it.basis it.class = c.count.ensures it.lts it.class (sym c.requires.labels) c.requires.common.columns in
    let shown : CaseSystem = record { columns = c.count.result; kept = kept; forms = map linear_form forms } in
    let kept_firsts = subst (λ l. KeepsEqualRows (λ k. k.row) IsIdle [] (map kept_row (map row_in l)) kept) c.deref-2.ensures.value firsts in
    let kept_indices = subst (λ l. AreIndices l kept c.in_ok-kept.indices.items) (ap (λ l. map kept_row (map row_in l)) c.deref-2.ensures.value) indices in
    let made = subst (λ n. All (IsMade it.lts it.class n (map kept_row all) c.in_ok-kept.indices.items) forms) (sym columns)
    (subst (λ l. All (IsMade it.lts it.class (column_count it.lts it.basis it.class) (map kept_row all) l) forms) c.deref-5.ensures.value
    (subst (λ (l : List HeldRow). All (IsMade it.lts it.class (column_count it.lts it.basis it.class) (map kept_row (map row_in l)) c.deref-5.result.now) forms)
    c.deref-4.ensures.value c.in_ok-forms.ensures.made)) in
    let splits = c.in_ok-forms.ensures.forms ∙ ap (case_forms it.class it.problem) named_again ∙ forms_are it.lts it.class it.problem it.number in
    let forms_made = subst (λ (l : List Form). each (form_fold it.setting) l (Ok shown.forms))
    (ap (case_forms it.class it.problem) named_again ∙ forms_are it.lts it.class it.problem it.number) c.in_ok-forms.ensures.comes in
    let is_case = case_made it c.deref.result.now named (map kept_row all) c.in_ok-all.ensures.comes shown.forms shown forms_made columns kept_firsts refl in
    let system_is : linear_system c.count.result c.in_ok-kept.kept.rows.items ≡ rows_of shown = (λ i. record { columns = c.count.result; rows = shows.rows i }) in
    record {
      system = (shown, is_case, record { system = system_is; names = shows.names; factors = shows.factors; forms = refl });
      forms = splits;
      rows = subst (λ l. All (StandsInRow it (linear_system c.count.result c.in_ok-kept.kept.rows.items)) l) (sym (none_before forms))
          (subst (λ (s : LinearSystem). All (StandsInRow it s) forms) (sym system_is)
          (all_stand it c.deref.result.now shown (map kept_row all) c.in_ok-kept.indices.items c.in_ok-all.ensures.comes kept_indices forms made));
      bounded = λ reachable is_basis bound. (
          let over : IsCaseOver it shown = record {
            in_range = c.is_well_formed.ensures.in_range;
            numbers = bound;
            reachable = reachable;
            is_tree = c.requires.tree.tree;
            is_basis = is_basis;
            asked = c.requires.asked;
            is_case = is_case;
          } in
          let size : length all ≡ length (names_of it.lts it.class it.problem it.number) = length-map c.in_ok-all.all.items row_in ∙ c.in_ok-all.ensures.few ∙ ap length named in
          let some = names_few it.lts it.class it.problem it.number in
          let most : column_count it.lts it.basis it.class ≤ labels it.lts + 1 = columns_few it.lts it.basis it.class in
          let wide : states it.lts ≤ 4096 = c.is_well_formed.ensures.few_states in
          let high : labels it.lts ≤ 256 = c.is_well_formed.ensures.few_labels in
          let rows : length (rows_of shown).rows ≤ length all = (
          let h = kept_count (λ (k : KeptRow). k.row) IsIdle [] (map kept_row all) kept kept_firsts in
          let f = length-map kept (λ (k : KeptRow). k.row) in let g = length-map all kept_row in omega arith) in
          let few : c.count.result + length (rows_of shown).rows + 4096 * (states it.lts + labels it.lts + 1) < 2 ^ 32 = omega arith in
          subst (AreFormsOf (linear_system c.count.result c.in_ok-kept.kept.rows.items)) (sym (none_before forms))
          (subst (λ (s : LinearSystem). AreFormsOf s forms) (sym system_is)
          (all_forms it c.deref.result.now shown (map kept_row all) c.in_ok-kept.indices.items c.in_ok-all.ensures.comes kept_indices forms made refl splits over wide bound few)));
    }
