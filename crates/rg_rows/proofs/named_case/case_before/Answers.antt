use Rattle.std.proofs.Common.{◌≡◌, ◌+◌, ◌≤◌, ◌++◌, take, map, length, vec_len, All, ap, refl, subst, sym, ◌∙◌, arith}
use Rattle.std.proofs.lemmas.List.{length-map}
use Rattle.rg_theory.specs.System.{states, labels}
use Rattle.rg_case_folds.specs.Rewriting.{CaseSystem, rows_of}
use Rattle.rg_case_folds.specs.Meaning.{IsCaseOver}
use Rattle.rg_case_parts.proofs.Picking.{columns_few}
use Rattle.rg_linear.specs.System.{LinearSystem}
use Rattle.rg_linear.specs.View.{linear_system}
use Rattle.rg_rows.specs.Forms.{forms_after, form_count, linear_form, StandsInRow, AreFormsOf}
use Rattle.rg_case_parts.specs.SettingViews.{shown_case}
use Rattle.rg_rows.specs.Shown.{IsSystemOf}
use Rattle.rg_rows.specs.Shared.{rows_before}
use Rattle.rg_rows.specs.View.{row_in, columns_in}
use Rattle.rg_rows.proofs.NamedCases.{joined_rows, joined_names, joined_factors, has_joined}
use Rattle.rg_rows.proofs.SharedCase.{shown_count, all_few, are_well_formed, case_is, splits_are, forms_stand, are_forms}
use Rattle.rg_rows.proofs.named_case.case_before.Goals as goal

pub firsts-requires : goal.firsts-requires
firsts-requires c =
    let s = shown_case c.args.c in
    let few = all_few s c.args.shared.now c.requires.shared (map row_in c.args.own.now) c.requires.own in
    let size = length-map c.args.own.now row_in in
    let wide : states s.lts ≤ 4096 = c.is_well_formed.ensures.few_states in
    let high : labels s.lts ≤ 256 = c.is_well_formed.ensures.few_labels in
    omega arith

pub invariant_of-result : goal.invariant_of-result
invariant_of-result c =
    let s = shown_case c.args.c in
    let (kept, shows, firsts, places) = c.in_ok-kept.ensures in
    let own = map row_in c.args.own.now in
    let own_are = c.requires.own in
    let apart = c.requires.apart in
    let wide : states s.lts ≤ 4096 = c.is_well_formed.ensures.few_states in
    let high : labels s.lts ≤ 256 = c.is_well_formed.ensures.few_labels in
    let columns : c.count.result ≡ columns_in s.setting = c.count.ensures s.lts s.class (sym c.requires.labels) c.requires.common.columns in
    let most : columns_in s.setting ≤ labels s.lts + 1 = columns_few s.lts s.basis s.class in
    let rest = c.requires.shared.kept in
    let more = c.requires.shared.shows in
    has_joined c.in_ok-kept.kept c.args.shared.now kept rest shows more c.count.result c.form_count.result
    (are_well_formed s c.args.shared.now c.requires.shared own own_are kept c.in_ok-kept.field-0-1.items firsts places apart c.count.result
    (c.in_ok-kept.kept.rows.items ++ c.args.shared.now.rows.rows.items) columns (joined_rows c.in_ok-kept.kept c.args.shared.now kept rest shows more) (omega arith))

pub returns-clause-made : goal.returns-clause-made
returns-clause-made c =
    let s = shown_case c.args.c in
    let (kept, shows, firsts, places) = c.in_ok-kept.ensures in
    let own = map row_in c.args.own.now in
    let own_are = c.requires.own in
    let apart = c.requires.apart in
    let columns : c.count.result ≡ columns_in s.setting = c.count.ensures s.lts s.class (sym c.requires.labels) c.requires.common.columns in
    let rest = c.requires.shared.kept in
    let more = c.requires.shared.shows in
    let listed = take (form_count s.class s.problem (length c.args.shared.now.forms.items)) c.args.shared.now.forms.items in
    let size : vec_len c.args.shared.now.forms ≡ length c.args.shared.now.forms.items = omega arith in
    let count : c.form_count.result ≡ form_count s.class s.problem (length c.args.shared.now.forms.items) = c.form_count.ensures.value ∙ ap (form_count s.class s.problem) (c.len.ensures ∙ size) in
    let shown : CaseSystem = record { columns = c.count.result; kept = kept ++ rest; forms = map linear_form listed } in
    let is_case = case_is s c.args.shared.now c.requires.shared own own_are
    kept c.in_ok-kept.field-0-1.items firsts places apart c.count.result columns in
    let rows = c.in_ok-kept.kept.rows.items ++ c.args.shared.now.rows.rows.items in
    let shows_rows = joined_rows c.in_ok-kept.kept c.args.shared.now kept rest shows more in
    let system_is : linear_system c.count.result rows ≡ rows_of shown = (λ i. record { columns = c.count.result; rows = shows_rows i }) in
    let before : length c.in_ok-kept.kept.rows.items ≡ length kept = shown_count c.in_ok-kept.kept kept shows in
    let forms_are : forms_after (length c.in_ok-kept.kept.rows.items) listed ≡ forms_after (length kept) listed = ap (λ n. forms_after n listed) before in
    subst (λ n. IsSystemOf s (rows_before c.count.result c.in_ok-kept.kept c.args.shared.now n)) (sym count) (record {
      system = (
        shown,
        is_case,
        record {
          system = system_is;
          names = joined_names c.in_ok-kept.kept c.args.shared.now kept rest shows more;
          factors = joined_factors c.in_ok-kept.kept c.args.shared.now kept rest shows more;
          forms = refl;
        },
      );
      forms = splits_are s c.args.shared.now c.requires.shared own own_are kept c.in_ok-kept.field-0-1.items firsts places apart;
      rows = subst (λ l. All (StandsInRow s (linear_system c.count.result rows)) l) (sym forms_are)
          (subst (λ (l : LinearSystem). All (StandsInRow s l) (forms_after (length kept) listed)) (sym system_is)
          (forms_stand s c.args.shared.now c.requires.shared own own_are
          kept c.in_ok-kept.field-0-1.items firsts places apart c.count.result columns));
      bounded = λ reachable is_basis bound. (
          let over : IsCaseOver s shown = record {
            in_range = c.is_well_formed.ensures.in_range;
            numbers = bound;
            reachable = reachable;
            is_tree = c.requires.tree.tree;
            is_basis = is_basis;
            asked = c.requires.asked;
            is_case = is_case;
          } in
          subst (AreFormsOf (linear_system c.count.result rows)) (sym forms_are)
          (subst (λ (l : LinearSystem). AreFormsOf l (forms_after (length kept) listed)) (sym system_is)
          (are_forms s c.args.shared.now c.requires.shared own own_are
          kept c.in_ok-kept.field-0-1.items firsts places apart c.count.result columns over bound
          c.is_well_formed.ensures.few_states c.is_well_formed.ensures.few_labels)));
    })
