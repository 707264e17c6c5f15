use Rattle.std.proofs.Common.{List, map, Err, ap, sym, subst, ◌∙◌}
use Rattle.std.specs.Prelude.{Bool, ℤ}
use Rattle.rg_case_folds.specs.Shown.{Shown, ShownWide}
use Rattle.rg_outcome.specs.Casing.{CaseResult.passes, CaseComes, CaseComes.row_passes}
use Rattle.rg_cert_data.specs.declared.wide_at.Stage.TheVariants.{Row}
use Rattle.rg_case_parts.specs.SettingViews.{shown_case}
use Rattle.rg_separate.specs.Passing.{passed_at}
use Rattle.rg_rows.specs.Sharing.{shared_forms}
use Rattle.rg_separate.proofs.Branched.{bounds_after, first_bounded}
use Rattle.rg_separate.proofs.Passing.{row_shown}
use Rattle.rg_separate.proofs.case.solve_case.Goals as goal
use Rattle.rg_cert_meaning.specs.declared.Form.{Form}
use Rattle.rg_cert_meaning.specs.Sides.{side_of}

pub returns-in-Err-Wide-clause-comes : goal.returns-in-Err-Wide-clause-comes
returns-in-Err-Wide-clause-comes c =
    subst (λ (w : Shown). CaseComes (shown_case c.args.c) (passes w)) (sym (c.wide_case.ensures
    ∙ ap (λ (above : List (Form × ℤ × Bool)). passed_at Row c.args.c (map side_of above) c.in-Err-Wide.wide) c.new-above.ensures.items))
    (row_passes c.in-Err-Wide.wide (c.in-Err-Wide.ensures.wide c.in-Err-Wide.wide (ap Err c.in-Err-Wide.field-0-is)))

pub returns-in-Err-Wide-clause-tells : goal.returns-in-Err-Wide-clause-tells
returns-in-Err-Wide-clause-tells c =
    subst (λ (w : Shown). ShownWide c.args.c.setting.lts.now c.args.c.setting.class w) (sym (c.wide_case.ensures
    ∙ ap (λ (above : List (Form × ℤ × Bool)). passed_at Row c.args.c (map side_of above) c.in-Err-Wide.wide) c.new-above.ensures.items))
    (row_shown c.args.c c.in-Err-Wide.wide c.requires.case (c.in-Err-Wide.ensures.wide c.in-Err-Wide.wide (ap Err c.in-Err-Wide.field-0-is)))

pub answer_of_forms-requires-clause-system : goal.answer_of_forms-requires-clause-system
answer_of_forms-requires-clause-system c =
    let (case, made, shows) = c.in-Ok.ensures.system in
    let setting = c.requires.case.setting in
    let forms = c.in-Ok.ensures.forms setting.reachable setting.basis setting.bound in
    record {
      case = case;
      made = made;
      shows = shows;
      by_name = c.in-Ok.ensures.named;
      forms = forms;
      bounded = bounds_after c.in-Ok.named.system c.in-Ok.named.before c.in-Ok.named.forms forms;
    }

pub answer_of_forms-requires-clause-forms : goal.answer_of_forms-requires-clause-forms
answer_of_forms-requires-clause-forms c = λ joined.
    first_bounded c.in-Ok.named.forms (shared_forms c.args.problems.common.now) c.args.problems.forms.now c.requires.serves.forms (c.in-Ok.ensures.shared joined)
