use Rattle.std.proofs.Common.{◌<◌, List, [], All, length, map, ap, sym, subst, ◌∙◌}
use Rattle.rg_cert_meaning.specs.Row.{Side}
use Rattle.rg_linear.specs.Branching.{SplitSide, BranchOutcome.found}
use Rattle.rg_linear.proofs.Endings.{splits_within}
use Rattle.rg_case_folds.specs.Shown.{Shown, ShownWide}
use Rattle.rg_net.specs.Shown.{shown_place}
use Rattle.rg_outcome.specs.Casing.{CaseResult.passes, CaseComes}
use Rattle.rg_rows.specs.declared.named_form.NamedForm.{NamedForm}
use Rattle.rg_rows.specs.Forms.{split_of}
use Rattle.rg_cert_data.specs.declared.wide_at.Stage.TheVariants.{Place}
use Rattle.rg_case_parts.specs.SettingViews.{shown_case}
use Rattle.rg_separate.specs.Casing.{forms_in, sides_among}
use Rattle.rg_separate.specs.Passing.{passed_at}
use Rattle.rg_separate.proofs.PlaceOfPoint.{solves, place_shown, place_comes, place_fails}
use Rattle.rg_separate.proofs.Siding.{sides_on_forms, sides_on_named}
use Rattle.rg_separate.proofs.placing.place_answer.Goals as goal

pub named_triples-requires : goal.named_triples-requires
named_triples-requires c =
    let named = c.args.named.now in
    let sides = c.args.above.now in
    subst (λ (fs : List NamedForm). All (λ (s : SplitSide). s.form < length fs) sides) (sym c.forms.ensures)
    (sides_on_named named.forms sides (sides_on_forms (forms_in named) [] sides
    (splits_within named.system (forms_in named) (found c.requires.found.members sides) c.requires.system.bounded c.requires.found.outcome)))

pub returns-in-Ok-clause-tells : goal.returns-in-Ok-clause-tells
returns-in-Ok-clause-tells c = c.in-Ok.ensures.region c.requires.case.live (solves c.args.c c.args.named.now c.args.point.now c.requires.case c.requires.system c.requires.solves)

pub returns-in_ok-above-in-Err-Wide-clause-tells : goal.returns-in_ok-above-in-Err-Wide-clause-tells
returns-in_ok-above-in-Err-Wide-clause-tells c =
    let lts = c.args.c.setting.lts.now in
    let class = c.args.c.setting.class in
    let sides = c.args.above.now in
    let by_name = c.in_ok-above-in-Err-Wide.ensures ∙ ap (λ (fs : List NamedForm). sides_among (map split_of fs) sides) c.forms.ensures ∙ ap (λ fs. sides_among fs sides) c.requires.system.by_name in
    subst (λ (w : Shown). ShownWide lts class w) (sym (c.wide_case.ensures ∙ ap (λ (ss : List Side). passed_at Place c.args.c ss c.in-Err-Wide.wide) by_name))
    (place_shown c.args.c c.args.named.now sides c.args.point.now c.in-Err-Wide.wide c.requires.case c.requires.system c.requires.found (rw c.in-Err-Wide.field-0-is at c.in-Err-Wide.ensures.comes))

pub returns-in-Ok-clause-comes : goal.returns-in-Ok-clause-comes
returns-in-Ok-clause-comes c = place_comes c.args.c c.args.named.now c.args.above.now c.args.point.now c.requires.system c.requires.found (shown_place c.in-Ok.region.place) c.in-Ok.ensures.comes

pub returns-in_ok-above-in-Err-Wide-clause-comes : goal.returns-in_ok-above-in-Err-Wide-clause-comes
returns-in_ok-above-in-Err-Wide-clause-comes c =
    let lts = c.args.c.setting.lts.now in
    let class = c.args.c.setting.class in
    let sides = c.args.above.now in
    let by_name = c.in_ok-above-in-Err-Wide.ensures ∙ ap (λ (fs : List NamedForm). sides_among (map split_of fs) sides) c.forms.ensures ∙ ap (λ fs. sides_among fs sides) c.requires.system.by_name in
    subst (λ (w : Shown). CaseComes (shown_case c.args.c) (passes w)) (sym (c.wide_case.ensures ∙ ap (λ (ss : List Side). passed_at Place c.args.c ss c.in-Err-Wide.wide) by_name))
    (place_fails c.args.c c.args.named.now sides c.args.point.now c.requires.system c.requires.found c.in-Err-Wide.wide (rw c.in-Err-Wide.field-0-is at c.in-Err-Wide.ensures.comes))
