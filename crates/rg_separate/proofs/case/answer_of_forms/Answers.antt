use Rattle.std.proofs.Common.{◌<◌, List, [], All, length, map, ap, sym, subst, ◌∙◌}
use Rattle.rg_cert_meaning.specs.Row.{Side}
use Rattle.rg_linear.specs.Branching.{SplitSide, Branching, BranchOutcome.stopped}
use Rattle.rg_linear.proofs.Endings.{splits_within}
use Rattle.rg_case_folds.specs.Shown.{Shown, ShownWide}
use Rattle.rg_feasible.specs.Settling.{wide_at}
use Rattle.rg_outcome.specs.Casing.{CaseResult.passes, CaseComes}
use Rattle.rg_branch.specs.Answer.{IsStop}
use Rattle.rg_rows.specs.declared.named_form.NamedForm.{NamedForm}
use Rattle.rg_rows.specs.Forms.{split_of}
use Rattle.rg_case_parts.specs.SettingViews.{shown_case}
use Rattle.rg_separate.specs.Casing.{forms_in, sides_among}
use Rattle.rg_separate.specs.Passing.{pivot_at}
use Rattle.rg_separate.proofs.Passing.{pivot_shown, pivot_comes}
use Rattle.rg_separate.proofs.Siding.{sides_on_forms, sides_on_named}
use Rattle.rg_separate.proofs.case.answer_of_forms.Goals as goal

pub named_triples-requires : goal.named_triples-requires
named_triples-requires c =
    let named = c.args.named.now in
    let sides = c.in-Err-Wide.above.items in
    let at = wide_at c.in-Err-Wide.members.items c.in-Err-Wide.wide in
    let ends : Branching named.system (forms_in named) (stopped sides at) = subst (IsStop named.system (forms_in named)) c.in-Err-Wide.field-0-is c.in-Err-Wide.ensures.stop in
    subst (λ above. All (λ (s : SplitSide). s.form < length c.forms.result.now) above) (sym c.deref-in-Err-Wide.ensures.value)
    (subst (λ (fs : List NamedForm). All (λ (s : SplitSide). s.form < length fs) sides) (sym c.forms.ensures)
    (sides_on_named named.forms sides (sides_on_forms (forms_in named) [] sides (splits_within named.system (forms_in named) (stopped sides at) c.requires.system.bounded ends))))

pub returns-in_ok-above-in-Err-Wide-clause-tells : goal.returns-in_ok-above-in-Err-Wide-clause-tells
returns-in_ok-above-in-Err-Wide-clause-tells c =
    let lts = c.args.c.setting.lts.now in
    let class = c.args.c.setting.class in
    let named = c.args.named.now in
    let sides = c.in-Err-Wide.above.items in
    let at = wide_at c.in-Err-Wide.members.items c.in-Err-Wide.wide in
    let ends : Branching named.system (forms_in named) (stopped sides at) = subst (IsStop named.system (forms_in named)) c.in-Err-Wide.field-0-is c.in-Err-Wide.ensures.stop in
    let by_name = c.in_ok-above-in-Err-Wide.ensures
    ∙ ap (λ (fs : List NamedForm). sides_among (map split_of fs) c.deref-in-Err-Wide.result.now) c.forms.ensures
    ∙ ap (λ above. sides_among (map split_of named.forms) above) c.deref-in-Err-Wide.ensures.value
    ∙ ap (λ fs. sides_among fs sides) c.requires.system.by_name in
    subst (λ (w : Shown). ShownWide lts class w) (sym (c.wide_pivot.ensures ∙ ap (λ (ss : List Side). pivot_at c.args.c ss c.in-Err-Wide.members.items c.in-Err-Wide.wide) by_name))
    (pivot_shown c.args.c named sides c.in-Err-Wide.members.items c.in-Err-Wide.wide c.requires.case c.requires.system ends)

pub returns-in_ok-above-in-Err-Wide-clause-comes : goal.returns-in_ok-above-in-Err-Wide-clause-comes
returns-in_ok-above-in-Err-Wide-clause-comes c =
    let lts = c.args.c.setting.lts.now in
    let class = c.args.c.setting.class in
    let named = c.args.named.now in
    let sides = c.in-Err-Wide.above.items in
    let at = wide_at c.in-Err-Wide.members.items c.in-Err-Wide.wide in
    let ends : Branching named.system (forms_in named) (stopped sides at) = subst (IsStop named.system (forms_in named)) c.in-Err-Wide.field-0-is c.in-Err-Wide.ensures.stop in
    let by_name = c.in_ok-above-in-Err-Wide.ensures
    ∙ ap (λ (fs : List NamedForm). sides_among (map split_of fs) c.deref-in-Err-Wide.result.now) c.forms.ensures
    ∙ ap (λ above. sides_among (map split_of named.forms) above) c.deref-in-Err-Wide.ensures.value
    ∙ ap (λ fs. sides_among fs sides) c.requires.system.by_name in
    subst (λ (w : Shown). CaseComes (shown_case c.args.c) (passes w))
    (sym (c.wide_pivot.ensures ∙ ap (λ (ss : List Side). pivot_at c.args.c ss c.in-Err-Wide.members.items c.in-Err-Wide.wide) by_name))
    (pivot_comes c.args.c named sides at c.requires.system ends)
