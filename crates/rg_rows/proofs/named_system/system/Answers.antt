use Rattle.std.proofs.Common.{◌≡◌, All, List, ap, sym, subst, ◌∙◌}
use Rattle.rg_linear.specs.System.{LinearSystem}
use Rattle.rg_cycles.specs.View.{cycle_of}
use Rattle.rg_case_folds.specs.Setting.{setting_at, case_at}
use Rattle.rg_rows.specs.declared.named_form.NamedForm.{NamedForm}
use Rattle.rg_rows.specs.Forms.{forms_after, StandsInRow, AreFormsOf}
use Rattle.rg_rows.proofs.FormsAfter.{none_before}
use Rattle.rg_rows.proofs.named_system.system.Goals as goal

pub returns-clause-rows : goal.returns-clause-rows
returns-clause-rows c =
    let it = case_at (setting_at c.args.lts.now c.args.tree.now.arcs (cycle_of c.args.basis.now) c.args.class) c.args.problem c.args.case in
    let named = c.in_ok-named.named in
    let forms : c.into_system.result.forms.items ≡ forms_after named.before named.forms =
    c.into_system.ensures.forms ∙ sym (none_before named.forms) ∙ ap (λ n. forms_after n named.forms) (sym c.in_ok-named.ensures.before) in
    subst (λ (l : List NamedForm). All (StandsInRow it c.into_system.result.system) l) (sym forms)
    (subst (λ (s : LinearSystem). All (StandsInRow it s) (forms_after named.before named.forms)) (sym c.into_system.ensures.system) c.in_ok-named.ensures.made.rows)

pub returns-clause-forms : goal.returns-clause-forms
returns-clause-forms c = λ reachable is_basis bound.
    let named = c.in_ok-named.named in
    let forms : c.into_system.result.forms.items ≡ forms_after named.before named.forms =
    c.into_system.ensures.forms ∙ sym (none_before named.forms) ∙ ap (λ n. forms_after n named.forms) (sym c.in_ok-named.ensures.before) in
    subst (AreFormsOf c.into_system.result.system) (sym forms)
    (subst (λ (s : LinearSystem). AreFormsOf s (forms_after named.before named.forms)) (sym c.into_system.ensures.system) (c.in_ok-named.ensures.made.bounded reachable is_basis bound))
