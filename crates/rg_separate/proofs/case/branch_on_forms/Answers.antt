use Rattle.std.proofs.Common.{◌≡◌, ◌≤◌, ◌∙◌, List, length, ap, sym, subst}
use Rattle.std.specs.Prelude.{IfOk, IfErr}
use Rattle.rg_linear.specs.System.{LinearSystem}
use Rattle.rg_linear.specs.Branching.{Form}
use Rattle.rg_branch.specs.declared.bounded.Bounded.{Bounded}
use Rattle.rg_branch.specs.View.{forms_of}
use Rattle.rg_branch.specs.Asked.{CanBranch}
use Rattle.rg_branch.specs.Answer.{IsAnswer, IsSound, IsStop}
use Rattle.rg_rows.specs.declared.named_form.NamedForm.{NamedForm}
use Rattle.rg_separate.specs.Bounding.{AreBoundedOf}
use Rattle.rg_separate.specs.Casing.{forms_in}
use Rattle.rg_separate.proofs.Branched.{bounded_linear, can_branch, first_are}
use Rattle.rg_separate.proofs.case.branch_on_forms.Goals as goal

pub first_forms-forms-requires : goal.first_forms-forms-requires
first_forms-forms-requires c =
    let (within, are) = c.requires.forms (sym c.has_shared_rows.ensures ∙ c.if-has_shared_rows.true) in
    subst (λ (fs : List NamedForm). length fs ≤ length c.args.problems.forms.now) (sym c.forms.ensures) within

pub solve_whole-requires-clause-can : goal.solve_whole-requires-clause-can
solve_whole-requires-clause-can c =
    let (within, first) = c.requires.forms (sym c.has_shared_rows.ensures ∙ c.if-has_shared_rows.true) in
    let are : AreBoundedOf c.args.named.now.forms c.first_forms-forms.result.now = first_are c.args.named.now.forms c.forms.result.now c.args.problems.forms.now c.first_forms-forms.result.now c.forms.ensures c.first_forms-forms.ensures first in
    subst (λ (s : LinearSystem). CanBranch s c.before-then-has_shared_rows.result c.first_forms-forms.result.now) (sym c.system-system.ensures)
    (subst (λ n. CanBranch c.args.named.now.system n c.first_forms-forms.result.now) (sym c.before-then-has_shared_rows.ensures)
    (can_branch c.args.named.now.system c.args.named.now.before c.args.named.now.forms c.first_forms-forms.result.now c.requires.are are))

pub returns-then-has_shared_rows-clause-answer : goal.returns-then-has_shared_rows-clause-answer
returns-then-has_shared_rows-clause-answer c =
    let (within, first) = c.requires.forms (sym c.has_shared_rows.ensures ∙ c.if-has_shared_rows.true) in
    let are : AreBoundedOf c.args.named.now.forms c.first_forms-forms.result.now = first_are c.args.named.now.forms c.forms.result.now c.args.problems.forms.now c.first_forms-forms.result.now c.forms.ensures c.first_forms-forms.ensures first in
    let linear = bounded_linear c.args.named.now.forms c.first_forms-forms.result.now are in
    subst (λ (fs : List Form). IfOk c.solve_whole.result (IsAnswer c.args.named.now.system fs)) linear
    (subst (λ (s : LinearSystem). IfOk c.solve_whole.result (IsAnswer s (forms_of c.first_forms-forms.result.now))) c.system-system.ensures c.solve_whole.ensures.answer)

pub returns-then-has_shared_rows-clause-sound : goal.returns-then-has_shared_rows-clause-sound
returns-then-has_shared_rows-clause-sound c =
    let (within, first) = c.requires.forms (sym c.has_shared_rows.ensures ∙ c.if-has_shared_rows.true) in
    let are : AreBoundedOf c.args.named.now.forms c.first_forms-forms.result.now = first_are c.args.named.now.forms c.forms.result.now c.args.problems.forms.now c.first_forms-forms.result.now c.forms.ensures c.first_forms-forms.ensures first in
    let linear = bounded_linear c.args.named.now.forms c.first_forms-forms.result.now are in
    subst (λ (fs : List Form). IfOk c.solve_whole.result (IsSound c.args.named.now.system fs)) linear
    (subst (λ (s : LinearSystem). IfOk c.solve_whole.result (IsSound s (forms_of c.first_forms-forms.result.now))) c.system-system.ensures c.solve_whole.ensures.sound)

pub returns-then-has_shared_rows-clause-stop : goal.returns-then-has_shared_rows-clause-stop
returns-then-has_shared_rows-clause-stop c =
    let (within, first) = c.requires.forms (sym c.has_shared_rows.ensures ∙ c.if-has_shared_rows.true) in
    let are : AreBoundedOf c.args.named.now.forms c.first_forms-forms.result.now = first_are c.args.named.now.forms c.forms.result.now c.args.problems.forms.now c.first_forms-forms.result.now c.forms.ensures c.first_forms-forms.ensures first in
    let linear = bounded_linear c.args.named.now.forms c.first_forms-forms.result.now are in
    subst (λ (fs : List Form). IfErr c.solve_whole.result (IsStop c.args.named.now.system fs)) linear
    (subst (λ (s : LinearSystem). IfErr c.solve_whole.result (IsStop s (forms_of c.first_forms-forms.result.now))) c.system-system.ensures c.solve_whole.ensures.stop)

pub solve_whole-requires-2-clause-can : goal.solve_whole-requires-2-clause-can
solve_whole-requires-2-clause-can c =
    let are : AreBoundedOf c.args.named.now.forms c.deref.result.now = subst (λ (bs : List Bounded). AreBoundedOf c.args.named.now.forms bs) (sym c.deref.ensures.value)
    (subst (λ (fs : List NamedForm). AreBoundedOf fs c.in_ok-forms.forms.items) c.forms-2.ensures c.in_ok-forms.ensures) in
    subst (λ (s : LinearSystem). CanBranch s c.before-2.result c.deref.result.now) (sym c.system-system.ensures)
    (subst (λ n. CanBranch c.args.named.now.system n c.deref.result.now) (sym c.before-2.ensures)
    (can_branch c.args.named.now.system c.args.named.now.before c.args.named.now.forms c.deref.result.now c.requires.are are))

pub returns-clause-answer : goal.returns-clause-answer
returns-clause-answer c =
    let are : AreBoundedOf c.args.named.now.forms c.deref.result.now = subst (λ (bs : List Bounded). AreBoundedOf c.args.named.now.forms bs) (sym c.deref.ensures.value)
    (subst (λ (fs : List NamedForm). AreBoundedOf fs c.in_ok-forms.forms.items) c.forms-2.ensures c.in_ok-forms.ensures) in
    let linear = bounded_linear c.args.named.now.forms c.deref.result.now are in
    subst (λ (fs : List Form). IfOk c.solve_whole-2.result (IsAnswer c.args.named.now.system fs)) linear
    (subst (λ (s : LinearSystem). IfOk c.solve_whole-2.result (IsAnswer s (forms_of c.deref.result.now))) c.system-system.ensures c.solve_whole-2.ensures.answer)

pub returns-clause-sound : goal.returns-clause-sound
returns-clause-sound c =
    let are : AreBoundedOf c.args.named.now.forms c.deref.result.now = subst (λ (bs : List Bounded). AreBoundedOf c.args.named.now.forms bs) (sym c.deref.ensures.value)
    (subst (λ (fs : List NamedForm). AreBoundedOf fs c.in_ok-forms.forms.items) c.forms-2.ensures c.in_ok-forms.ensures) in
    let linear = bounded_linear c.args.named.now.forms c.deref.result.now are in
    subst (λ (fs : List Form). IfOk c.solve_whole-2.result (IsSound c.args.named.now.system fs)) linear
    (subst (λ (s : LinearSystem). IfOk c.solve_whole-2.result (IsSound s (forms_of c.deref.result.now))) c.system-system.ensures c.solve_whole-2.ensures.sound)

pub returns-clause-stop : goal.returns-clause-stop
returns-clause-stop c =
    let are : AreBoundedOf c.args.named.now.forms c.deref.result.now = subst (λ (bs : List Bounded). AreBoundedOf c.args.named.now.forms bs) (sym c.deref.ensures.value)
    (subst (λ (fs : List NamedForm). AreBoundedOf fs c.in_ok-forms.forms.items) c.forms-2.ensures c.in_ok-forms.ensures) in
    let linear = bounded_linear c.args.named.now.forms c.deref.result.now are in
    subst (λ (fs : List Form). IfErr c.solve_whole-2.result (IsStop c.args.named.now.system fs)) linear
    (subst (λ (s : LinearSystem). IfErr c.solve_whole-2.result (IsStop s (forms_of c.deref.result.now))) c.system-system.ensures c.solve_whole-2.ensures.stop)
