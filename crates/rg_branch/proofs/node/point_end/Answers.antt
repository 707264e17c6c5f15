use Rattle.std.proofs.Common.{rules, ◌≡◌, All, map, subst}
use Rattle.std.specs.Prelude.{FitsSigned, pos}
use Rattle.rg_fraction.specs.declared.fraction.Fraction.{Fraction}
use Rattle.rg_fraction.specs.Fractions.{denominator_of}
use Rattle.std.specs.Int.{w64}
use Rattle.std.proofs.lemmas.Int.{to_z-of_z}
use Rattle.rg_linear.specs.Branching.{side_row, node_system}
use Rattle.rg_branch.specs.View.{forms_of}
use Rattle.rg_branch.proofs.Related.{relations_free, point_feasible}
use Rattle.rg_linear.specs.System.{with_rows}
use Rattle.rg_branch.proofs.Points.{columns_of_values}
use Rattle.rg_branch.proofs.Nodes.{forms_at, fraction_told, whole_told}
use Rattle.rg_branch.proofs.node.point_end.Goals as goal

pub first_fraction-requires-clause-columns : goal.first_fraction-requires-clause-columns
first_fraction-requires-clause-columns c = λ whole further members are.
    columns_of_values (with_rows c.args.system.now further) members c.in_ok-values.values.items (c.in_ok-values.ensures (with_rows c.args.system.now further) members are c.columns.ensures.value)
    (subst (All (λ (f : Fraction). denominator_of f ≡ pos 1)) c.deref.ensures.value (c.are_whole.ensures whole))

pub first_fraction-requires-clause-forms : goal.first_fraction-requires-clause-forms
first_fraction-requires-clause-forms c =
    let (above, members, is) = c.requires.point in
    (map (side_row (forms_of c.args.forms.now)) above, members, forms_at c.args.system.now c.args.before c.args.forms.now above c.requires.can members c.args.relations is.are is.outcome)

pub returns-in-Some : goal.returns-in-Some
returns-in-Some c = λ above members is.
    let node = node_system c.args.system.now (forms_of c.args.forms.now) above in
    let fit : FitsSigned w64 c.in-Some.floor = search rules in
    let at = forms_at c.args.system.now c.args.before c.args.forms.now above c.requires.can members c.args.relations is.are is.outcome in
    rw (to_z-of_z w64 c.in-Some.floor fit)
    (fraction_told c.args.system.now c.args.before c.args.forms.now above c.requires.can members c.in-Some.form c.in-Some.floor is.outcome
    (point_feasible node members (relations_free node members c.args.relations is.are) is.outcome) (c.in-Some.ensures.first _ members at))

pub returns-in-None : goal.returns-in-None
returns-in-None c = λ above members is.
    let node = node_system c.args.system.now (forms_of c.args.forms.now) above in
    let at = forms_at c.args.system.now c.args.before c.args.forms.now above c.requires.can members c.args.relations is.are is.outcome in
    whole_told c.args.system.now c.args.before c.args.forms.now above c.requires.can members c.in_ok-values.values.items is.outcome
    (point_feasible node members (relations_free node members c.args.relations is.are) is.outcome) (c.in-None.ensures.none _ members at)
    (c.in_ok-values.ensures node members is.are c.columns.ensures.value)
