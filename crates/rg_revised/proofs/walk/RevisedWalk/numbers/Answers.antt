use Rattle.std.proofs.Common.{rules, ◌<◌, Contains, subst, sym}
use Rattle.std.specs.Prelude.{FitsSigned}
use Rattle.std.specs.Int.{w64}
use Rattle.std.proofs.lemmas.Int.{to_z-of_z}
use Rattle.std.proofs.lemmas.Result.{IfOk-weaker}
use Rattle.rg_linear.specs.Table.{ShowsRow}
use Rattle.rg_revised.specs.Walk.{WalkState, IsWalkOf}
use Rattle.rg_revised.proofs.Walking.{column_shown}
use Rattle.rg_revised.proofs.walk.RevisedWalk.numbers.Goals as goal

pub primitive_numbers-requires-clause-members : goal.primitive_numbers-requires-clause-members
primitive_numbers-requires-clause-members c =
    let (system, is) = c.requires.held in
    let at = subst (λ (w : WalkState). IsWalkOf system w) (sym c.self.view_is) is in
    rw (c.deref.ensures.value, c.slots.ensures) (λ m has. (at.held.held.same m).0 has)

pub returns-clause-shows : goal.returns-clause-shows
returns-clause-shows c =
    let fits : FitsSigned w64 c.d.result = search rules in
    let numbers = rw (c.deref.ensures.value, c.slots.ensures, to_z-of_z w64 c.d.result fits, c.d.ensures, c.row.ensures.numbers) at c.primitive_numbers.ensures.numbers in
    let lt = subst (λ (w : WalkState). c.args.t < w.columns) (sym c.self.view_is) c.requires.column in
    let lacks = subst (λ (w : WalkState). ¬ Contains w.members c.args.t) (sym c.self.view_is) c.requires.outside in
    IfOk-weaker c.primitive_numbers.result _ _
    (λ v shown system is.
    (let at = subst (λ (w : WalkState). IsWalkOf system w) (sym c.self.view_is) is in
    subst (λ (w : WalkState). ShowsRow system w.members c.args.t v.items) c.self.view_is
    (column_shown system c.self.inside.members.variables.items c.self.inside.basis _ c.args.t v.items at.held lt lacks shown)))
    numbers
