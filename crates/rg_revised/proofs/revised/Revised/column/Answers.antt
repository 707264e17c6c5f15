use Rattle.std.proofs.Common.{length, ◌<◌, subst, sym}
use Rattle.rg_revised.specs.View.{RevisedState}
use Rattle.rg_revised.specs.Settling.{IsHeldOf}
use Rattle.rg_revised.proofs.revised.Revised.column.Goals as goal

pub column_value-requires-clause-whole : goal.column_value-requires-clause-whole
column_value-requires-clause-whole c =
    let (system, members, held) = c.requires.held in
    (system, members, subst (λ (r : RevisedState). IsHeldOf system members r) (sym c.self.view_is) held)

pub column_value-requires-clause-column : goal.column_value-requires-clause-column
column_value-requires-clause-column c = subst (λ (r : RevisedState). c.args.t < length r.tableau.basis.slots) (sym c.self.view_is) c.requires.column

pub returns : goal.returns
returns c = λ system members held. c.column_value.ensures system members (subst (λ (r : RevisedState). IsHeldOf system members r) (sym c.self.view_is) held)
