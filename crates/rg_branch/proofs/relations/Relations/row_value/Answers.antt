use Rattle.std.proofs.Common.{ap, subst, sym, length, ◌∙◌}
use Rattle.rg_linear.specs.System.{LinearRow, with_rows}
use Rattle.rg_linear.specs.Descent.{IsBasicPoint}
use Rattle.rg_branch.specs.Relating.{AreRelationsOf}
use Rattle.rg_branch.proofs.Nodes.{first_row, first_length}
use Rattle.rg_branch.proofs.relations.Relations.row_value.Goals as goal

pub value-requires-clause-held : goal.value-requires-clause-held
value-requires-clause-held c =
    let (further, members, are) = c.requires.are in
    let at = subst (AreRelationsOf (with_rows c.args.system.now further) members) c.in-OfColumns.is are in (
      with_rows c.args.system.now further,
      members,
      c.args.row,
      at,
      first_length c.args.system.now further c.args.row c.requires.row,
      first_row c.args.system.now further c.args.row c.requires.row ∙ sym c.row.ensures.value,
    )

pub value-requires-clause-coeffs : goal.value-requires-clause-coeffs
value-requires-clause-coeffs c =
    let (further, members, are) = c.requires.are in
    let at = subst (AreRelationsOf (with_rows c.args.system.now further) members) c.in-OfColumns.is are in
    ap (λ (r : LinearRow). length r.coeffs) c.row.ensures.value ∙ c.row.ensures.well_formed.one_each c.args.row c.requires.row ∙ sym at.held.held.count

pub returns-in-OfColumns : goal.returns-in-OfColumns
returns-in-OfColumns c = λ further members are scale v basic.
    let at = subst (AreRelationsOf (with_rows c.args.system.now further) members) c.in-OfColumns.is are in
    c.value.ensures (with_rows c.args.system.now further) members c.args.row at (first_length c.args.system.now further c.args.row c.requires.row)
    (first_row c.args.system.now further c.args.row c.requires.row ∙ sym c.row.ensures.value) scale v basic

pub returns-in-OfAll : goal.returns-in-OfAll
returns-in-OfAll c = λ further members are scale v basic.
    let at = subst (AreRelationsOf (with_rows c.args.system.now further) members) c.in-OfAll.is are in
    rw c.columns.ensures.value at c.point.ensures (with_rows c.args.system.now further) at.0 scale v (subst (λ ms. IsBasicPoint (with_rows c.args.system.now further) ms scale v) (sym at.1) basic)
