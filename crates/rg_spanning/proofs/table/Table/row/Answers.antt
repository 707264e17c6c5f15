-- A row stands within the cells.
use Rattle.std.proofs.Common.{◌+◌, ◌*◌, ◌≤◌, [], length, ap, arith}
use Rattle.rg_spanning.proofs.RowLaws.{row-inside, row-part}
use Rattle.rg_spanning.proofs.table.Table.row.Goals as goal
use Rattle.rg_spanning.proofs.table.Table.row.Goals.{After-self}

within : (c : After-self) → c.args.s * c.self.inside.width + c.self.inside.width ≤ length c.self.inside.cells.items
within c =
    row-inside c.self.inside.rows c.self.inside.width c.args.s c.self.inside.cells.items c.args.self.now c.self.view_is c.self.invariant c.requires

pub overflow_mul-start : goal.overflow_mul-start
overflow_mul-start c = let w = within c in let n = c.self.inside.cells.ok in let m = c.self.inside.cells.small in omega (arith, n.0, n.1)

pub overflow_add-result : goal.overflow_add-result
overflow_add-result c =
    let w = within (goal.at.overflow_add-result c).After-self in
    let n = c.self.inside.cells.ok in let m = c.self.inside.cells.small in omega (arith, n.0, n.1)

pub offset_bounds-deref-start : goal.offset_bounds-deref-start
offset_bounds-deref-start c =
    let w = within (goal.at.offset_bounds-deref-start c).After-self in
    let n = ap length c.deref.ensures.value in
    let m = c.deref.type_inv.1 in
    omega arith

pub slice_bounds-result-end : goal.slice_bounds-result-end
slice_bounds-result-end c =
    let w = within (goal.at.slice_bounds-result-end c).After-self in
    let n = ap length c.deref.ensures.value in
    let bound : c.args.s * c.self.inside.width + c.self.inside.width ≤ length c.deref.result.now = omega arith in
    bound

pub returns : goal.returns
returns c =
    let width = c.self.inside.width in
    let start = c.args.s * width in
    rw c.deref.ensures.value
    (row-part c.self.inside.rows width c.args.s c.self.inside.cells.items c.args.self.now c.self.view_is c.self.invariant c.requires [])
