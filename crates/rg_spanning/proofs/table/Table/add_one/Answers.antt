-- A write to a cell is one to its row.
use Rattle.std.proofs.Common.{◌≡◌, ◌+◌, ◌*◌, ◌<◌, [], length, slice_index, slice_set, slice_index_or, ap, ◌∙◌, arith}
use Rattle.rg_spanning.proofs.RowLaws.{row-inside, entry-inside, entry-cell, entry-set}
use Rattle.rg_spanning.proofs.table.Table.add_one.Goals as goal
use Rattle.rg_spanning.proofs.table.Table.add_one.Goals.{After-self, After-index_mut}

within : (c : After-self) → c.args.s * c.self.inside.width + c.args.t < length c.self.inside.cells.items
within c =
    let items = c.self.inside.cells.items in
    let row = row-inside c.self.inside.rows c.self.inside.width c.args.s items c.args.self.now c.self.view_is c.self.invariant c.requires.row in
    let entry = entry-inside c.self.inside.rows c.self.inside.width c.args.s items c.args.self.now c.self.view_is c.self.invariant c.requires.row
    c.args.t [] c.requires.entry in
    omega arith

is_entry : (c : After-index_mut) → c.index_mut.result.now ≡ slice_index (slice_index_or c.args.self.now c.args.s []) c.args.t
is_entry c =
    c.index_mut.ensures.value
    ∙ entry-cell c.self.inside.rows c.self.inside.width c.args.s c.self.inside.cells.items c.args.self.now c.self.view_is c.self.invariant
    c.requires.row c.args.t [] 0 _ c.requires.entry

pub overflow_mul-s : goal.overflow_mul-s
overflow_mul-s c =
    let w = within (goal.at.overflow_mul-s c).After-self in
    let n = c.self.inside.cells.ok in let m = c.self.inside.cells.small in omega (arith, n.0, n.1)

pub overflow_add-s : goal.overflow_add-s
overflow_add-s c =
    let w = within (goal.at.overflow_add-s c).After-self in
    let n = c.self.inside.cells.ok in let m = c.self.inside.cells.small in omega (arith, n.0, n.1)

pub index_mut-requires : goal.index_mut-requires
index_mut-requires c =
    let w = within (goal.at.index_mut-requires c).After-self in
    let n = c.self.inside.cells.ok in omega (arith, n.0, n.1)

pub overflow_add-index_mut : goal.overflow_add-index_mut
overflow_add-index_mut c = let e = is_entry (goal.at.overflow_add-index_mut c).After-index_mut in let f = c.requires.fits in omega arith

pub returns : goal.returns
returns c =
    let at = (goal.at.returns c).After-index_mut in
    let items = c.self.inside.cells.items in
    let row = slice_index_or c.args.self.now c.args.s [] in
    entry-set c.self.inside.rows c.self.inside.width c.args.s items c.args.self.now c.self.view_is c.self.invariant c.requires.row c.args.t []
    (c.index_mut.result.now + 1) c.requires.entry
    ∙ ap (λ x. slice_set c.args.self.now c.args.s (slice_set row c.args.t (x + 1))) (is_entry at)
