-- The cells of one row are written over those of the other.
use Rattle.std.proofs.Common.{◌≡◌, ℕ, ◌+◌, ◌*◌, ◌≤◌, List, [], ◌++◌, length, take, drop, ap, ◌∙◌, arith}
use Rattle.rg_spanning.specs.Rows.{rows_of}
use Rattle.rg_spanning.proofs.RowLaws.{take-exact, row-inside, row-copied, rows-apart}
use Rattle.rg_spanning.proofs.table.Table.copy_row.Goals as goal
use Rattle.rg_spanning.proofs.table.Table.copy_row.Goals.{After-self}

from_within : (c : After-self) → c.args.from * c.self.inside.width + c.self.inside.width ≤ length c.self.inside.cells.items
from_within c = row-inside c.self.inside.rows c.self.inside.width c.args.from c.self.inside.cells.items c.args.self.now c.self.view_is c.self.invariant
    c.requires.from

to_within : (c : After-self) → c.args.to * c.self.inside.width + c.self.inside.width ≤ length c.self.inside.cells.items
to_within c = row-inside c.self.inside.rows c.self.inside.width c.args.to c.self.inside.cells.items c.args.self.now c.self.view_is c.self.invariant
    c.requires.to

pub overflow_mul-from : goal.overflow_mul-from
overflow_mul-from c =
    let w = from_within (goal.at.overflow_mul-from c).After-self in
    let n = c.self.inside.cells.ok in let m = c.self.inside.cells.small in omega (arith, n.0, n.1)

pub overflow_mul-to : goal.overflow_mul-to
overflow_mul-to c =
    let w = to_within (goal.at.overflow_mul-to c).After-self in
    let n = c.self.inside.cells.ok in let m = c.self.inside.cells.small in omega (arith, n.0, n.1)

pub copy_cells-requires-clause-from : goal.copy_cells-requires-clause-from
copy_cells-requires-clause-from c =
    let w = from_within (goal.at.copy_cells-requires-clause-from c).After-self in
    let n = ap length c.deref_mut.ensures.value in omega arith

pub copy_cells-requires-clause-to : goal.copy_cells-requires-clause-to
copy_cells-requires-clause-to c =
    let w = to_within (goal.at.copy_cells-requires-clause-to c).After-self in
    let n = ap length c.deref_mut.ensures.value in omega arith

pub copy_cells-requires-clause-apart : goal.copy_cells-requires-clause-apart
copy_cells-requires-clause-apart c = rows-apart c.args.from c.args.to c.self.inside.width

pub returns : goal.returns
returns c =
    let width = c.self.inside.width in
    let len : length c.copy_cells.new.cells ≡ c.self.inside.cells.len =
    (let m = c.copy_cells.auto.cells in let n = ap length c.deref_mut.ensures.value in let k = c.self.inside.cells.ok.0 in omega arith) in
    let at : List ℕ → List (List ℕ) = rows_of c.self.inside.rows width in
    ap at (take-exact c.self.inside.cells.len c.copy_cells.new.cells _ len)
    ∙ ap at c.copy_cells.ensures
    ∙ ap (λ (xs : List ℕ). at (take (c.args.to * width) xs ++ (take width (drop (c.args.from * width) xs) ++ drop (c.args.to * width + width) xs)))
    c.deref_mut.ensures.value
    ∙ row-copied c.self.inside.rows width c.args.to c.self.inside.cells.items c.args.self.now c.self.view_is c.self.invariant c.requires.to
    c.args.from [] c.requires.from
