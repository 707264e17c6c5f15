use Rattle.std.proofs.Common.{◌≡◌, ◌+◌, ◌*◌, ◌≤◌, length, vec_len, ap, ◌∙◌, arith, rules}
use Rattle.std.specs.Prelude.{vec_capacity}
use Rattle.rg_feasible.specs.Renewal.{RowInRange}
use Rattle.rg_feasible.proofs.Storing.{stored_fresh, dictionary_fresh, filled, zeros_fit}
use Rattle.rg_feasible.proofs.relation_table.RelationTable.with_columns.Goals as goal

-- the table has a zero for each number of the columns
table_fits : (c : goal.In_ok-pivot_row) → (length c.resize.new.self.items ≡ c.args.columns * (c.args.columns + 2)) × RowInRange c.resize.new.self.items
table_fits c =
    let none = c.make_room.ensures.items ∙ c.new-table.ensures.items in
    zeros_fit (c.args.columns * (c.args.columns + 2)) c.resize.new.self.items
    (filled c.make_room.new.table.items c.resize.new.self.items (c.args.columns * (c.args.columns + 2)) (vec_len c.make_room.new.table) none
    (c.make_room.new.table.ok.0 ∙ ap length none) (c.in_ok-resize.ensures {u = tt}).items)

pub invariant_of-result : goal.invariant_of-result
invariant_of-result c =
    let fits = table_fits c in
    let room = (c.in_ok-make_room.ensures {u = tt}).room in
    let more = c.resize.ensures.capacity in
    let space : (c.args.columns + c.args.rows) * (c.args.columns + 2) ≤ vec_capacity c.resize.new.self = omega arith in
    let width : length c.in_ok-pivot_row.pivot_row.items ≡ c.args.columns + 2 = search (rules, (c.in_ok-pivot_row.ensures {u = tt}).len) in
    stored_fresh c.args.columns c.args.rows (vec_capacity c.resize.new.self) c.in_ok-members.members.items c.resize.new.self.items c.in_ok-pivot_row.pivot_row.items
    c.requires (c.in_ok-members.ensures {u = tt}) fits.0 fits.1 space width

pub returns-clause-system : goal.returns-clause-system
returns-clause-system c = dictionary_fresh c.args.columns c.args.rows c.in_ok-members.members.items c.resize.new.self.items (c.in_ok-members.ensures {u = tt}) (table_fits c).0
