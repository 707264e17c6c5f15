use Rattle.std.proofs.Common.{◌≡◌, ◌+◌, ◌*◌, ◌^◌, ◌<◌, ◌≤◌, length, take, ap, subst, sym, ◌∙◌, arith, rules}
use Rattle.std.specs.Prelude.{vec_capacity}
use Rattle.std.specs.Vec.{with_items}
use Rattle.std.proofs.lemmas.List.{with_items_is}
use Rattle.rg_linear.specs.Dictionary.{numbers_from}
use Rattle.rg_feasible.specs.Contents.{Contents, IsDictionary, columns_alone}
use Rattle.rg_feasible.specs.Renewal.{RowInRange}
use Rattle.rg_feasible.proofs.Storing.{stored_fresh, dictionary_fresh, first_fit, columns_first}
use Rattle.rg_feasible.proofs.relation_table.RelationTable.restart.Goals as goal

-- the members are the columns
members_are : (c : goal.After-self-3-1) → (with_items c.self.inside.members c.number_columns.new.members).items ≡ numbers_from 0 c.self.inside.columns
members_are c = with_items_is c.self.inside.members c.number_columns.new.members (c.number_columns.auto.members ∙ c.deref_mut.ensures.len)
    ∙ c.number_columns.ensures ∙ ap (numbers_from 0) (ap length c.deref_mut.ensures.value ∙ c.self.invariant.count)

width_is : (c : goal.After-self-3-1) → c.len-width.result ≡ c.self.inside.columns + 2
width_is c = search (rules, c.self.invariant.width)

-- few variables
of_view : (c : goal.After-self-3-1) → c.self.inside.columns + c.args.rows < 2 ^ 32
of_view c = subst (λ (v : Contents). v.columns + c.args.rows < 2 ^ 32) (sym c.self.view_is) c.requires

-- the table has the numbers of the columns, which nothing reads
table_fits : (c : goal.After-self-3-1) → (length c.truncate.new.self.items ≡ c.self.inside.columns * (c.self.inside.columns + 2)) × RowInRange c.truncate.new.self.items
table_fits c =
    let items = c.truncate.ensures.items ∙ ap (λ w. take (c.self.inside.columns * w) c.make_room.new.table.items) (width_is c)
    ∙ ap (take (c.self.inside.columns * (c.self.inside.columns + 2))) c.make_room.ensures.items in
    subst (λ xs. (length xs ≡ c.self.inside.columns * (c.self.inside.columns + 2)) × RowInRange xs) (sym items)
    (first_fit c.self.inside.table.items (c.self.inside.columns * (c.self.inside.columns + 2))
    (columns_first c.self.inside.columns c.self.inside.rows _ c.self.invariant.size) c.self.invariant.in_range)

pub invariant_of-self-2 : goal.invariant_of-self-2
invariant_of-self-2 c =
    let fits = table_fits c in
    let few : c.self.inside.columns + c.max-room.result < 2 ^ 32 = (let e = c.max-room.ensures in let f = c.self.invariant.few in let r = of_view c in omega arith) in
    let space : (c.self.inside.columns + c.max-room.result) * (c.self.inside.columns + 2) ≤ vec_capacity c.truncate.new.self = subst
    (λ n. (c.self.inside.columns + c.max-room.result) * n ≤ vec_capacity c.truncate.new.self) (width_is c)
    (let r = (c.in_ok-make_room.ensures {u = tt}).room in let e = c.truncate.ensures.capacity in omega arith) in
    stored_fresh c.self.inside.columns c.max-room.result (vec_capacity c.truncate.new.self)
    _ c.truncate.new.self.items c.self.inside.pivot_row.items few
    (members_are c) fits.0 fits.1 space c.self.invariant.width

pub returns-clause-system : goal.returns-clause-system
returns-clause-system c =
    let d = dictionary_fresh c.self.inside.columns c.max-room.result (with_items c.self.inside.members c.number_columns.new.members).items c.truncate.new.self.items (members_are c) (table_fits c).0 in
    subst (λ (v : Contents). IsDictionary (columns_alone v.columns)
    (record {
      columns = c.self.inside.columns;
      rows = 0;
      room = c.max-room.result;
      members = (with_items c.self.inside.members c.number_columns.new.members).items;
      table = c.truncate.new.self.items;
    })) c.self.view_is d
