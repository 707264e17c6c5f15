use Rattle.std.proofs.Common.{◌≡◌, ◌≢◌, ◌<◌, ◌+◌, suc, [], length, get_or, refl, ap, ap₂, subst, sym, ◌∙◌, arith}
use Rattle.std.specs.Prelude.{pos, slice_index}
use Rattle.std.specs.Vec.{with_items}
use Rattle.std.proofs.lemmas.List.{with_items_is}
use Rattle.rg_integers.specs.Sum.{number_at}
use Rattle.rg_linear.specs.Dictionary.{IsFree}
use Rattle.rg_linear.specs.Exchange.{exchanged, AllFit, FirstWide}
use Rattle.rg_linear.specs.Table.{IsTable, row_at}
use Rattle.rg_feasible.specs.Contents.{Contents, IsDictionary, IsOutside, row_of}
use Rattle.rg_feasible.specs.Renewal.{RowInRange}
use Rattle.rg_feasible.proofs.Exchanges.{free_after}
use Rattle.rg_feasible.proofs.RowNumbers.{exchanged-split}
use Rattle.rg_feasible.proofs.Storing.{stored_exchanged}
use Rattle.rg_feasible.proofs.relation_table.RelationTable.exchange.Goals as goal

pub returns-in-Err-clause-exact : goal.returns-in-Err-clause-exact
returns-in-Err-clause-exact c = λ system d.
    let old = subst (IsDictionary system) (sym c.self.view_is) d in
    let named = subst (λ (v : Contents). number_at (row_of v c.args.pivot) (c.args.index + 2) ≢ pos 0) (sym c.self.view_is) c.requires.named in
    let there = subst (λ n. number_at (row_at (n + 2) c.self.inside.table.items c.args.pivot) (c.args.index + 2) ≢ pos 0) (sym c.self.invariant.count) named in
    let h = rw (c.deref-2.ensures.value, c.deref_mut.ensures.value) at ((c.in-Err.ensures {u = tt}).exact system) in
    subst (λ (v : Contents). FirstWide system v.members c.args.pivot (slice_index v.members c.args.index) c.in-Err.wide.target c.in-Err.wide.entry c.in-Err.wide.wide) c.self.view_is
    (h (ap₂ ◌+◌ (sym old.columns) (sym old.rows)) old.free old.table there)

pub returns-clause-members : goal.returns-clause-members
returns-clause-members c =
    let lt = subst (λ (v : Contents). c.args.index < length v.members) (sym c.self.view_is) c.requires.index in
    let index = rw c.deref.ensures.value at c.new_index-to.ensures.value in
    let is = c.exchange_members.ensures ∙ exchanged-split c.self.inside.members.items c.args.pivot c.args.index c.new_index-to.result c.self.invariant.ordered lt index in
    subst (λ (v : Contents). c.exchange_members.new.members.items ≡ exchanged v.members c.args.pivot (slice_index v.members c.args.index)) c.self.view_is is

pub invariant_of-self-2 : goal.invariant_of-self-2
invariant_of-self-2 c =
    let lt = subst (λ (v : Contents). c.args.index < length v.members) (sym c.self.view_is) c.requires.index in
    let out = subst (λ (v : Contents). IsOutside v c.args.pivot) (sym c.self.view_is) c.requires.pivot in
    let index = rw c.deref.ensures.value at c.new_index-to.ensures.value in
    let bound = rw c.deref.ensures.value at c.new_index-to.ensures.bound in
    let is = c.exchange_members.ensures ∙ exchanged-split c.self.inside.members.items c.args.pivot c.args.index c.new_index-to.result c.self.invariant.ordered lt index in
    let size : length c.exchange_table.new.table ≡ length c.self.inside.table.items = c.exchange_table.auto.table ∙ ap length c.deref_mut.ensures.value in
    let width : length c.exchange_table.new.pivot_row ≡ length c.self.inside.pivot_row.items = c.exchange_table.auto.pivot_row ∙ ap length c.deref_mut-2.ensures.value in
    let table = with_items_is c.self.inside.table c.exchange_table.new.table (c.exchange_table.auto.table ∙ c.deref_mut.ensures.len) in
    let written = with_items_is c.self.inside.pivot_row c.exchange_table.new.pivot_row (c.exchange_table.auto.pivot_row ∙ c.deref_mut-2.ensures.len) in
    stored_exchanged
    (record { columns = c.self.inside.columns; rows = c.self.inside.rows; room = c.self.inside.room; members = c.self.inside.members.items; table = c.self.inside.table.items })
    (record {
      columns = c.self.inside.columns;
      rows = c.self.inside.rows;
      room = c.self.inside.room;
      members = c.exchange_members.new.members.items;
      table = (with_items c.self.inside.table c.exchange_table.new.table).items;
    })
    c.self.inside.table.cap c.args.pivot c.args.index c.new_index-to.result c.self.inside.pivot_row.items _ c.self.invariant refl refl refl c.exchange_members.ensures is out.0 out.1 lt bound
    (ap length table ∙ size) (subst RowInRange (sym table) c.exchange_table.ensures.in_range) (ap length written ∙ width)

pub returns-clause-exact : goal.returns-clause-exact
returns-clause-exact c = λ system d.
    let old = subst (IsDictionary system) (sym c.self.view_is) d in
    let lt = subst (λ (v : Contents). c.args.index < length v.members) (sym c.self.view_is) c.requires.index in
    let out = subst (λ (v : Contents). IsOutside v c.args.pivot) (sym c.self.view_is) c.requires.pivot in
    let named = subst (λ (v : Contents). number_at (row_of v c.args.pivot) (c.args.index + 2) ≢ pos 0) (sym c.self.view_is) c.requires.named in
    let there = subst (λ n. number_at (row_at (n + 2) c.self.inside.table.items c.args.pivot) (c.args.index + 2) ≢ pos 0) (sym c.self.invariant.count) named in
    let h = rw (c.deref-2.ensures.value, c.deref_mut.ensures.value) at ((c.in-Ok.ensures {u = tt}).exact system) in
    let r = h (ap₂ ◌+◌ (sym old.columns) (sym old.rows)) old.free old.table there in
    let index = rw c.deref.ensures.value at c.new_index-to.ensures.value in
    let is = c.exchange_members.ensures ∙ exchanged-split c.self.inside.members.items c.args.pivot c.args.index c.new_index-to.result c.self.invariant.ordered lt index in
    let table = with_items_is c.self.inside.table c.exchange_table.new.table (c.exchange_table.auto.table ∙ c.deref_mut.ensures.len) in
    let width : length c.self.inside.members.items + 2 ≡ system.columns + 2 = ap (λ n. n + 2) old.free.count in
    let two : c.args.index + 2 ≡ suc (suc c.args.index) = omega arith in
    let free = free_after system c.self.inside.members.items c.args.pivot c.args.index (length c.self.inside.members.items + 2) (c.args.index + 2)
    (c.self.inside.columns + c.self.inside.rows) c.self.inside.table.items []
    old.free old.table (ap₂ ◌+◌ (sym old.columns) (sym old.rows)) width two out.0 out.1 lt there in (
      subst (λ (v : Contents). AllFit system v.members c.args.pivot (slice_index v.members c.args.index)) c.self.view_is r.0,
      record {
        columns = old.columns;
        rows = old.rows;
        free = subst (IsFree system) (sym is) free;
        table = subst (λ ms. IsTable system ms (with_items c.self.inside.table c.exchange_table.new.table).items) (sym is)
            (subst (λ xs. IsTable system (exchanged c.self.inside.members.items c.args.pivot (get_or c.self.inside.members.items c.args.index 0)) xs) (sym table) r.1);
      },
    )
