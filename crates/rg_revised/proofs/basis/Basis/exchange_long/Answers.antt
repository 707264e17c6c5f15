use Rattle.std.proofs.Common.{rules, ◌≡◌, ◌+◌, ◌-◌, ◌*◌, ◌∷◌, ◌^◌, ◌<◌, List, Bool, drop, length, ap, refl, subst, sym, ◌∙◌}
use Rattle.std.proofs.Math.ListN.{set, length-set}
use Rattle.std.specs.Prelude.{ℤ, FitsSigned, ◌*ℤ◌}
use Rattle.std.specs.Int.{w64}
use Rattle.std.proofs.lemmas.Int.{to_z-of_z}
use Rattle.rg_integers.specs.Sum.{number_at}
use Rattle.rg_integers.proofs.Casts.{back}
use Rattle.rg_fraction.specs.Rows.{IsPrimitivePart}
use Rattle.rg_revised.specs.Rows.{RowWithin}
use Rattle.rg_revised.specs.Long.{TableCrossed}
use Rattle.rg_revised.specs.declared.support.Support.{Support}
use Rattle.rg_revised.specs.View.{BasisState}
use Rattle.rg_revised.specs.State.{IsLongExchangeOf}
use Rattle.rg_revised.proofs.States.{written_back}
use Rattle.rg_revised.proofs.LongRows.{products_are, products_in_range, long_exchange_of}
use Rattle.std.proofs.lemmas.List.{with_items_is}
use Rattle.rg_revised.proofs.Unchanged.{kept, all_changed}
use Rattle.rg_revised.proofs.basis.Basis.exchange_long.Goals as goal

pub reduce-requires : goal.reduce-requires
reduce-requires c =
    let fo : FitsSigned w64 c.args.over = search rules in
    let width : length c.turn-negative.new.numbers ≡ length c.self.inside.slots.items + 1 =
    c.turn-negative.ensures.same_length ∙ c.requires.width ∙ ap (λ (b : BasisState). length b.slots + 1) (sym c.self.view_is) in
    let cols : c.len.result ≡ length c.self.inside.slots.items = c.len.ensures ∙ c.self.inside.slots.ok.0 in
    let room = c.requires.products ∙ ap (λ (b : BasisState). length b.slots * (length b.slots + 1) + 1) (sym c.self.view_is) in
    let rows : TableCrossed (length c.self.inside.slots.items + 1) c.turn-negative.new.numbers c.args.over c.args.p c.turn-negative.result c.self.inside.table.items c.cross_table.new.crossed
    (length c.self.inside.slots.items) = rw (width, c.deref.ensures.value, cols, to_z-of_z w64 c.args.over fo) at c.cross_table.ensures in
    rw (
      back c.product.result c.product.ensures.in_range,
      products_are _ c.args.products.now c.cross_table.new.crossed c.turn-negative.new.numbers c.args.p c.turn-negative.result c.args.over c.product.result c.self.invariant.shape room rows,
    )
    (products_in_range _ c.args.products.now c.cross_table.new.crossed c.turn-negative.new.numbers c.args.p c.turn-negative.result c.args.over c.product.result c.self.invariant.shape room rows
    c.product.ensures.in_range)

pub narrow-requires-clause-in_range : goal.narrow-requires-clause-in_range
narrow-requires-clause-in_range c = λ n lt. c.reduce.ensures.in_range n (subst (λ k. n < k) c.reduce.auto.q lt)

pub returns-in-Some-clause-exchanged : goal.returns-in-Some-clause-exchanged
returns-in-Some-clause-exchanged c =
    let fo : FitsSigned w64 c.args.over = search rules in
    let fd : FitsSigned w64 c.self.inside.d = search rules in
    let fz : FitsSigned w64 c.in-Some.d = search rules in
    let fn : FitsSigned w64 (number_at c.turn-negative.new.numbers c.args.p) = search rules in
    let width : length c.turn-negative.new.numbers ≡ length c.self.inside.slots.items + 1 =
    c.turn-negative.ensures.same_length ∙ c.requires.width ∙ ap (λ (b : BasisState). length b.slots + 1) (sym c.self.view_is) in
    let cols : c.len.result ≡ length c.self.inside.slots.items = c.len.ensures ∙ c.self.inside.slots.ok.0 in
    let room = c.requires.products ∙ ap (λ (b : BasisState). length b.slots * (length b.slots + 1) + 1) (sym c.self.view_is) in
    let rows : TableCrossed (length c.self.inside.slots.items + 1) c.turn-negative.new.numbers c.args.over c.args.p c.turn-negative.result c.self.inside.table.items c.cross_table.new.crossed
    (length c.self.inside.slots.items) = rw (width, c.deref.ensures.value, cols, to_z-of_z w64 c.args.over fo) at c.cross_table.ensures in
    let is = products_are _ c.args.products.now c.cross_table.new.crossed c.turn-negative.new.numbers c.args.p c.turn-negative.result c.args.over c.product.result c.self.invariant.shape room rows in
    let d : c.product.result ≡ c.self.inside.d *ℤ number_at c.turn-negative.new.numbers c.args.p =
    rw (to_z-of_z w64 c.self.inside.d fd, to_z-of_z w64 (number_at c.turn-negative.new.numbers c.args.p) fn) at c.product.ensures.value in
    let (g, whole) = c.reduce.ensures.part in
    let part : IsPrimitivePart ((c.self.inside.d *ℤ number_at c.turn-negative.new.numbers c.args.p) ∷ c.cross_table.new.crossed) c.reduce.new.q g =
    rw (back c.product.result c.product.ensures.in_range, is, d) at whole in
    let same : length c.narrow.new.numbers ≡ length c.self.inside.table.items = c.in-Some.ensures.same_length ∙ ap (λ (xs : List ℤ). length xs) c.deref_mut-3.ensures.value in
    let table = written_back c.self.inside.table.len c.narrow.new.numbers (drop (length c.narrow.new.numbers) c.self.inside.table.items) (same ∙ sym c.self.inside.table.ok.0) in
    rw (to_z-of_z w64 c.in-Some.d fz, table) (λ yes. subst
    (λ (b : BasisState). IsLongExchangeOf b c.args.numbers.now c.args.over c.args.p c.args.variable
    (record { slots = set c.self.inside.slots.items c.args.p c.args.variable; d = c.in-Some.d; table = c.narrow.new.numbers })) c.self.view_is
    (long_exchange_of (record { slots = c.self.inside.slots.items; d = c.self.inside.d; table = c.self.inside.table.items }) c.cross_table.new.crossed c.reduce.new.q c.narrow.new.numbers
    c.args.numbers.now c.turn-negative.new.numbers c.args.p c.args.variable c.turn-negative.result c.args.over c.in-Some.d g c.self.invariant.shape
    (subst (λ (b : BasisState). c.args.p < length b.slots) (sym c.self.view_is) c.requires.index)
    (c.requires.width ∙ ap (λ (b : BasisState). length b.slots + 1) (sym c.self.view_is)) c.requires.named c.turn-negative.ensures rows part c.in-Some.ensures.narrowed same))

pub returns-in-Some-clause-small : goal.returns-in-Some-clause-small
returns-in-Some-clause-small c =
    let same : length c.narrow.new.numbers ≡ length c.self.inside.table.items = c.in-Some.ensures.same_length ∙ ap (λ (xs : List ℤ). length xs) c.deref_mut-3.ensures.value in
    let table = written_back c.self.inside.table.len c.narrow.new.numbers (drop (length c.narrow.new.numbers) c.self.inside.table.items) (same ∙ sym c.self.inside.table.ok.0) in
    λ yes. subst (RowWithin (2 ^ 63 - 1)) (sym table) c.in-Some.ensures.narrowed.small

pub invariant_of-self : goal.invariant_of-self
invariant_of-self c =
    let table = with_items_is c.self.inside.table c.narrow.new.numbers (c.narrow.auto.numbers ∙ c.deref_mut-3.ensures.len) in
    let changed = with_items_is c.self.inside.changed c.change_all.new.changed (c.change_all.auto.changed ∙ c.deref_mut.ensures.len) in
    let supports = with_items_is c.self.inside.supports c.forget_supports.new.supports (c.forget_supports.auto.supports ∙ c.deref_mut-2.ensures.len) in
    rw (table, changed, supports) (kept (set c.self.inside.slots.items c.args.p c.args.variable) _ c.narrow.new.numbers c.change_all.new.changed c.forget_supports.new.supports
    (length c.self.inside.slots.items) (length-set c.self.inside.slots.items c.args.p c.args.variable) c.self.invariant.shape.few
    (c.narrow.auto.numbers ∙ ap (λ (xs : List ℤ). length xs) c.deref_mut-3.ensures.value ∙ c.self.invariant.shape.size)
    (c.change_all.auto.changed ∙ ap (λ (xs : List Bool). length xs) c.deref_mut.ensures.value ∙ c.self.invariant.count)
    (all_changed (length c.self.inside.slots.items + 1) c.change_all.new.changed c.narrow.new.numbers
    (λ t lt. c.change_all.ensures.all t (subst (λ n. t < n) c.change_all.ensures.same_length lt)))
    (c.forget_supports.auto.supports ∙ ap (λ (xs : List Support). length xs) c.deref_mut-2.ensures.value ∙ c.self.invariant.known_count)
    (c.forget_supports.ensures (length c.self.inside.slots.items + 1) c.narrow.new.numbers))

pub invariant_of-self-in-None : goal.invariant_of-self-in-None
invariant_of-self-in-None c =
    let table = with_items_is c.self.inside.table c.narrow.new.numbers (c.narrow.auto.numbers ∙ c.deref_mut-3.ensures.len) in
    let changed = with_items_is c.self.inside.changed c.change_all.new.changed (c.change_all.auto.changed ∙ c.deref_mut.ensures.len) in
    let supports = with_items_is c.self.inside.supports c.forget_supports.new.supports (c.forget_supports.auto.supports ∙ c.deref_mut-2.ensures.len) in
    rw (table, changed, supports) (kept c.self.inside.slots.items c.self.inside.d c.narrow.new.numbers c.change_all.new.changed c.forget_supports.new.supports
    (length c.self.inside.slots.items) refl c.self.invariant.shape.few
    (c.narrow.auto.numbers ∙ ap (λ (xs : List ℤ). length xs) c.deref_mut-3.ensures.value ∙ c.self.invariant.shape.size)
    (c.change_all.auto.changed ∙ ap (λ (xs : List Bool). length xs) c.deref_mut.ensures.value ∙ c.self.invariant.count)
    (all_changed (length c.self.inside.slots.items + 1) c.change_all.new.changed c.narrow.new.numbers
    (λ t lt. c.change_all.ensures.all t (subst (λ n. t < n) c.change_all.ensures.same_length lt)))
    (c.forget_supports.auto.supports ∙ ap (λ (xs : List Support). length xs) c.deref_mut-2.ensures.value ∙ c.self.invariant.known_count)
    (c.forget_supports.ensures (length c.self.inside.slots.items + 1) c.narrow.new.numbers))
