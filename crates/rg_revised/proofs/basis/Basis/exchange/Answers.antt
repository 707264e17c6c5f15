use Rattle.std.proofs.Common.{rules, ◌≡◌, ◌<◌, ◌+◌, ℕ, List, Bool, length, drop, get_or, refl, ap, subst, sym, ◌∙◌, arith}
use Rattle.std.proofs.Math.ListN.{set, length-set}
use Rattle.std.specs.Prelude.{ℤ, pos, FitsSigned, unsigned_abs}
use Rattle.std.specs.Int.{w64}
use Rattle.std.proofs.lemmas.Int.{to_z-of_z}
use Rattle.std.proofs.lemmas.List.{get_or_default, with_items_is}
use Rattle.rg_integers.specs.Sum.{number_at}
use Rattle.rg_revised.specs.Rows.{TableRenewed}
use Rattle.rg_revised.specs.Held.{IsPivot}
use Rattle.rg_revised.specs.declared.support.Support.{Support}
use Rattle.rg_revised.specs.View.{BasisState}
use Rattle.rg_linear.specs.System.{LinearSystem}
use Rattle.rg_revised.specs.State.{IsExchangeOf, IsSmallHeld}
use Rattle.rg_revised.proofs.States.{exchange_of, written_back, size_is_size, small_enough, not_larger}
use Rattle.rg_revised.proofs.Unchanged.{kept}
use Rattle.rg_revised.proofs.basis.Basis.exchange.Goals as goal

pub renew_table-requires : goal.renew_table-requires
renew_table-requires c =
    let (system, members, small) = subst (λ (b : BasisState). (system : LinearSystem) × (members : List ℕ)
    × IsSmallHeld system members b (unsigned_abs c.args.most)) (sym c.self.view_is) c.requires.held in
    let fd : FitsSigned w64 c.self.inside.d = search rules in
    let fm : FitsSigned w64 c.args.most = search rules in
    let signed : IsPivot c.args.numbers.now.items c.turn_and_list-turned.new.numbers c.args.p c.turn_and_list-turned.result.negative =
    subst (λ xs. IsPivot xs c.turn_and_list-turned.new.numbers c.args.p c.turn_and_list-turned.result.negative) c.deref_mut.ensures.value c.turn_and_list-turned.ensures.signed in
    let pv : c.deref.result.now ≡ c.turn_and_list-turned.new.numbers = c.deref.ensures.value ∙ written_back _ c.turn_and_list-turned.new.numbers _ (signed.same_length ∙ sym c.args.numbers.now.ok.0) in
    let width : length c.turn_and_list-turned.new.numbers ≡ length c.self.inside.slots.items + 1 =
    signed.same_length ∙ c.requires.width ∙ ap (λ (b : BasisState). length b.slots + 1) (sym c.self.view_is) in
    let lt = subst (λ (b : BasisState). c.args.p < length b.slots) (sym c.self.view_is) c.requires.index in
    rw (
      c.new.ensures,
      to_z-of_z w64 c.self.inside.d fd,
      to_z-of_z w64 c.args.most fm,
      pv,
      width,
      c.deref_mut-2.ensures.value,
      c.deref_mut-3.ensures.value,
      c.deref_mut-4.ensures.value,
      c.self.invariant.count,
    ) (record {
      supports = c.self.invariant.known_count;
      width = refl;
      size = c.self.invariant.shape.size;
      index = lt;
      few = c.turn_and_list-turned.ensures.few;
      positive = small.held.basis.positive;
      not_negative = c.requires.not_negative;
      within = small.within;
      unit = rw c.self.invariant.count at c.self.invariant.unit;
    })

pub returns-clause-exchanged : goal.returns-clause-exchanged
returns-clause-exchanged c =
    let signed : IsPivot c.args.numbers.now.items c.turn_and_list-turned.new.numbers c.args.p c.turn_and_list-turned.result.negative =
    subst (λ xs. IsPivot xs c.turn_and_list-turned.new.numbers c.args.p c.turn_and_list-turned.result.negative) c.deref_mut.ensures.value c.turn_and_list-turned.ensures.signed in
    let pv : c.deref.result.now ≡ c.turn_and_list-turned.new.numbers = c.deref.ensures.value ∙ written_back _ c.turn_and_list-turned.new.numbers _ (signed.same_length ∙ sym c.args.numbers.now.ok.0) in
    let fd : FitsSigned w64 c.self.inside.d = search rules in
    let fm : FitsSigned w64 c.args.most = search rules in
    let count = ap (λ (b : BasisState). length b.slots) (sym c.self.view_is) in
    let wide = c.requires.width ∙ ap (λ n. n + 1) count in
    let width : length c.turn_and_list-turned.new.numbers ≡ length c.self.inside.slots.items + 1 = signed.same_length ∙ wide in
    let all : TableRenewed (length c.self.inside.slots.items + 1) c.turn_and_list-turned.new.numbers c.self.inside.table.items c.renew_table.new.table c.args.p c.turn_and_list-turned.result.negative
    c.self.inside.d (unsigned_abs c.args.most) (length c.self.inside.slots.items) =
    rw (c.new.ensures, to_z-of_z w64 c.self.inside.d fd, to_z-of_z w64 c.args.most fm, pv, width, c.deref_mut-2.ensures.value, c.deref_mut-3.ensures.value, c.self.invariant.count) at
    c.if-not-renew_table.ensures.renewed refl in
    let back = written_back c.self.inside.table.len c.renew_table.new.table (drop (length c.renew_table.new.table) c.self.inside.table.items) (all.same_length ∙ sym c.self.inside.table.ok.0) in
    let index : c.args.p < length c.self.inside.slots.items = subst (λ n. c.args.p < n) count c.requires.index in
    let inside : c.args.p < length c.args.numbers.now.items = omega (arith, index, wide) in
    let vback = written_back c.args.numbers.now.len c.turn_and_list-turned.new.numbers _ (signed.same_length ∙ sym c.args.numbers.now.ok.0) in
    let is : c.index-size.result.now ≡ number_at c.turn_and_list-turned.new.numbers c.args.p = c.index-size.ensures ∙ ap (λ xs. get_or xs c.args.p c.index-size.result.now) vback
    ∙ get_or_default c.turn_and_list-turned.new.numbers c.args.p c.index-size.result.now (pos 0) (omega (arith, inside, signed.same_length)) in
    let fs : FitsSigned w64 c.index-size.result.now = search rules in
    let positive = size_is_size c.args.numbers.now.items c.turn_and_list-turned.new.numbers c.args.p c.turn_and_list-turned.result.negative c.index-size.result.now signed inside is in
    let at_most = rw (to_z-of_z w64 c.args.most fm, to_z-of_z w64 c.index-size.result.now fs) at c.if-size-most.false in
    let small = small_enough c.index-size.result.now c.args.most positive (not_larger c.index-size.result.now c.args.most at_most) in
    rw (to_z-of_z w64 c.index-size.result.now fs, back) (λ yes. subst
    (λ (b : BasisState). IsExchangeOf b c.args.numbers.now.items c.args.p c.args.variable (unsigned_abs c.args.most)
    (record { slots = set c.self.inside.slots.items c.args.p c.args.variable; d = c.index-size.result.now; table = c.renew_table.new.table })) c.self.view_is
    (exchange_of (record { slots = c.self.inside.slots.items; d = c.self.inside.d; table = c.self.inside.table.items }) c.renew_table.new.table c.args.numbers.now.items
    c.turn_and_list-turned.new.numbers c.args.p c.args.variable c.turn_and_list-turned.result.negative
    (unsigned_abs c.args.most) c.index-size.result.now index wide c.requires.named signed all is small))

pub invariant_of-self : goal.invariant_of-self
invariant_of-self c =
    let signed : IsPivot c.args.numbers.now.items c.turn_and_list-turned.new.numbers c.args.p c.turn_and_list-turned.result.negative =
    subst (λ xs. IsPivot xs c.turn_and_list-turned.new.numbers c.args.p c.turn_and_list-turned.result.negative) c.deref_mut.ensures.value c.turn_and_list-turned.ensures.signed in
    let pv : c.deref.result.now ≡ c.turn_and_list-turned.new.numbers = c.deref.ensures.value ∙ written_back _ c.turn_and_list-turned.new.numbers _ (signed.same_length ∙ sym c.args.numbers.now.ok.0) in
    let width : length c.turn_and_list-turned.new.numbers ≡ length c.self.inside.slots.items + 1 =
    signed.same_length ∙ c.requires.width ∙ ap (λ (b : BasisState). length b.slots + 1) (sym c.self.view_is) in
    let table = with_items_is c.self.inside.table c.renew_table.new.table (c.renew_table.auto.table ∙ c.deref_mut-2.ensures.len) in
    let changed = with_items_is c.self.inside.changed c.renew_table.new.changed (c.renew_table.auto.changed ∙ c.deref_mut-3.ensures.len) in
    let supports = with_items_is c.self.inside.supports c.renew_table.new.supports (c.renew_table.auto.supports ∙ c.deref_mut-4.ensures.len) in
    rw (table, changed, supports) (kept c.self.inside.slots.items c.self.inside.d c.renew_table.new.table c.renew_table.new.changed c.renew_table.new.supports
    (length c.self.inside.slots.items) refl c.self.invariant.shape.few
    (c.renew_table.auto.table ∙ ap (λ (xs : List ℤ). length xs) c.deref_mut-2.ensures.value ∙ c.self.invariant.shape.size)
    (c.renew_table.auto.changed ∙ ap (λ (xs : List Bool). length xs) c.deref_mut-3.ensures.value ∙ c.self.invariant.count)
    (rw (pv, width) at c.renew_table.ensures.unit)
    (c.renew_table.auto.supports ∙ ap (λ (xs : List Support). length xs) c.deref_mut-4.ensures.value ∙ c.self.invariant.known_count)
    ((rw (pv, width, c.deref_mut-2.ensures.value, c.deref_mut-4.ensures.value) at c.renew_table.ensures.supports) c.self.invariant.known))

pub invariant_of-self-2 : goal.invariant_of-self-2
invariant_of-self-2 c =
    let signed : IsPivot c.args.numbers.now.items c.turn_and_list-turned.new.numbers c.args.p c.turn_and_list-turned.result.negative =
    subst (λ xs. IsPivot xs c.turn_and_list-turned.new.numbers c.args.p c.turn_and_list-turned.result.negative) c.deref_mut.ensures.value c.turn_and_list-turned.ensures.signed in
    let pv : c.deref.result.now ≡ c.turn_and_list-turned.new.numbers = c.deref.ensures.value ∙ written_back _ c.turn_and_list-turned.new.numbers _ (signed.same_length ∙ sym c.args.numbers.now.ok.0) in
    let width : length c.turn_and_list-turned.new.numbers ≡ length c.self.inside.slots.items + 1 =
    signed.same_length ∙ c.requires.width ∙ ap (λ (b : BasisState). length b.slots + 1) (sym c.self.view_is) in
    let table = with_items_is c.self.inside.table c.renew_table.new.table (c.renew_table.auto.table ∙ c.deref_mut-2.ensures.len) in
    let changed = with_items_is c.self.inside.changed c.renew_table.new.changed (c.renew_table.auto.changed ∙ c.deref_mut-3.ensures.len) in
    let supports = with_items_is c.self.inside.supports c.renew_table.new.supports (c.renew_table.auto.supports ∙ c.deref_mut-4.ensures.len) in
    rw (table, changed, supports) (kept (set c.self.inside.slots.items c.args.p c.args.variable) _ c.renew_table.new.table c.renew_table.new.changed c.renew_table.new.supports
    (length c.self.inside.slots.items) (length-set c.self.inside.slots.items c.args.p c.args.variable) c.self.invariant.shape.few
    (c.renew_table.auto.table ∙ ap (λ (xs : List ℤ). length xs) c.deref_mut-2.ensures.value ∙ c.self.invariant.shape.size)
    (c.renew_table.auto.changed ∙ ap (λ (xs : List Bool). length xs) c.deref_mut-3.ensures.value ∙ c.self.invariant.count)
    (rw (pv, width) at c.renew_table.ensures.unit)
    (c.renew_table.auto.supports ∙ ap (λ (xs : List Support). length xs) c.deref_mut-4.ensures.value ∙ c.self.invariant.known_count)
    ((rw (pv, width, c.deref_mut-2.ensures.value, c.deref_mut-4.ensures.value) at c.renew_table.ensures.supports) c.self.invariant.known))
