use Rattle.std.proofs.Common.{◌≡◌, ℕ, ◌+◌, List, Bool, length, ap, refl, subst, sym, ◌∙◌}
use Rattle.std.specs.Prelude.{ℤ, pos}
use Rattle.std.proofs.lemmas.List.{with_items_is}
use Rattle.rg_linear.specs.Dictionary.{numbers_from}
use Rattle.rg_revised.specs.declared.support.Support.{Support}
use Rattle.rg_revised.specs.Starting.{IsUnitTable}
use Rattle.rg_revised.proofs.Unchanged.{kept, units_everywhere}
use Rattle.rg_revised.proofs.basis.Basis.restart.Goals as goal

pub returns-clause-unit : goal.returns-clause-unit
returns-clause-unit c =
    let count : c.len-columns.result ≡ length c.self.inside.slots.items = c.len-columns.ensures ∙ c.self.inside.slots.ok.0 in
    let slots = with_items_is c.self.inside.slots c.number_slots.new.slots (c.number_slots.auto.slots ∙ c.deref_mut.ensures.len) in
    let table = with_items_is c.self.inside.table c.unit_table.new.table (c.unit_table.auto.table ∙ c.deref_mut-2.ensures.len) in
    rw (← c.self.view_is) (record {
      slots = slots ∙ c.number_slots.ensures ∙ ap (λ (xs : List ℕ). numbers_from 0 (length xs)) c.deref_mut.ensures.value;
      d = refl;
      unit = subst (λ xs. IsUnitTable (length c.self.inside.slots.items + 1) (length c.self.inside.slots.items) xs) (sym table)
          (rw (count, c.deref_mut-3.ensures.value, c.self.invariant.count) at c.unit_table.ensures.unit);
      size = ap (λ (xs : List ℤ). length xs) table ∙ c.unit_table.ensures.same_length ∙ ap (λ (xs : List ℤ). length xs) c.deref_mut-2.ensures.value ∙ c.self.invariant.shape.size;
    })

pub invariant_of-self : goal.invariant_of-self
invariant_of-self c =
    let count : c.len-columns.result ≡ length c.self.inside.slots.items = c.len-columns.ensures ∙ c.self.inside.slots.ok.0 in
    let slots = with_items_is c.self.inside.slots c.number_slots.new.slots (c.number_slots.auto.slots ∙ c.deref_mut.ensures.len) in
    let table = with_items_is c.self.inside.table c.unit_table.new.table (c.unit_table.auto.table ∙ c.deref_mut-2.ensures.len) in
    let changed = with_items_is c.self.inside.changed c.unit_table.new.changed (c.unit_table.auto.changed ∙ c.deref_mut-3.ensures.len) in
    let each = c.unit_table.auto.changed ∙ ap (λ (xs : List Bool). length xs) c.deref_mut-3.ensures.value ∙ c.self.invariant.count in
    let supports = with_items_is c.self.inside.supports c.forget_supports.new.supports (c.forget_supports.auto.supports ∙ c.deref_mut-4.ensures.len) in
    rw (slots, table, changed, supports) (kept c.number_slots.new.slots (pos 1) c.unit_table.new.table c.unit_table.new.changed c.forget_supports.new.supports (length c.self.inside.slots.items)
    (c.number_slots.auto.slots ∙ ap (λ (xs : List ℕ). length xs) c.deref_mut.ensures.value) c.self.invariant.shape.few
    (c.unit_table.auto.table ∙ ap (λ (xs : List ℤ). length xs) c.deref_mut-2.ensures.value ∙ c.self.invariant.shape.size) each
    (units_everywhere (length c.self.inside.slots.items + 1) (length c.self.inside.slots.items) c.unit_table.new.changed c.unit_table.new.table
    (rw (count, c.deref_mut-3.ensures.value, c.self.invariant.count) at c.unit_table.ensures.unit) each)
    (c.forget_supports.auto.supports ∙ ap (λ (xs : List Support). length xs) c.deref_mut-4.ensures.value ∙ c.self.invariant.known_count)
    (c.forget_supports.ensures (length c.self.inside.slots.items + 1) c.unit_table.new.table))
