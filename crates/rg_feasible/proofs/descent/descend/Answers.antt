use Rattle.std.proofs.Common.{rules, ◌≡◌, ◌<◌, ◌-◌, ap, subst, sym, ◌∙◌, arith, length, reverse, slice_get, unwrap_or}
use Rattle.std.proofs.lemmas.Bool.{false≢true}
use Rattle.std.proofs.lemmas.List.{length-reverse}
use Rattle.rg_linear.specs.Stack.{fixed_of, limit}
use Rattle.rg_feasible.proofs.Descending.{leads_wide, wide_free}
use Rattle.rg_linear.proofs.Descending.{leads_point, leads_refuted, leads_satisfied, leads_exchanged, leads_popped, popped_row, within_rows, stack_has_room, work_satisfied, work_pushed, limit_last}
use Rattle.rg_feasible.proofs.descent.descend.Goals as goal

pub returns-in-None-clause-outcome : goal.returns-in-None-clause-outcome
returns-in-None-clause-outcome c = λ system whole.
    let none : 0 < length c.rows.stack.items → ⊥ = λ h. false≢true (c.in-None.ensures.variant.1 (subst (λ n. 0 < n) (sym c.rows.stack.ok.0) h)) in
    leads_point system c.rows.table.members c.rows.stack.items c.rows.below c.rows.i (c.rows.invariant.leads system whole) none c.if-i-below.true

pub overflow_add-i : goal.overflow_add-i
overflow_add-i c =
    let (system, whole) = c.requires.whole in
    let lt = popped_row system c.rows.table.members c.rows.stack.items c.rows.below c.rows.i (c.rows.invariant.leads system whole) c.pop.new.self.items c.in-Some.fixed c.in-Some.ensures.items in
    let rows = whole.rows in
    let few = c.requires.few in
    record { fits = omega arith }

pub rows-preserved-in-Some : goal.rows-preserved-in-Some
rows-preserved-in-Some c = record {
  shape = c.rows.invariant.shape;
  room = rw c.in-Some.ensures.capacity c.rows.invariant.room;
  whole = c.rows.invariant.whole;
  leads = λ system whole.
      let rows = c.rows-rows.ensures ∙ whole.rows in
      let below : c.unwrap_or-below.result ≡ limit system (reverse c.pop.new.self.items) =
      c.unwrap_or-below.ensures
      ∙ ap (λ o. unwrap_or o c.rows-rows.result) (c.copied.ensures ∙ c.last.ensures.value)
      ∙ ap (λ xs. unwrap_or (slice_get xs (length xs - 1)) c.rows-rows.result) c.deref.ensures.value
      ∙ limit_last system c.pop.new.self.items c.rows-rows.result rows in
      leads_popped system c.rows.table.members c.rows.stack.items c.rows.below c.rows.i
      (c.rows.invariant.leads system whole) c.pop.new.self.items c.in-Some.fixed c.in-Some.ensures.items c.if-i-below.true _ below;
}

pub take_row-requires-clause-row : goal.take_row-requires-clause-row
take_row-requires-clause-row c =
    let (system, whole) = c.requires.whole in
    let le = within_rows system c.rows.table.members c.rows.stack.items c.rows.below c.rows.i (c.rows.invariant.leads system whole) in
    let now = c.rows.invariant.whole system whole in
    let rows = now.rows in
    let lt = c.if-i-below.false in
    omega arith

pub overflow_add-i-in-Satisfied : goal.overflow_add-i-in-Satisfied
overflow_add-i-in-Satisfied c =
    let (system, whole) = c.requires.whole in
    let le = within_rows system c.rows.table.members c.rows.stack.items c.rows.below c.rows.i (c.rows.invariant.leads system whole) in
    let rows = whole.rows in
    let few = c.requires.few in
    let lt = c.if-i-below.false in
    record { fits = omega arith }

pub rows-smaller-in-Satisfied : goal.rows-smaller-in-Satisfied
rows-smaller-in-Satisfied c =
    let (system, whole) = c.requires.whole in
    rw (c.rows-rows.ensures, whole.rows) (work_satisfied system c.rows.table.members c.rows.stack.items c.rows.below c.rows.i (c.rows.invariant.leads system whole) c.if-i-below.false)

pub rows-preserved-in-Satisfied : goal.rows-preserved-in-Satisfied
rows-preserved-in-Satisfied c = record {
  shape = search rules;
  room = c.rows.invariant.room;
  whole = λ system whole. c.in-Satisfied.ensures.stays _ system (c.rows.invariant.whole system whole);
  leads = λ system whole.
      let told = c.in-Satisfied.ensures.told system (c.rows.invariant.whole system whole) in
      leads_satisfied system c.rows.table.members c.rows.stack.items c.rows.below c.rows.i (c.rows.invariant.leads system whole) c.if-i-below.false c.take_row.new.table.members told;
}

pub returns-in-Stuck-clause-outcome : goal.returns-in-Stuck-clause-outcome
returns-in-Stuck-clause-outcome c = λ system whole.
    let told = rw c.deref-else-i-below.ensures.value at c.in-Stuck.ensures.told system (c.rows.invariant.whole system whole) in (
      fixed_of system (reverse c.rows.stack.items),
      leads_refuted system c.rows.table.members c.rows.stack.items c.rows.below c.rows.i
          (c.rows.invariant.leads system whole) c.if-i-below.false c.take_row.new.table.members told,
    )

pub returns-in-Wide-clause-outcome : goal.returns-in-Wide-clause-outcome
returns-in-Wide-clause-outcome c = λ system whole.
    let told = rw c.deref-else-i-below.ensures.value at c.in-Wide.ensures.told system (c.rows.invariant.whole system whole) in
    leads_wide system c.rows.table.members c.rows.stack.items c.rows.below c.rows.i (c.rows.invariant.leads system whole) c.if-i-below.false c.take_row.new.table.members c.in-Wide.wide told

pub push-requires : goal.push-requires
push-requires c =
    let (system, whole) = c.requires.whole in
    let told = rw c.deref-else-i-below.ensures.value at c.in-Exchanged.ensures.told system (c.rows.invariant.whole system whole) in
    let lt = stack_has_room system c.rows.table.members c.rows.stack.items c.rows.below c.rows.i (c.rows.invariant.leads system whole) c.if-i-below.false c.take_row.new.table.members told in
    let size = length-reverse c.rows.stack.items in
    let len = c.rows.stack.ok.0 in
    let columns = whole.columns in
    let space = c.requires.room in
    let room = c.rows.invariant.room in
    omega arith

pub rows-smaller : goal.rows-smaller
rows-smaller c =
    let (system, whole) = c.requires.whole in
    rw (c.rows-rows.ensures, whole.rows) (work_pushed system c.rows.table.members c.rows.stack.items c.rows.below c.rows.i
    (c.rows.invariant.leads system whole) c.if-i-below.false c.push.new.stack.items c.push.ensures.items)

pub rows-preserved : goal.rows-preserved
rows-preserved c = record {
  shape = search rules;
  room = (let a = c.rows.invariant.room in let b = c.push.ensures.capacity in omega arith);
  whole = λ system whole. c.in-Exchanged.ensures.stays _ system (c.rows.invariant.whole system whole);
  leads = λ system whole.
      let told = rw c.deref-else-i-below.ensures.value at c.in-Exchanged.ensures.told system (c.rows.invariant.whole system whole) in
      leads_exchanged system c.rows.table.members c.rows.stack.items c.rows.below c.rows.i
      (c.rows.invariant.leads system whole) c.if-i-below.false c.take_row.new.table.members c.push.new.stack.items told c.push.ensures.items;
}

pub returns-in-None-clause-free : goal.returns-in-None-clause-free
returns-in-None-clause-free c = λ system whole. (c.rows.invariant.whole system whole).free

pub returns-in-Stuck-clause-free : goal.returns-in-Stuck-clause-free
returns-in-Stuck-clause-free c = λ system whole. (c.in-Stuck.ensures.stays _ system (c.rows.invariant.whole system whole)).free

pub returns-in-Wide-clause-free : goal.returns-in-Wide-clause-free
returns-in-Wide-clause-free c = λ system whole.
    let told = rw c.deref-else-i-below.ensures.value at c.in-Wide.ensures.told system (c.rows.invariant.whole system whole) in
    wide_free system c.rows.table.members c.rows.stack.items c.rows.below c.rows.i (c.rows.invariant.leads system whole) c.if-i-below.false c.take_row.new.table.members c.in-Wide.wide told
