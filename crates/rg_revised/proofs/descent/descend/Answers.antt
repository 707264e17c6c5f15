use Rattle.std.proofs.Common.{◌≡◌, ℕ, List, ◌<◌, ◌≤◌, ◌+◌, ◌-◌, ap, refl, subst, sym, ◌∙◌, arith, le_refl, length, reverse, slice_get, unwrap_or}
use Rattle.std.proofs.lemmas.Bool.{false≢true}
use Rattle.std.proofs.lemmas.List.{length-reverse, length-map}
use Rattle.rg_linear.specs.System.{row_variable}
use Rattle.rg_linear.specs.Exchange.{exchanged}
use Rattle.rg_linear.specs.View.{linear_row, linear_system}
use Rattle.rg_linear.specs.Stack.{fixed_of, limit}
use Rattle.rg_linear.proofs.Descending.{LeadsOn, to_satisfied, to_exchanged, to_popped, to_reached, last_row, before_limit, top_below, popped_below, leads_point, leads_refuted, leads_satisfied, leads_exchanged, leads_popped, popped_row, within_rows, stack_has_room, work_satisfied, work_pushed, limit_last}
use Rattle.rg_revised.specs.Lists.{rows_of}
use Rattle.rg_revised.specs.State.{IsTableauOf}
use Rattle.rg_revised.specs.Reaching.{Extends, Reaches}
use Rattle.rg_revised.proofs.Extending.{extends_itself, extended_limit, begins_to}
use Rattle.rg_revised.proofs.Looping.{begins, work_kept, within_kept}
use Rattle.rg_revised.proofs.descent.descend.Goals as goal

pub rows-init : goal.rows-init
rows-init c =
    let (members, held, reaches) = c.requires.start.comes (linear_system c.args.columns (rows_of c.args.rows))
    (extends_itself (linear_system c.args.columns (rows_of c.args.rows)) c.args.tableau.now.norm c.requires.start.norms) in
    record {
      columns = refl;
      room = le_refl _;
      norm = refl;
      passed = subst (λ n. c.args.from ≤ n) (sym c.count-count.ensures) c.requires.within;
      leads = (
        members,
        held,
        subst
            (λ n. LeadsOn (linear_system c.args.columns (rows_of c.args.rows)) members c.args.stack.now.items n c.args.from) (sym c.count-count.ensures)
            (begins c.args.columns (rows_of c.args.rows) members c.args.stack.now.items c.args.from c.requires.empty reaches),
      );
      onward = λ system larger. (let (others, same, comes) = c.requires.start.comes system larger in
          (others, same, begins_to system others c.args.stack.now.items c.args.from c.requires.empty comes));
    }

pub returns-in-None-clause-outcome : goal.returns-in-None-clause-outcome
returns-in-None-clause-outcome c =
    let (members, held, leads) = c.rows.invariant.leads in
    let none : 0 < length c.rows.stack.items → ⊥ = λ h. false≢true (c.in-None.ensures.variant.1 (subst (λ n. 0 < n) (sym c.rows.stack.ok.0) h)) in
    let last = last_row _ _ _ _ _ leads none c.if-i-below.true c.rows.invariant.passed in (
      members,
      record {
        held = held;
        outcome = leads_point _ _ _ _ _ leads none c.if-i-below.true;
        onward = record {
          norms = held.room.norms;
          norm_fits = held.room.norm_fits;
          comes = λ system larger. (let (others, same, to) = c.rows.invariant.onward system
              (subst (λ n. Extends (linear_system c.args.columns (rows_of c.args.rows)) n system) c.rows.invariant.norm larger) in
              (others, same, subst (Reaches system others) last (to_reached system others c.rows.stack.items c.rows.i to none)));
        };
      },
    )

pub rows-preserved-in-Some : goal.rows-preserved-in-Some
rows-preserved-in-Some c =
    let (members, held, leads) = c.rows.invariant.leads in
    let next : c.unwrap_or-below.result ≡ limit (linear_system c.args.columns (rows_of c.args.rows)) (reverse c.pop.new.self.items) =
    c.unwrap_or-below.ensures
    ∙ ap (λ o. unwrap_or o c.count-count.result) (c.copied.ensures ∙ c.last.ensures.value)
    ∙ ap (λ xs. unwrap_or (slice_get xs (length xs - 1)) c.count-count.result) c.deref.ensures.value
    ∙ limit_last (linear_system c.args.columns (rows_of c.args.rows)) c.pop.new.self.items c.count-count.result
    (c.count-count.ensures ∙ sym (length-map (rows_of c.args.rows) linear_row)) in
    record {
      columns = c.rows.invariant.columns;
      room = rw c.in-Some.ensures.capacity c.rows.invariant.room;
      norm = c.rows.invariant.norm;
      passed = (let lt = popped_below _ _ _ _ _ leads c.pop.new.self.items c.in-Some.fixed c.in-Some.ensures.items _ next in omega arith);
      leads = (
        members,
        held,
        leads_popped _ _ _ _ _ leads c.pop.new.self.items
            c.in-Some.fixed c.in-Some.ensures.items c.if-i-below.true _ next,
      );
      onward = λ system larger. (let (others, same, to) = c.rows.invariant.onward system larger in (
        others,
        same,
        to_popped system others c.rows.stack.items c.rows.i to c.pop.new.self.items c.in-Some.fixed c.in-Some.ensures.items
            (top_below _ _ _ _ _ leads c.pop.new.self.items c.in-Some.fixed c.in-Some.ensures.items c.if-i-below.true),
      ));
    }

pub overflow_add-i : goal.overflow_add-i
overflow_add-i c =
    let (members, held, leads) = c.rows.invariant.leads in
    let lt = popped_row _ _ _ _ _ leads c.pop.new.self.items c.in-Some.fixed
    c.in-Some.ensures.items in
    let few = c.requires.well_formed.few in
    record { fits = omega arith }

pub take-requires-clause-row : goal.take-requires-clause-row
take-requires-clause-row c =
    let (members, held, leads) = c.rows.invariant.leads in
    let le = within_kept (rows_of c.args.rows) c.rows.below
    (within_rows _ _ _ _ _ leads) in
    let lt = c.if-i-below.false in
    omega arith

pub overflow_add-i-in-Satisfied : goal.overflow_add-i-in-Satisfied
overflow_add-i-in-Satisfied c =
    let (members, held, leads) = c.rows.invariant.leads in
    let le = within_rows _ _ _ _ _ leads in
    let few = c.requires.well_formed.few in
    let lt = c.if-i-below.false in
    record { fits = omega arith }

pub rows-smaller-in-Satisfied : goal.rows-smaller-in-Satisfied
rows-smaller-in-Satisfied c =
    let (members, held, leads) = c.rows.invariant.leads in
    work_kept c.args.columns (rows_of c.args.rows) (reverse c.rows.stack.items) (reverse c.rows.stack.items) (c.rows.i + 1) c.rows.i
    (work_satisfied _ _ _ _ _ leads c.if-i-below.false)

pub rows-preserved-in-Satisfied : goal.rows-preserved-in-Satisfied
rows-preserved-in-Satisfied c =
    let (members, held, leads) = c.rows.invariant.leads in
    let told = c.in-Satisfied.ensures.told (linear_system c.args.columns (rows_of c.args.rows)) members (extends_itself _ c.rows.tableau.norm held.room.norms) held in
    record {
      columns = c.in-Satisfied.ensures.columns ∙ c.rows.invariant.columns;
      room = c.rows.invariant.room;
      norm = c.in-Satisfied.ensures.norm ∙ c.rows.invariant.norm;
      passed = (let lt = c.if-i-below.false in omega arith);
      leads = (
        members,
        told.1,
        leads_satisfied _ _ _ _ _ leads c.if-i-below.false members (told.0, refl),
      );
      onward = λ system larger. (let (others, same, to) = c.rows.invariant.onward system larger in
          let (satisfied, after) = c.in-Satisfied.ensures.told system others
          (subst (λ n. Extends (linear_system c.args.columns (rows_of c.args.rows)) n system) (sym c.rows.invariant.norm) larger) same in (
            others,
            after,
            to_satisfied system others c.rows.stack.items c.rows.i to
                (extended_limit (linear_system c.args.columns (rows_of c.args.rows)) _ system larger c.rows.i (reverse c.rows.stack.items) (before_limit _ _ _ _ _ leads c.if-i-below.false)) satisfied,
          ));
    }

pub returns-in-Stuck-clause-outcome : goal.returns-in-Stuck-clause-outcome
returns-in-Stuck-clause-outcome c =
    let (members, held, leads) = c.rows.invariant.leads in
    let told = rw c.deref-else-i-below.ensures.value at
    c.in-Stuck.ensures.told (linear_system c.args.columns (rows_of c.args.rows)) members (extends_itself _ c.rows.tableau.norm held.room.norms) held in (
      members,
      record {
        held = told.1;
        outcome = (
          fixed_of (linear_system c.args.columns (rows_of c.args.rows)) (reverse c.rows.stack.items),
          leads_refuted _ _ _ _ _ leads c.if-i-below.false members (told.0, refl),
        );
        relation = told.2;
      },
    )

pub push-requires : goal.push-requires
push-requires c =
    let (members, held, leads) = c.rows.invariant.leads in
    let (j, chooses, fit, new) = rw c.deref-else-i-below.ensures.value at
    c.in-Exchanged.ensures.told (linear_system c.args.columns (rows_of c.args.rows)) members (extends_itself _ c.rows.tableau.norm held.room.norms) held in
    let lt = stack_has_room _ _ _ _ _ leads c.if-i-below.false
    _ (j, chooses, fit, refl) in
    let size = length-reverse c.rows.stack.items in
    let len = c.rows.stack.ok.0 in
    let space = c.requires.room in
    let room = c.rows.invariant.room in
    omega arith

pub rows-smaller : goal.rows-smaller
rows-smaller c =
    let (members, held, leads) = c.rows.invariant.leads in
    work_kept c.args.columns (rows_of c.args.rows) (reverse c.push.new.stack.items) (reverse c.rows.stack.items) 0 c.rows.i
    (work_pushed _ _ _ _ _ leads c.if-i-below.false c.push.new.stack.items
    c.push.ensures.items)

pub rows-preserved : goal.rows-preserved
rows-preserved c =
    let (members, held, leads) = c.rows.invariant.leads in
    let (j, chooses, fit, new) = rw c.deref-else-i-below.ensures.value at
    c.in-Exchanged.ensures.told (linear_system c.args.columns (rows_of c.args.rows)) members (extends_itself _ c.rows.tableau.norm held.room.norms) held in
    record {
      columns = c.in-Exchanged.ensures.columns ∙ c.rows.invariant.columns;
      norm = c.in-Exchanged.ensures.norm ∙ c.rows.invariant.norm;
      passed = omega arith;
      room = (let a = c.rows.invariant.room in let b = c.push.ensures.capacity in omega arith);
      leads = (
        exchanged members (row_variable (linear_system c.args.columns (rows_of c.args.rows)) c.rows.i) j,
        new,
        leads_exchanged _ _ _ _ _ leads c.if-i-below.false _ c.push.new.stack.items
            (j, chooses, fit, refl) c.push.ensures.items,
      );
      onward = λ system larger. (let (others, same, to) = c.rows.invariant.onward system larger in
          let (least, chosen, fits, after) = rw c.deref-else-i-below.ensures.value at c.in-Exchanged.ensures.told system others
          (subst (λ n. Extends (linear_system c.args.columns (rows_of c.args.rows)) n system) (sym c.rows.invariant.norm) larger) same in (
            exchanged others (row_variable system c.rows.i) least,
            after,
            to_exchanged system others c.rows.stack.items c.rows.i to
                (extended_limit (linear_system c.args.columns (rows_of c.args.rows)) _ system larger c.rows.i (reverse c.rows.stack.items) (before_limit _ _ _ _ _ leads c.if-i-below.false))
                least chosen fits c.push.new.stack.items c.push.ensures.items,
          ));
    }
