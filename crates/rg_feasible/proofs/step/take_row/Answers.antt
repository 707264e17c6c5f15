use Rattle.std.proofs.Common.{refl}
use Rattle.rg_integers.specs.Sum.{number_at}
use Rattle.rg_feasible.proofs.Choosing.{negative_number, step_stuck, step_chooses, step_fits, step_passes, step_exchanges, pivot_is}
use Rattle.rg_feasible.proofs.step.take_row.Goals as goal

pub returns-in_default-clause-told : goal.returns-in_default-clause-told
returns-in_default-clause-told c = λ system whole.
    let shows = rw c.columns-columns.ensures at c.numbers-numbers.ensures.shows system whole in
    let fails = negative_number (number_at c.numbers-numbers.result.now 1) (c.numbers-numbers.ensures.in_range 1) c.if-numbers-ge0.false in
    let none = rw (c.columns-columns.ensures, c.members.ensures) at c.in_default.ensures.none in
    (step_stuck c.args.table.now c.args.stack.now c.args.i c.numbers-numbers.result.now system whole shows fails none, refl)

pub returns-in-Ok-clause-told : goal.returns-in-Ok-clause-told
returns-in-Ok-clause-told c = λ system whole.
    let shows = rw c.columns-columns.ensures at c.numbers-numbers.ensures.shows system whole in
    let names = rw (c.columns-columns.ensures, c.members.ensures) at c.in-Some.ensures.names in
    let least = rw (c.columns-columns.ensures, c.members.ensures) at c.in-Some.ensures.least in
    let exact = rw c.columns-columns.ensures at c.in-Ok.ensures.exact system whole in
    let is = rw c.columns-columns.ensures at c.in-Ok.ensures.members in
    let fails = negative_number (number_at c.numbers-numbers.result.now 1) (c.numbers-numbers.ensures.in_range 1) c.if-numbers-ge0.false in (
      _,
      step_chooses c.args.table.now c.args.stack.now c.args.i c.numbers-numbers.result.now system whole shows fails c.in-Some.index names least,
      step_fits c.args.table.now c.args.stack.now c.args.i c.numbers-numbers.result.now system whole shows fails _ exact.0,
      step_exchanges c.args.table.now c.args.stack.now c.args.i c.numbers-numbers.result.now system whole shows fails _ c.exchange.new.self.members is,
    )

pub returns-in-Err-clause-told : goal.returns-in-Err-clause-told
returns-in-Err-clause-told c = λ system whole.
    let shows = rw c.columns-columns.ensures at c.numbers-numbers.ensures.shows system whole in
    let names = rw (c.columns-columns.ensures, c.members.ensures) at c.in-Some.ensures.names in
    let least = rw (c.columns-columns.ensures, c.members.ensures) at c.in-Some.ensures.least in
    let first = rw c.columns-columns.ensures at c.in-Err.ensures.exact system whole in
    let fails = negative_number (number_at c.numbers-numbers.result.now 1) (c.numbers-numbers.ensures.in_range 1) c.if-numbers-ge0.false in
    rw (c.members-2.ensures, c.columns-columns.ensures) (
      step_chooses c.args.table.now c.args.stack.now c.args.i c.numbers-numbers.result.now system whole shows fails c.in-Some.index names least,
      step_passes c.args.table.now c.args.stack.now c.args.i c.numbers-numbers.result.now system whole shows fails _ c.in-Err.at.target c.in-Err.at.entry
          c.in-Err.at.wide first,
      pivot_is c.args.table.now c.args.stack.now c.args.i c.numbers-numbers.result.now system whole shows fails,
      c.in-Err.ensures.members_stay,
    )
