use Rattle.rg_cycles.proofs.Steps.{step_skipped, step_exchanges, step_passes, pivot_outside, ahead_skips, ahead_exchanges}
use Rattle.rg_cycles.proofs.walk.take_row.Goals as goal

pub numbers-requires : goal.numbers-requires
numbers-requires c = rw c.columns-labels.ensures (pivot_outside c.args.dictionary.now c.args.i c.requires.row c.requires.ahead)

pub returns-in_default-clause-ahead : goal.returns-in_default-clause-ahead
returns-in_default-clause-ahead c = ahead_skips c.args.dictionary.now c.args.i c.requires.ahead

pub returns-in_default-clause-goes_on : goal.returns-in_default-clause-goes_on
returns-in_default-clause-goes_on c = λ system o whole rest.
    let shows = rw c.columns-labels.ensures at c.numbers.ensures.shows system whole in
    let none = rw (c.columns-labels.ensures, c.members.ensures) at c.in_default.ensures.none in
    step_skipped c.args.dictionary.now c.args.i c.numbers.result.now c.requires.row system whole shows none o rest

pub returns-in-Ok-clause-ahead : goal.returns-in-Ok-clause-ahead
returns-in-Ok-clause-ahead c = ahead_exchanges c.args.dictionary.now c.exchange.new.self c.args.i _ c.requires.ahead c.in-Ok.ensures.shape (rw c.columns-labels.ensures at c.in-Ok.ensures.members)

pub returns-in-Ok-clause-goes_on : goal.returns-in-Ok-clause-goes_on
returns-in-Ok-clause-goes_on c = λ system o whole rest.
    let shows = rw c.columns-labels.ensures at c.numbers.ensures.shows system whole in
    let names = rw (c.columns-labels.ensures, c.members.ensures) at c.in-Some.ensures.names in
    let least = rw (c.columns-labels.ensures, c.members.ensures) at c.in-Some.ensures.least in
    let exact = rw c.columns-labels.ensures at c.in-Ok.ensures.exact system whole in
    let is = rw c.columns-labels.ensures at c.in-Ok.ensures.members in
    step_exchanges c.args.dictionary.now c.args.i c.numbers.result.now c.requires.row system whole shows c.in-Some.index names least exact.0 c.exchange.new.self.members is o rest

pub returns-in-Err-clause-passes : goal.returns-in-Err-clause-passes
returns-in-Err-clause-passes c = λ system whole.
    let shows = rw c.columns-labels.ensures at c.numbers.ensures.shows system whole in
    let names = rw (c.columns-labels.ensures, c.members.ensures) at c.in-Some.ensures.names in
    let least = rw (c.columns-labels.ensures, c.members.ensures) at c.in-Some.ensures.least in
    let first = rw c.columns-labels.ensures at c.in-Err.ensures.exact system whole in
    rw c.members-2.ensures (step_passes c.args.dictionary.now c.args.i c.numbers.result.now c.requires.row system whole shows c.in-Some.index names
    least c.in-Err.at.target c.in-Err.at.entry c.in-Err.at.wide first)
