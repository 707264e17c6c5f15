use Rattle.std.proofs.Common.{rules, ◌≡◌, false, true, refl, sym, ◌∙◌}
use Rattle.std.specs.Prelude.{FitsSigned}
use Rattle.std.specs.Int.{w128}
use Rattle.std.proofs.lemmas.Int.{to_z-of_z}
use Rattle.std.proofs.lemmas.Bool.{false≢true}
use Rattle.rg_revised.proofs.Telling.{tells_satisfied, tells_stuck, can_exchange, tells_exchanged}
use Rattle.rg_revised.proofs.step.take_row.Goals as goal

pub fails_at-requires : goal.fails_at-requires
fails_at-requires c =
    let fk : FitsSigned w128 c.args.constant = search rules in
    let (system, members, is, row) = c.requires.whole in
    rw (to_z-of_z w128 c.args.constant fk) (system, members, c.args.i, is, row)

pub read-requires : goal.read-requires
read-requires c =
    let fk : FitsSigned w128 c.args.constant = search rules in
    let (system, members, is, row) = c.requires.whole in
    rw (to_z-of_z w128 c.args.constant fk) (record { whole = (system, members, c.args.i, is, row) })

pub exchange-requires : goal.exchange-requires
exchange-requires c =
    let fk : FitsSigned w128 c.args.constant = search rules in
    let (system, members, is, row) = c.requires.whole in
    let test = rw (to_z-of_z w128 c.args.constant fk) at c.fails_at.ensures in
    let all = rw (to_z-of_z w128 c.args.constant fk) at c.if-not-read.ensures.read in
    let read = all refl system members c.args.i is row in
    let yes : c.fails_at.result ≡ true = search rules in
    rw c.columns.ensures
    (record {
      relation = can_exchange system members _ c.args.i row.inside read.whole read.relation
          (read.fails (test.0 yes)) c.args.stack.now _ c.in-Some.ensures.is (c.if-not-read.ensures.short refl);
    })

pub returns-then-not-fails_at-clause-told : goal.returns-then-not-fails_at-clause-told
returns-then-not-fails_at-clause-told c = λ system members is row.
    let fk : FitsSigned w128 c.args.constant = search rules in
    let test = rw (to_z-of_z w128 c.args.constant fk) at c.fails_at.ensures in
    let no : c.fails_at.result ≡ false = search rules in
    tells_satisfied _ _ _ _ _ _ is row c.args.stack.now (λ less. false≢true (sym no ∙ test.1 less))

pub returns-in_default-clause-told : goal.returns-in_default-clause-told
returns-in_default-clause-told c = λ system members is row.
    let fk : FitsSigned w128 c.args.constant = search rules in
    let test = rw (to_z-of_z w128 c.args.constant fk) at c.fails_at.ensures in
    let all = rw (to_z-of_z w128 c.args.constant fk) at c.if-not-read.ensures.read in
    let read = all refl system members c.args.i is row in
    let yes : c.fails_at.result ≡ true = search rules in
    tells_stuck system members _ c.args.i row.inside read.whole read.relation (read.fails (test.0 yes)) c.args.stack.now c.in_default.ensures.none

pub returns-then-exchange-clause-told : goal.returns-then-exchange-clause-told
returns-then-exchange-clause-told c = λ system members is row.
    let fk : FitsSigned w128 c.args.constant = search rules in
    let test = rw (to_z-of_z w128 c.args.constant fk) at c.fails_at.ensures in
    let all = rw (to_z-of_z w128 c.args.constant fk) at c.if-not-read.ensures.read in
    let read = all refl system members c.args.i is row in
    let yes : c.fails_at.result ≡ true = search rules in
    let exchange = rw c.columns.ensures at c.if-exchange.ensures.exchanged refl in
    tells_exchanged system members _ c.args.i row.inside read.whole read.relation (read.fails (test.0 yes)) c.args.stack.now _ c.in-Some.ensures.is c.in-Some.ensures.least _ exchange
