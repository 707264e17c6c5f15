use Rattle.std.proofs.Common.{arith}
use Rattle.rg_net.specs.Shown.{shown_place}
use Rattle.rg_net.proofs.Placing.{place_read, place_in_range, weights_of, count_of}
use Rattle.rg_net.proofs.Moving.{moved_next, moved_fires, moved_in_range}
use Rattle.rg_net.proofs.firing.marking_after.Goals as goal

pub tokens_after-requires-clause-place : goal.tokens_after-requires-clause-place
tokens_after-requires-clause-place c =
    place_in_range c.args.net.now c.loop-i.i (shown_place c.index-places-i.result) c.places-places.ensures.in_range
    (place_read c.args.net.now c.places-places.result.now c.loop-i.i c.index-places-i.result c.places-places.ensures.value c.loop-i-test.true c.index-places-i.is)

pub tokens_after-requires-clause-pre : goal.tokens_after-requires-clause-pre
tokens_after-requires-clause-pre c =
    let at = place_read c.args.net.now c.places-places.result.now c.loop-i.i c.index-places-i.result c.places-places.ensures.value c.loop-i-test.true c.index-places-i.is in
    let size = (weights_of c.args.net.now c.loop-i.i (shown_place c.index-places-i.result) c.places-places.ensures.in_range at).0 in
    omega arith

pub tokens_after-requires-clause-post : goal.tokens_after-requires-clause-post
tokens_after-requires-clause-post c =
    let at = place_read c.args.net.now c.places-places.result.now c.loop-i.i c.index-places-i.result c.places-places.ensures.value c.loop-i-test.true c.index-places-i.is in
    let size = (weights_of c.args.net.now c.loop-i.i (shown_place c.index-places-i.result) c.places-places.ensures.in_range at).1 in
    omega arith

pub tokens_after-requires-clause-enough : goal.tokens_after-requires-clause-enough
tokens_after-requires-clause-enough c =
    c.requires.enabled c.loop-i.i (shown_place c.index-places-i.result)
    (place_read c.args.net.now c.places-places.result.now c.loop-i.i c.index-places-i.result c.places-places.ensures.value c.loop-i-test.true c.index-places-i.is)

pub loop-i-preserved : goal.loop-i-preserved
loop-i-preserved c =
    rw c.in_ok-push.ensures.items
    (moved_next c.args.net.now c.args.marking.now c.args.t c.loop-i.after.items c.loop-i.i (shown_place c.index-places-i.result) c.tokens_after.result c.loop-i.invariant
    (place_read c.args.net.now c.places-places.result.now c.loop-i.i c.index-places-i.result c.places-places.ensures.value c.loop-i-test.true c.index-places-i.is)
    c.tokens_after.ensures)

pub returns-clause-fires : goal.returns-clause-fires
returns-clause-fires c =
    moved_fires c.args.net.now c.args.marking.now c.args.t c.loop-i.after.items c.loop-i.i c.requires.label c.requires.enabled
    (let past = c.loop-i-test.false in let end = c.loop-i.auto.i-end in let all = count_of c.args.net.now c.places-places.result.now c.places-places.ensures.value in omega arith) c.loop-i.invariant

pub returns-clause-in_range : goal.returns-clause-in_range
returns-clause-in_range c =
    moved_in_range c.args.net.now c.args.marking.now c.args.t c.loop-i.after.items c.loop-i.i c.requires.stays
    (let past = c.loop-i-test.false in let end = c.loop-i.auto.i-end in let all = count_of c.args.net.now c.places-places.result.now c.places-places.ensures.value in omega arith) c.loop-i.invariant
