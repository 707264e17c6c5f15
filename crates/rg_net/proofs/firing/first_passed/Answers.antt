use Rattle.std.proofs.Common.{◌≤◌, arith}
use Rattle.rg_integers.specs.Range.{greatest}
use Rattle.rg_net.specs.Firing.{left_on}
use Rattle.rg_net.specs.Shown.{shown_place}
use Rattle.rg_net.proofs.Placing.{place_read, place_in_range, weights_of, placed_more, placed_all, count_of}
use Rattle.rg_net.proofs.firing.first_passed.Goals as goal

pub tokens_after-requires-clause-place : goal.tokens_after-requires-clause-place
tokens_after-requires-clause-place c =
    place_in_range c.args.net.now c.loop-i.i (shown_place c.index-places-i.result) c.places-places.ensures.in_range
    (place_read c.args.net.now c.places-places.result.now c.loop-i.i c.index-places-i.result c.places-places.ensures.value c.loop-i-test.true c.index-places-i.is)

pub tokens_after-requires-clause-pre : goal.tokens_after-requires-clause-pre
tokens_after-requires-clause-pre c =
    let at = place_read c.args.net.now c.places-places.result.now c.loop-i.i c.index-places-i.result c.places-places.ensures.value c.loop-i-test.true c.index-places-i.is in
    let size = (weights_of c.args.net.now c.loop-i.i (shown_place c.index-places-i.result) c.places-places.ensures.in_range at).0 in
    omega arith

pub tokens_after-requires-clause-post : goal.tokens_after-requires-clause-post
tokens_after-requires-clause-post c =
    let at = place_read c.args.net.now c.places-places.result.now c.loop-i.i c.index-places-i.result c.places-places.ensures.value c.loop-i-test.true c.index-places-i.is in
    let size = (weights_of c.args.net.now c.loop-i.i (shown_place c.index-places-i.result) c.places-places.ensures.in_range at).1 in
    omega arith

pub tokens_after-requires-clause-enough : goal.tokens_after-requires-clause-enough
tokens_after-requires-clause-enough c =
    c.requires.enabled c.loop-i.i (shown_place c.index-places-i.result)
    (place_read c.args.net.now c.places-places.result.now c.loop-i.i c.index-places-i.result c.places-places.ensures.value c.loop-i-test.true c.index-places-i.is)

pub returns-then-tokens_after-clause-passed : goal.returns-then-tokens_after-clause-passed
returns-then-tokens_after-clause-passed c =
    record {
      place = shown_place c.index-places-i.result;
      at = place_read c.args.net.now c.places-places.result.now c.loop-i.i c.index-places-i.result c.places-places.ensures.value c.loop-i-test.true c.index-places-i.is;
      passes = let big = c.if-tokens_after.true in let is = c.tokens_after.ensures in omega arith;
      first = c.loop-i.invariant;
    }

pub loop-i-preserved : goal.loop-i-preserved
loop-i-preserved c =
    placed_more (λ j p. left_on c.args.marking.now j p c.args.t ≤ greatest) c.args.net.now c.loop-i.i (shown_place c.index-places-i.result) c.loop-i.invariant
    (place_read c.args.net.now c.places-places.result.now c.loop-i.i c.index-places-i.result c.places-places.ensures.value c.loop-i-test.true c.index-places-i.is)
    (let small = c.if-tokens_after.false in let is = c.tokens_after.ensures in omega arith)

pub returns-clause-none : goal.returns-clause-none
returns-clause-none c =
    placed_all (λ j p. left_on c.args.marking.now j p c.args.t ≤ greatest) c.args.net.now c.loop-i.i
    (let past = c.loop-i-test.false in let all = count_of c.args.net.now c.places-places.result.now c.places-places.ensures.value in omega arith) c.loop-i.invariant
