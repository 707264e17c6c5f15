use Rattle.std.proofs.Common.{◌<◌, length, subst, arith}
use Rattle.rg_net.specs.Shown.{shown_place}
use Rattle.rg_net.specs.ClassBreaks.{shown_markings}
use Rattle.rg_net.specs.Overs.{IsFirstOver}
use Rattle.rg_net.proofs.Placing.{place_read, count_of}
use Rattle.rg_net.proofs.Breaking.{in_class_more, in_class_all, first_break}
use Rattle.rg_net.proofs.Overs.{within_bound, ahead_more}
use Rattle.rg_net.proofs.class_break.in_class.Goals as goal

pub first_at-requires-clause-at : goal.first_at-requires-clause-at
first_at-requires-clause-at c = place_read c.args.net.now c.places-places.result.now c.loop-i.i c.index-places-i.result c.places-places.ensures.value c.loop-i-test.true c.index-places-i.is

pub returns-in-Some-clause-first : goal.returns-in-Some-clause-first
returns-in-Some-clause-first c =
    let net = c.args.net.now in
    let ms = shown_markings c.args.markings.now in
    let over = subst (λ n. IsFirstOver ms c.args.class.bound n c.first_over-over.result) (count_of net c.places-places.result.now c.places-places.ensures.value) c.first_over-over.ensures in
    let (here, first) = c.in-Some.ensures.first in
    first_break net ms c.args.class c.loop-i.i c.in-Some.first c.loop-i.invariant.before (c.in-Some.ensures.breaks ms over) here (first ms over)

pub loop-i-preserved : goal.loop-i-preserved
loop-i-preserved c =
    let net = c.args.net.now in
    let ms = shown_markings c.args.markings.now in
    let i = c.loop-i.i in
    let all = count_of net c.places-places.result.now c.places-places.ensures.value in
    let less = c.loop-i-test.true in
    let within : i < length net.places = omega arith in
    let over = subst (λ n. IsFirstOver ms c.args.class.bound n c.first_over-over.result) all c.first_over-over.ensures in
    record {
      before = in_class_more net ms c.args.class i (shown_place c.index-places-i.result) c.loop-i.invariant.before
          (place_read net c.places-places.result.now i c.index-places-i.result c.places-places.ensures.value less c.index-places-i.is) c.in_default.ensures.weights
          (within_bound ms c.args.class.bound (length net.places) i c.first_over-over.result within over c.in_default.ensures.passed);
      ahead = ahead_more i c.first_over-over.result c.in_default.ensures.passed;
    }

pub returns-clause-ok : goal.returns-clause-ok
returns-clause-ok c =
    in_class_all c.args.net.now (shown_markings c.args.markings.now) c.args.class c.loop-i.i
    (let past = c.loop-i-test.false in let all = count_of c.args.net.now c.places-places.result.now c.places-places.ensures.value in omega arith) c.loop-i.invariant.before
