use Rattle.std.proofs.Common.{◌≤◌, refl, arith}
use Rattle.std.proofs.lemmas.Bool.{false≢true}
use Rattle.rg_theory.specs.Net.{pre_weight, tokens}
use Rattle.rg_net.specs.Shown.{shown_place}
use Rattle.rg_net.proofs.Placing.{place_read, weights_of, number_read, placed_more, placed_all, count_of}
use Rattle.rg_net.proofs.firing.enabled.Goals as goal

pub index-requires : goal.index-requires
index-requires c =
    let at = place_read c.args.net.now c.places-places.result.now c.loop-i.i c.index-places-i.result c.places-places.ensures.value c.loop-i-test.true c.index-places-i.is in
    let size = (weights_of c.args.net.now c.loop-i.i (shown_place c.index-places-i.result) c.places-places.ensures.in_range at).0 in
    let is = c.index-places-i.result.pre.ok.0 in
    omega arith

pub returns-then-marking-i : goal.returns-then-marking-i
returns-then-marking-i c =
    let at = place_read c.args.net.now c.places-places.result.now c.loop-i.i c.index-places-i.result c.places-places.ensures.value c.loop-i-test.true c.index-places-i.is in
    let size = (weights_of c.args.net.now c.loop-i.i (shown_place c.index-places-i.result) c.places-places.ensures.in_range at).0 in
    let is = number_read c.index-places-i.result.pre.items c.args.t c.index.result.now (omega arith) c.index.ensures in
    let few = c.if-marking-i.true in
    (λ e. absurd (false≢true e), λ enabled. absurd (let enough = enabled c.loop-i.i (shown_place c.index-places-i.result) at in omega arith))

pub loop-i-preserved : goal.loop-i-preserved
loop-i-preserved c =
    let at = place_read c.args.net.now c.places-places.result.now c.loop-i.i c.index-places-i.result c.places-places.ensures.value c.loop-i-test.true c.index-places-i.is in
    let size = (weights_of c.args.net.now c.loop-i.i (shown_place c.index-places-i.result) c.places-places.ensures.in_range at).0 in
    let is = number_read c.index-places-i.result.pre.items c.args.t c.index.result.now (omega arith) c.index.ensures in
    let many = c.if-marking-i.false in
    placed_more (λ j p. pre_weight p c.args.t ≤ tokens c.args.marking.now j) c.args.net.now c.loop-i.i (shown_place c.index-places-i.result) c.loop-i.invariant at (omega arith)

pub returns : goal.returns
returns c = (
  λ e. placed_all (λ j p. pre_weight p c.args.t ≤ tokens c.args.marking.now j) c.args.net.now c.loop-i.i
      (let past = c.loop-i-test.false in let all = count_of c.args.net.now c.places-places.result.now c.places-places.ensures.value in omega arith) c.loop-i.invariant,
  λ e. refl,
)
