use Rattle.std.proofs.Common.{◌≡◌, ◌<◌, length, arith}
use Rattle.rg_net_tests.proofs.Fitting.{fits_more}
use Rattle.rg_net_tests.proofs.classes.fit.Goals as goal

pub loop-marking-preserved : goal.loop-marking-preserved
loop-marking-preserved c =
    let lt : c.loop-marking.marking-index < length c.args.markings.now = omega (arith, c.loop-marking-test.true) in
    let long : length c.marking-item.result.items ≡ length c.places-places.result.now = omega (arith, c.if-len-places.false, c.len.ensures) in
    fits_more c.args.markings.now (length c.places-places.result.now) c.loop-marking.marking-index c.marking-item.result lt c.marking-item.is long c.loop-marking.invariant
