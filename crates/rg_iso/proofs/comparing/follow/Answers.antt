use Rattle.std.proofs.Common.{arith}
use Rattle.rg_iso.specs.Pairing.{pairs_in}
use Rattle.rg_iso.proofs.Following.{pair_done}
use Rattle.rg_iso.proofs.comparing.follow.Goals as goal

pub returns-clause-none : goal.returns-clause-none
returns-clause-none c =
    pair_done c.args.a.now c.args.b.now (pairs_in c.loop-t.pairing) c.args.index c.loop-t.t (let n = c.labels-t-end.ensures.value in let m = c.loop-t-test.false in omega (arith, n, m))
    c.loop-t.invariant.followed
