use Rattle.std.proofs.Common.{◌≡◌, Err}
use Rattle.rg_net_verdict.specs.declared.check.Halt.TheVariants.{No}
use Rattle.rg_net_verdict.proofs.Telling.{verdict_no}
use Rattle.rg_net_verdict.proofs.check.flawless_verdict.Goals as goal

pub returns-in-Err-No-clause-verdict : goal.returns-in-Err-No-clause-verdict
returns-in-Err-No-clause-verdict c =
    let was : c.judge.result ≡ Err (No c.in-Err-No.no) = cc in
    verdict_no c.args.lts.now c.args.net.now c.in-Ok.tree.arcs.items c.args.class c.in-Err-No.no c.requires.flawless
    c.in-Ok.ensures.tree (c.judge.ensures.no c.in-Err-No.no was)
