use Rattle.rg_verify.proofs.Verdicts.{no_net}
use Rattle.rg_verify.proofs.judging.verify.Goals as goal

pub returns-clause-no_net : goal.returns-clause-no_net
returns-clause-no_net c = no_net c.args.lts.now c.args.cert.now c.judge.result c.judge.ensures.in_range c.judge.ensures.judged
