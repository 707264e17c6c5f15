use Rattle.rg_net_verdict.proofs.Shifting.{AgreeSoFar}
use Rattle.rg_net_verdict.proofs.moves.leads.Given as goal

abbrev pub invariant-loop-f : goal.invariant-loop-f
invariant-loop-f l = AgreeSoFar l.flow l.from l.to l.f-index l.start
