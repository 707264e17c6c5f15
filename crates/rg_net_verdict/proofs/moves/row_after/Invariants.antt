use Rattle.rg_net_verdict.proofs.Shifting.{MovedSoFar}
use Rattle.rg_net_verdict.proofs.moves.row_after.Given as goal

abbrev pub invariant-loop-f : goal.invariant-loop-f
invariant-loop-f l = MovedSoFar l.flow l.row l.after.items l.f-index
