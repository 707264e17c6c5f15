use Rattle.rg_prune.proofs.Agreeing.{DifferSoFar}
use Rattle.rg_prune.proofs.differing.all_differ.Given as goal

abbrev pub invariant-loop-s : goal.invariant-loop-s
invariant-loop-s l = DifferSoFar l.a l.b l.seen.keys l.s
