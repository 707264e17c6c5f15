use Rattle.rg_net.specs.ClassBreaks.{shown_markings}
use Rattle.rg_net_verdict.proofs.Seeing.{SeenSoFar}
use Rattle.rg_net_verdict.proofs.same.first_same.Given as goal

abbrev pub invariant-loop-s : goal.invariant-loop-s
invariant-loop-s l = SeenSoFar (shown_markings l.rows) l.seen.keys l.firsts.items l.best l.s
