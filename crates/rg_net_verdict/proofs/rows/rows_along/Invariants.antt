use Rattle.rg_net.specs.ClassBreaks.{shown_markings}
use Rattle.rg_net_verdict.proofs.Along.{AlongSoFar}
use Rattle.rg_net_verdict.proofs.rows.rows_along.Given as goal

abbrev pub invariant-loop-a : goal.invariant-loop-a
invariant-loop-a l = AlongSoFar l.lts l.net l.tree (shown_markings l.rows.items) l.a-index
