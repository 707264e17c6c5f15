use Rattle.rg_theory.specs.Solves.{marking_of}
use Rattle.rg_net.specs.ClassBreaks.{shown_markings}
use Rattle.rg_net_verdict.specs.Verdict.{AreRightBefore}
use Rattle.rg_net_verdict.proofs.wrong.first_wrong.Given as goal

abbrev pub invariant-loop-s : goal.invariant-loop-s
invariant-loop-s l = AreRightBefore l.marked.lts.now l.marked.net.now (marking_of (shown_markings l.marked.rows.now)) l.s 0
