use Rattle.rg_theory.specs.Solves.{marking_of}
use Rattle.rg_net.specs.ClassBreaks.{shown_markings}
use Rattle.rg_net_verdict.specs.Verdict.{AreRightBefore}
use Rattle.rg_net_verdict.proofs.wrong.first_wrong_at.Given as goal

abbrev pub invariant-loop-t : goal.invariant-loop-t
invariant-loop-t l = AreRightBefore l.marked.lts.now l.marked.net.now (marking_of (shown_markings l.marked.rows.now)) l.s l.t
