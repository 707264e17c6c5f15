use Rattle.std.proofs.Common.{◌≤◌, subst, arith}
use Rattle.rg_theory.specs.System.{labels}
use Rattle.rg_theory.specs.Solves.{marking_of}
use Rattle.rg_net.specs.ClassBreaks.{shown_markings}
use Rattle.rg_net_verdict.proofs.Wrongs.{right_row, right_all}
use Rattle.rg_net_verdict.proofs.wrong.first_wrong.Goals as goal

pub loop-s-preserved : goal.loop-s-preserved
loop-s-preserved c = right_row c.args.marked.lts.now c.args.marked.net.now (marking_of (shown_markings c.args.marked.rows.now)) c.loop-s.s
    (labels c.args.marked.lts.now) (omega arith) c.in_default.ensures.none

pub returns-clause-none : goal.returns-clause-none
returns-clause-none c = right_all c.args.marked.lts.now c.args.marked.net.now (marking_of (shown_markings c.args.marked.rows.now)) c.loop-s.s 0
    (subst (λ n. n ≤ c.loop-s.s) c.states-s-end.ensures.value c.loop-s-test.false) c.loop-s.invariant
