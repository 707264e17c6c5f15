use Rattle.std.proofs.Common.{◌<◌, ◌≤◌, subst}
use Rattle.rg_theory.specs.Solves.{marking_of}
use Rattle.rg_net.specs.ClassBreaks.{shown_markings}
use Rattle.rg_net_verdict.proofs.Wrongs.{right_more, right_labels}
use Rattle.rg_net_verdict.proofs.wrong.first_wrong_at.Goals as goal

pub returns-in-Some-clause-some : goal.returns-in-Some-clause-some
returns-in-Some-clause-some c =
    record {
      s = c.args.s;
      t = c.loop-t.t;
      state = c.requires.state;
      label = subst (λ n. c.loop-t.t < n) c.labels-t-end.ensures.value c.loop-t-test.true;
      before = c.loop-t.invariant;
      wrong = c.in-Some.ensures.some;
    }

pub loop-t-preserved : goal.loop-t-preserved
loop-t-preserved c = right_more c.args.marked.lts.now c.args.marked.net.now (marking_of (shown_markings c.args.marked.rows.now)) c.args.s c.loop-t.t c.loop-t.invariant c.in_default.ensures.none

pub returns-clause-none : goal.returns-clause-none
returns-clause-none c = right_labels c.args.marked.lts.now c.args.marked.net.now
    (marking_of (shown_markings c.args.marked.rows.now)) c.args.s c.loop-t.t
    (subst (λ n. n ≤ c.loop-t.t) c.labels-t-end.ensures.value c.loop-t-test.false) c.loop-t.invariant
