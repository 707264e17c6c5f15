use Rattle.std.proofs.Common.{subst}
use Rattle.rg_checks.specs.Flaws.{IsFirstFlaw, IsShown}
use Rattle.rg_outcome.specs.Outcome.{Out.a_state, Out.a_fork}
use Rattle.rg_synth.proofs.Answers.{state_right, fork_right}
use Rattle.rg_synth.proofs.synthesis.flaw_certificate.Goals as goal
use Rattle.rg_synth.proofs.synthesis.flaw_certificate.Goals.{in-Unreachable, in-Fork}

pub returns-clause-out : goal.returns-clause-out
returns-clause-out c =
    let lts = c.args.lts.now in
    elim c.match-flaw.branch [
      | in-Unreachable w ↦
          let first = subst (IsFirstFlaw lts) w.in-Unreachable.is c.requires.first in
          rw w.reason-is (a_state w.in-Unreachable.s first)
      | in-Fork w ↦
          let fork = w.in-Fork.fork in
          let first = subst (IsFirstFlaw lts) w.in-Fork.is c.requires.first in
          rw w.reason-is (a_fork fork.from fork.label fork.to fork.other first.0 first.1)
    ]

pub returns-clause-right : goal.returns-clause-right
returns-clause-right c =
    let lts = c.args.lts.now in
    let fine = c.is_well_formed.ensures.in_range in
    elim c.match-flaw.branch [
      | in-Unreachable w ↦
          let first = subst (IsFirstFlaw lts) w.in-Unreachable.is c.requires.first in
          let shown = subst (IsShown lts) w.in-Unreachable.is c.requires.shown in
          rw w.reason-is (state_right lts c.args.class w.in-Unreachable.s fine c.requires.bound first shown)
      | in-Fork w ↦
          let fork = w.in-Fork.fork in
          let first = subst (IsFirstFlaw lts) w.in-Fork.is c.requires.first in
          rw w.reason-is (fork_right lts c.args.class fork.from fork.label fork.to fork.other fine c.requires.bound first.0 first.1)
    ]
