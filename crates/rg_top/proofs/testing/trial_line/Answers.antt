use Rattle.std.proofs.Common.{sym, subst}
use Rattle.rg_outcome.specs.Outcome.{Out}
use Rattle.rg_cert_data.specs.Certificates.{reason_of}
use Rattle.rg_synth.specs.Answer.{answer_of, IsSolvingNet, IsRightCertificate, IfNet, IfUnsolvable}
use Rattle.rg_synth.specs.declared.answer.Answer.{Answer}
use Rattle.rg_top.specs.SelfTest.{trial, HasLine, solved, unsolvable}
use Rattle.rg_top.proofs.testing.trial_line.Goals as goal

pub returns-in-Net-clause-line : goal.returns-in-Net-clause-line
returns-in-Net-clause-line g c =
    let class = c.args.class in
    let lts = c.in_ok-lts.lts in
    let right = subst (λ (a : Answer). IfNet a (IsSolvingNet lts class)) c.in-Net.is c.in_ok-net.ensures.net in
    let answer = subst (λ (a : Answer). Out lts class (answer_of a)) c.in-Net.is c.in_ok-net.ensures.out in
    subst (HasLine (trial c.args.kind c.args.n class)) (sym c.in_ok-net_line-in-Net.ensures) (solved lts c.in-Net.net c.in_ok-lts.ensures answer right)

pub returns-in-Unsolvable-clause-line : goal.returns-in-Unsolvable-clause-line
returns-in-Unsolvable-clause-line g c =
    let class = c.args.class in
    let lts = c.in_ok-lts.lts in
    let reason = reason_of c.in-Unsolvable.cert.reason in
    let right = subst (λ (a : Answer). IfUnsolvable a (IsRightCertificate lts class)) c.in-Unsolvable.is c.in_ok-net.ensures.unsolvable in
    let answer = subst (λ (a : Answer). Out lts class (answer_of a)) c.in-Unsolvable.is c.in_ok-net.ensures.out in
    subst (HasLine (trial c.args.kind c.args.n class)) (sym c.in_ok-certificate_line-in-Unsolvable.ensures) (unsolvable lts reason c.in_ok-lts.ensures answer right.is right.holds right.none)
