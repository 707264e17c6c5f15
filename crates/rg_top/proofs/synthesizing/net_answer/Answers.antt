use Rattle.std.proofs.Common.{subst}
use Rattle.rg_case_folds.specs.Shown.{ShownWide}
use Rattle.rg_outcome.specs.Outcome.{Out}
use Rattle.rg_separate.specs.View.{shown_of}
use Rattle.rg_synth.specs.Answer.{answer_of, IsOpen, IsSolvingNet, IsRightCertificate, IfNet, IfUnsolvable, IfTooWide}
use Rattle.rg_synth.specs.declared.answer.Answer.{Answer}
use Rattle.rg_top.specs.Synthesize.{a_term}
use Rattle.rg_top.proofs.Found.{found_net, found_certificate}
use Rattle.rg_top.proofs.synthesizing.net_answer.Goals as goal

pub returns-in_ok-print_net-in-Net : goal.returns-in_ok-print_net-in-Net
returns-in_ok-print_net-in-Net g c =
    let class = c.args.class in
    let lts = c.args.lts.now in
    let right = subst (λ (a : Answer). IfNet a (IsSolvingNet lts class)) c.in-Net.is c.in_ok-net.ensures.net in
    let answer = subst (λ (a : Answer). Out lts class (answer_of a)) c.in-Net.is c.in_ok-net.ensures.out in
    let made = c.in_ok-print_net-in-Net in
    found_net class lts c.in-Net.net made.field-0.items c.is_well_formed.ensures answer right made.ensures

pub returns-in_ok-print-in-Unsolvable : goal.returns-in_ok-print-in-Unsolvable
returns-in_ok-print-in-Unsolvable g c =
    let class = c.args.class in
    let lts = c.args.lts.now in
    let cert = c.in-Unsolvable.cert in
    let right = subst (λ (a : Answer). IfUnsolvable a (IsRightCertificate lts class)) c.in-Unsolvable.is c.in_ok-net.ensures.unsolvable in
    let answer = subst (λ (a : Answer). Out lts class (answer_of a)) c.in-Unsolvable.is c.in_ok-net.ensures.out in
    let made = c.in_ok-print-in-Unsolvable in
    found_certificate class lts cert made.field-0.items answer right made.ensures.text made.ensures.spelled

pub returns-in-TooWide : goal.returns-in-TooWide
returns-in-TooWide g c =
    let class = c.args.class in
    let lts = c.args.lts.now in
    let at = c.in-TooWide.at in
    let passes = subst (λ (a : Answer). IfTooWide a (λ w. IsOpen lts × ShownWide lts class (shown_of w))) c.in-TooWide.is c.in_ok-net.ensures.too_wide in
    let answer = subst (λ (a : Answer). Out lts class (answer_of a)) c.in-TooWide.is c.in_ok-net.ensures.out in
    a_term (shown_of at) (record { is_open = passes.0; passes = passes.1; answer = answer })
