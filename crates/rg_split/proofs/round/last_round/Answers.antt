use Rattle.std.proofs.Common.{subst}
use Rattle.rg_theory.specs.ClassWords.{no_condition}
use Rattle.rg_case_folds.specs.Shown.{ShownWide}
use Rattle.rg_outcome.specs.Outcome.{Out}
use Rattle.rg_cert_data.specs.Certificates.{reason_of}
use Rattle.rg_separate.specs.View.{shown_of}
use Rattle.rg_synth.specs.Answer.{answer_of, IfNet, IfTooWide, IsSolvingNet, IsOpen}
use Rattle.rg_split.specs.Rounds.{RoundsCome.solved, RoundsCome.passed}
use Rattle.rg_synth.proofs.Answers.{no_numbers}
use Rattle.rg_split.proofs.round.last_round.Goals as goal

pub synthesize-requires-clause-bound : goal.synthesize-requires-clause-bound
synthesize-requires-clause-bound g c = λ lives within. no_numbers

pub returns-in-Net-clause-ends : goal.returns-in-Net-clause-ends
returns-in-Net-clause-ends g c =
    let system = c.args.now.system in
    record {
      comes = solved c.in-Net.net.places (subst (λ a. Out system no_condition (answer_of a)) c.in-Net.is c.in_ok-net.ensures.out);
      says = (c.requires.apart, subst (λ a. IfNet a (IsSolvingNet system no_condition)) c.in-Net.is c.in_ok-net.ensures.net);
    }

pub returns-in-TooWide-clause-ends : goal.returns-in-TooWide-clause-ends
returns-in-TooWide-clause-ends g c =
    let system = c.args.now.system in
    let shown = subst (λ a. IfTooWide a (λ w. IsOpen system × ShownWide system no_condition (shown_of w))) c.in-TooWide.is c.in_ok-net.ensures.too_wide in
    record {
      comes = passed (shown_of c.in-TooWide.at) (subst (λ a. Out system no_condition (answer_of a)) c.in-TooWide.is c.in_ok-net.ensures.out);
      says = (c.requires.apart, shown.0, shown.1);
    }

pub unreachable-requires : goal.unreachable-requires
unreachable-requires g c =
    let system = c.args.now.system in
    c.requires.unrefused (reason_of c.in-Unsolvable.field-0.reason) (subst (λ a. Out system no_condition (answer_of a)) c.in-Unsolvable.is c.in_ok-net.ensures.out)
