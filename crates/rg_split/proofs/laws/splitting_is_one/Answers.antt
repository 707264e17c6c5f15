use Rattle.rg_theory.specs.ClassWords.{no_condition}
use Rattle.rg_split.specs.Rounds.{itself}
use Rattle.rg_synth.proofs.Answers.{no_numbers}
use Rattle.rg_split.proofs.Once.{one_splitting}
use Rattle.rg_split.proofs.Always.{always}
use Rattle.rg_split.proofs.laws.splitting_is_one.Goals as goal

pub returns : goal.returns
returns c = record {
  one = λ lts r r' d d'. one_splitting (λ system. c.outcome_is_one.ensures.answer system no_condition) lts (itself lts) r r' d d';
  some = λ lts well. always (λ system fine. c.outcome_is_one.ensures.some system no_condition fine no_numbers) lts well;
}
