use Rattle.std.proofs.Common.{ℕ, replicate, ap, ◌∙◌}
use Rattle.rg_theory.specs.Region.{blocking}
use Rattle.rg_separate.proofs.DeadLabels.{blocked_region, blocked_separates}
use Rattle.rg_separate.proofs.dead.block_label.Goals as goal

pub returns-clause-region : goal.returns-clause-region
returns-clause-region c = λ class.
    blocked_region c.args.lts.now class c.args.t (record { place = c.in_ok-place.place; tokens = c.in_ok-tokens.tokens }) c.requires.label c.requires.dead
    (c.in_ok-place.ensures ∙ ap (λ n. blocking n c.args.t) c.labels.ensures.value)
    (c.in_ok-tokens.ensures ∙ ap (λ n. replicate {A = ℕ} n 0) c.states.ensures.value)

pub returns-clause-separates : goal.returns-clause-separates
returns-clause-separates c = λ s.
    blocked_separates c.args.lts.now s c.args.t (record { place = c.in_ok-place.place; tokens = c.in_ok-tokens.tokens }) c.requires.label
    (c.in_ok-place.ensures ∙ ap (λ n. blocking n c.args.t) c.labels.ensures.value)
    (c.in_ok-tokens.ensures ∙ ap (λ n. replicate {A = ℕ} n 0) c.states.ensures.value)
