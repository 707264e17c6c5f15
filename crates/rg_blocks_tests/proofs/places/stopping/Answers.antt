use Rattle.std.proofs.Common.{rules, ◌≡◌, ◌∙◌, refl, replicate}
use Rattle.rg_theory.specs.System.{states, labels}
use Rattle.rg_blocks_tests.proofs.ConstantLemmas.{has_no_token}
use Rattle.rg_blocks_tests.proofs.places.stopping.Goals as goal

pub returns-clause-empty : goal.returns-clause-empty
returns-clause-empty c =
    let post : c.in_ok-post.post.items ≡ replicate (labels c.args.lts.now) 0 = search rules in
    let tokens : c.in_ok-tokens.tokens.items ≡ replicate (states c.args.lts.now) 0 = search rules in
    has_no_token c.args.lts.now c.args.first _ c.requires.dead refl (c.in_ok-pre.ensures.long ∙ c.labels-labels.ensures.value) c.in_ok-pre.ensures.none post tokens
