use Rattle.std.proofs.Common.{rules, subst, ◌∙◌}
use Rattle.std.specs.Prelude.{FitsSigned}
use Rattle.std.specs.Int.{w128}
use Rattle.std.proofs.lemmas.Int.{to_z-of_z}
use Rattle.rg_branch.specs.Relating.{IsRefutedBy}
use Rattle.rg_branch.proofs.relations.Relations.multiplier.Goals as goal

pub returns-in-OfColumns : goal.returns-in-OfColumns
returns-in-OfColumns c = λ node i k refuted.
    let (members, at, row) = subst (IsRefutedBy node i k) c.in-OfColumns.is refuted in
    let fits : FitsSigned w128 c.multiplier.result = search rules in
    to_z-of_z w128 c.multiplier.result fits ∙ c.multiplier.ensures node members i k at row

pub returns-in-OfAll : goal.returns-in-OfAll
returns-in-OfAll c = λ node i k refuted.
    let (dictionary, at, multipliers) = subst (IsRefutedBy node i k) c.in-OfAll.is refuted in
    let fits : FitsSigned w128 c.multiplier-in-OfAll.result = search rules in
    to_z-of_z w128 c.multiplier-in-OfAll.result fits ∙ c.multiplier-in-OfAll.ensures.value i at ∙ (λ j. multipliers j c.args.row)
