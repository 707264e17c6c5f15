use Rattle.std.proofs.Common.{rules, ◌≡◌, All, subst}
use Rattle.std.specs.Prelude.{pos}
use Rattle.std.proofs.lemmas.List.{take_all}
use Rattle.std.proofs.lemmas.List.Elements.{All-more}
use Rattle.rg_fraction.specs.declared.fraction.Fraction.{Fraction}
use Rattle.rg_fraction.specs.Fractions.{denominator_of}
use Rattle.rg_branch.proofs.point.are_whole.Goals as goal

pub loop-value-preserved : goal.loop-value-preserved
loop-value-preserved c = All-more (λ f. denominator_of f ≡ pos 1) c.args.values.now c.loop-value.value-index c.value-item.result c.loop-value-test.true
    c.loop-value.invariant (subst (λ (f : Fraction). denominator_of f ≡ pos 1) c.value-item.is (c.if-not-is_whole.ensures.0 (search rules)))

pub returns : goal.returns
returns c = λ _. subst (All (λ f. denominator_of f ≡ pos 1)) (take_all c.loop-value.value-index c.args.values.now c.loop-value-test.false) c.loop-value.invariant
