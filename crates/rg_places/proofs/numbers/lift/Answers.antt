use Rattle.std.proofs.Common.{◌<◌, unsigned_abs, length, ap, ap₂, sym, subst, ◌∙◌, Vec, Global}
use Rattle.std.specs.Prelude.{pos}
use Rattle.rg_theory.specs.System.{states}
use Rattle.rg_integers.proofs.Casts.{back}
use Rattle.rg_folds.specs.Fold.{whole, ratio_of}
use Rattle.rg_case_folds.specs.Placing.{missing, top_at}
use Rattle.rg_places.specs.PointValues.{ratios_of}
use Rattle.rg_places.proofs.FractionSteps.{top_there}
use Rattle.rg_fraction.specs.declared.fraction.Fraction.{Fraction}
use Rattle.rg_case_folds.proofs.Comes.{comes_by}
use Rattle.rg_places.proofs.PlaceSteps.{lifted_kept, lifted_made}
use Rattle.rg_places.proofs.numbers.lift.Goals as goal

pub returns-then-not-is_lifted : goal.returns-then-not-is_lifted
returns-then-not-is_lifted c = lifted_kept c.args.lts.now c.args.class c.args.problem (ratios_of c.args.numbers.items) (sym c.is_lifted.ensures ∙ c.if-not-is_lifted.true)

pub returns : goal.returns
returns c =
    let numbers = c.args.numbers.items in
    let start = c.unsigned_abs-start.ensures.value
    ∙ ap unsigned_abs (back c.numerator.result c.numerator.ensures.in_range ∙ c.numerator.ensures.value ∙ top_there numbers c.initial.result c.index.result.now
    (subst (λ k. k < length numbers) (sym c.initial.ensures.value)
    (subst (λ k. c.args.lts.now.initial < k) (sym c.requires) (subst (λ k. k < states c.args.lts.now) c.initial.ensures.value c.initial.ensures.in_range)))
    c.index.ensures ∙ ap (top_at (ratios_of numbers)) c.initial.ensures.value) in
    let by = c.whole_number.ensures ∙ ap (λ n. whole (pos n)) (c.missing-by.ensures ∙ ap₂ missing c.unwrap_or.ensures start) in
    comes_by _ _ (λ (v : Vec Fraction Global). ratios_of v.items) c.add_to_each.result c.add_to_each.ensures
    (lifted_made c.args.lts.now c.args.class c.args.problem (ratios_of numbers) (ratio_of c.whole_number.result) by (sym c.is_lifted.ensures ∙ c.if-not-is_lifted.false))
