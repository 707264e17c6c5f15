use Rattle.std.proofs.Common.{subst, ◌∙◌, Vec, Global}
use Rattle.std.specs.Int.{w128, cast_signed, cast_unsigned}
use Rattle.rg_integers.proofs.Casts.{back}
use Rattle.rg_fraction.specs.declared.fraction.Fraction.{Fraction}
use Rattle.rg_case_folds.specs.Placing.{times_each}
use Rattle.rg_case_folds.proofs.Found.{TimesMarking}
use Rattle.rg_case_folds.proofs.Comes.{comes_by}
use Rattle.rg_places.specs.PointValues.{ratios_of}
use Rattle.rg_places.proofs.PlaceSteps.{times_made, times_kept}
use Rattle.rg_places.proofs.whole.times_marking.Goals as goal

pub returns-in-Some : goal.returns-in-Some
returns-in-Some c =
    let numbers = ratios_of c.args.numbers.items in
    let z = c.widen.result in
    comes_by (times_each (cast_signed w128 (cast_unsigned w128 z)) numbers) (TimesMarking c.args.class numbers)
    (λ (v : Vec Fraction Global). ratios_of v.items) c.times_each.result c.times_each.ensures
    (λ r h. times_made c.args.class numbers c.in-Some.n c.in-Some.is r
    (subst (λ y. times_each y numbers r) (back z c.widen.ensures.in_range ∙ c.widen.ensures.value) h))

pub returns-in-None : goal.returns-in-None
returns-in-None c = times_kept c.args.class (ratios_of c.args.numbers.items) c.in-None.is
