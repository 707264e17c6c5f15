use Rattle.std.proofs.Common.{List, Ok, map, subst, sym, Vec, Global}
use Rattle.std.specs.Int.{w128, cast_signed, cast_unsigned}
use Rattle.rg_integers.proofs.Casts.{back}
use Rattle.rg_fraction.specs.declared.fraction.Fraction.{Fraction}
use Rattle.rg_fraction.proofs.Ones.{is_one}
use Rattle.rg_folds.specs.Fold.{each, mul, whole, ratio_of}
use Rattle.rg_case_parts.proofs.Multiples.{all_times_one}
use Rattle.rg_case_folds.specs.Placing.{times_each}
use Rattle.rg_case_folds.proofs.Comes.{comes_by}
use Rattle.rg_places.specs.PointValues.{ratios_of}
use Rattle.rg_places.proofs.whole.times_each.Goals as goal

pub returns-then-by-eq1 : goal.returns-then-by-eq1
returns-then-by-eq1 c =
    let numbers = ratios_of c.args.numbers.items in
    subst (λ n. times_each n numbers (Ok numbers)) (sym (is_one c.args.by c.requires c.if-by-eq1.true)) (all_times_one c.args.numbers.items)

pub returns : goal.returns
returns c =
    let numbers = c.args.numbers.items in
    let z = c.args.by in
    comes_by (each (λ f. mul f (whole (cast_signed w128 (cast_unsigned w128 z)))) (map ratio_of c.deref.result.now)) (times_each z (ratios_of numbers))
    (λ (v : Vec Fraction Global). ratios_of v.items) c.products.result c.products.ensures
    (λ r h. subst (λ y. times_each y (ratios_of numbers) r) (back z c.requires)
    (subst (λ (l : List Fraction). times_each (cast_signed w128 (cast_unsigned w128 z)) (map ratio_of l) r) c.deref.ensures.value h))
