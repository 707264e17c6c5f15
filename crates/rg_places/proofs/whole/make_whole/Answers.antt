use Rattle.std.proofs.Common.{rules, ◌≡◌, Err, Ok, map, ap, sym, subst, ◌∙◌, Vec, Global}
use Rattle.rg_integers.proofs.Casts.{back}
use Rattle.rg_fraction.specs.declared.fraction.Fraction.{Fraction}
use Rattle.rg_fraction.specs.Fractions.{denominator_of}
use Rattle.rg_folds.specs.Fold.{multiple_of_all}
use Rattle.rg_fraction.specs.declared.fold_stop.FoldStop.TheVariants as stop
use Rattle.rg_case_parts.proofs.Multiples.{bottoms}
use Rattle.rg_case_folds.specs.Placing.{made_whole, times_each}
use Rattle.rg_case_folds.proofs.Comes.{comes_by, comes_unless}
use Rattle.rg_places.specs.PointValues.{ratios_of}
use Rattle.rg_places.proofs.PlaceSteps.{made_kept, multiple_fails, products_fail, multiple_makes}
use Rattle.rg_places.proofs.whole.make_whole.Goals as goal

pub returns-then-has_whole_points : goal.returns-then-has_whole_points
returns-then-has_whole_points c = made_kept c.args.class (ratios_of c.args.numbers.items) (sym c.has_whole_points.ensures ∙ c.if-has_whole_points.true)

pub returns-in_err-multiple : goal.returns-in_err-multiple
returns-in_err-multiple c =
    let same : c.from_residual.result ≡ Err (stop.Wide c.in_err-multiple.field-0.0) = search rules in
    let numbers = c.args.numbers.items in
    let multiple = subst (λ l. multiple_of_all l (Err c.in_err-multiple.field-0.0)) (ap (map denominator_of) c.deref.ensures.value ∙ sym (bottoms numbers)) c.in_err-multiple.ensures.value in
    rw same (multiple_fails c.args.class (ratios_of numbers) c.in_err-multiple.field-0.0 (sym c.has_whole_points.ensures ∙ c.if-has_whole_points.false) multiple)

pub returns-in_err-whole : goal.returns-in_err-whole
returns-in_err-whole c =
    let numbers = c.args.numbers.items in
    let m = c.in_ok-multiple.multiple in
    let same : c.from_residual-in_err-whole.result ≡ Err c.in_err-whole.field-0.0 = search rules in
    let multiple = subst (λ l. multiple_of_all l (Ok m)) (ap (map denominator_of) c.deref.ensures.value ∙ sym (bottoms numbers)) c.in_ok-multiple.ensures.value in
    rw same (comes_unless (made_whole c.args.class (ratios_of numbers)) (λ (v : Vec Fraction Global). ratios_of v.items) c.in_err-whole.field-0.0
    (λ w is. products_fail c.args.class (ratios_of numbers) m w (sym c.has_whole_points.ensures ∙ c.if-has_whole_points.false) multiple
    (subst (λ z. times_each z (ratios_of numbers) (Err w)) (back m c.in_ok-multiple.ensures.in_range) (rw is at c.in_err-whole.ensures))))

pub returns : goal.returns
returns c =
    let numbers = c.args.numbers.items in
    let m = c.in_ok-multiple.multiple in
    let products = ratios_of c.in_ok-whole.whole.items in
    let multiple = subst (λ l. multiple_of_all l (Ok m)) (ap (map denominator_of) c.deref.ensures.value ∙ sym (bottoms numbers)) c.in_ok-multiple.ensures.value in
    let are = subst (λ z. times_each z (ratios_of numbers) (Ok products)) (back m c.in_ok-multiple.ensures.in_range) c.in_ok-whole.ensures in
    comes_by _ _ (λ (v : Vec Fraction Global). ratios_of v.items) c.times_marking.result c.times_marking.ensures
    (multiple_makes c.args.class (ratios_of numbers) m products (sym c.has_whole_points.ensures ∙ c.if-has_whole_points.false) multiple are)
