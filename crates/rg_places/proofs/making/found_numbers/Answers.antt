use Rattle.std.proofs.Common.{rules, ◌≡◌, [], ◌∷◌, ◌++◌, Err, Ok, ap, sym, subst, ◌∙◌, Vec, Global}
use Rattle.std.proofs.lemmas.List.{length-map, map-append}
use Rattle.rg_theory.specs.System.{labels}
use Rattle.rg_folds.specs.Fold.{each, ratio_of}
use Rattle.rg_case_folds.specs.Rewriting.{all_numbers}
use Rattle.rg_case_folds.specs.Placing.{effect_fold, made_whole}
use Rattle.rg_case_parts.specs.SettingViews.{shown_setting}
use Rattle.rg_places.specs.PointValues.{ratios_of, point_start, point_value}
use Rattle.rg_fraction.specs.declared.fraction.Fraction.{Fraction}
use Rattle.rg_places.specs.Steps.{found_fold}
use Rattle.rg_case_folds.proofs.Comes.{comes_by, comes_unless, comes_value}
use Rattle.rg_places.proofs.PointPlaces.{value_is}
use Rattle.rg_places.proofs.PlaceSteps.{effects_fail, effects_make, found_length}
use Rattle.rg_places.proofs.making.found_numbers.Goals as goal

pub returns-in_err-numbers-clause-comes : goal.returns-in_err-numbers-clause-comes
returns-in_err-numbers-clause-comes c =
    let s = shown_setting c.args.setting in
    let start = point_start s.class c.args.point.now in
    let values = point_value s.lts s.basis s.class c.args.point.now in
    let same : c.from_residual-in_err-numbers.result ≡ Err c.in_err-numbers.field-0.0 = search rules in
    let value = value_is s.lts s.basis s.class c.args.point.now c.in_ok-columns.columns.items c.in_ok-columns.ensures.columns (c.in_ok-columns.ensures.values ∙ c.start_and_values.ensures.values) in
    rw same (comes_unless (found_fold s.lts s.basis s.class start values) (λ (v : Vec Fraction Global). ratios_of v.items) c.in_err-numbers.field-0.0
    (λ w is. effects_fail s.lts s.basis s.class start values w
    (subst (λ v. each (effect_fold s.lts s.basis v) (all_numbers (labels s.lts)) (Err w)) value (rw (is, c.deref-3.ensures.value) at c.in_err-numbers.ensures))))

pub returns-clause-comes : goal.returns-clause-comes
returns-clause-comes c =
    let s = shown_setting c.args.setting in
    let start = point_start s.class c.args.point.now in
    let values = point_value s.lts s.basis s.class c.args.point.now in
    let effects = ratios_of c.in_ok-numbers.numbers.items in
    let value = value_is s.lts s.basis s.class c.args.point.now c.in_ok-columns.columns.items c.in_ok-columns.ensures.columns (c.in_ok-columns.ensures.values ∙ c.start_and_values.ensures.values) in
    let made = rw c.deref-3.ensures.value at c.in_ok-numbers.ensures in
    let numbers = ap ratios_of c.in_ok-push.ensures.items ∙ map-append ratio_of c.in_ok-numbers.numbers.items _ ∙ ap (λ r. effects ++ r ∷ []) c.start_and_values.ensures.start in
    comes_by (made_whole s.class (ratios_of c.push.new.self.items)) (found_fold s.lts s.basis s.class start values) (λ (v : Vec Fraction Global). ratios_of v.items)
    c.make_whole.result c.make_whole.ensures
    (λ r h. effects_make s.lts s.basis s.class start values effects
    (subst (λ f. each (effect_fold s.lts s.basis f) (all_numbers (labels s.lts)) (Ok effects)) value made) r
    (subst (λ l. made_whole s.class l r) numbers h))

pub returns-clause-length : goal.returns-clause-length
returns-clause-length c =
    let s = shown_setting c.args.setting in
    let start = point_start s.class c.args.point.now in
    let values = point_value s.lts s.basis s.class c.args.point.now in
    comes_value (found_fold s.lts s.basis s.class start values) (λ (v : Vec Fraction Global). ratios_of v.items) _ c.make_whole.result (returns-clause-comes c)
    (λ v h. sym (length-map v.items ratio_of) ∙ found_length s.lts s.basis s.class start values (ratios_of v.items) h)
