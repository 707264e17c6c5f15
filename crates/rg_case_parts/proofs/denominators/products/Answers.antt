use Rattle.std.proofs.Common.{rules, ◌≡◌, Ok, Err, map, ap, subst, sym, ◌∙◌}
use Rattle.std.specs.Prelude.{pos}
use Rattle.std.specs.Int.{w128, cast_signed, cast_unsigned}
use Rattle.std.proofs.lemmas.List.{length-map, get_or-map}
use Rattle.rg_integers.proofs.Casts.{back}
use Rattle.rg_folds.specs.Fold.{ratio_of, whole, each, mul, shown_result}
use Rattle.rg_folds.proofs.FoldLemmas.{mul_step}
use Rattle.rg_fraction.specs.declared.fold_stop.FoldStop.TheVariants as stop
use Rattle.rg_folds.proofs.Folding.{whole_is}
use Rattle.rg_case_folds.proofs.Items.{map_push}
use Rattle.rg_case_folds.proofs.Items.{item_next, item_fails, items_end}
use Rattle.rg_fraction.proofs.Ones.{is_one}
use Rattle.rg_case_parts.proofs.Multiples.{all_times_one}
use Rattle.rg_case_parts.proofs.denominators.products.Goals as goal

pub returns-then-number-eq1 : goal.returns-then-number-eq1
returns-then-number-eq1 c =
    let items : c.in_ok-same.same.items ≡ c.args.fractions.now = search rules in
    subst (λ n. each (λ f. mul f (whole n)) (map ratio_of c.args.fractions.now) (Ok (map ratio_of c.in_ok-same.same.items))) (sym (is_one c.args.number c.requires c.if-number-eq1.true))
    (subst (λ l. each (λ f. mul f (whole (pos 1))) (map ratio_of c.args.fractions.now) (Ok (map ratio_of l))) (sym items) (all_times_one c.args.fractions.now))

pub returns-in_err-mul : goal.returns-in_err-mul
returns-in_err-mul c =
    let same : c.from_residual-in_err-mul.result ≡ Err (stop.Wide c.in_err-mul.field-0.0) = search rules in
    let n = cast_signed w128 (cast_unsigned w128 c.args.number) in
    let item = c.fraction-item.result in
    let ratios = map ratio_of c.args.fractions.now in
    let step = subst (λ g. mul (ratio_of item) g (shown_result ratio_of c.mul.result)) (whole_is c.new-factor.result n c.new-factor.ensures)
    (mul_step item c.new-factor.result c.mul.result c.mul.ensures.product) in
    let number = get_or-map ratio_of c.args.fractions.now c.loop-fraction.fraction-index item (ratio_of item) c.loop-fraction-test.true ∙ ap ratio_of (sym c.fraction-item.is) in
    let made = subst (λ f. mul f (whole n) (Err c.in_err-mul.field-0.0)) (sym number) (rw c.in_err-mul.was at step) in
    rw same (subst (λ z. each (λ f. mul f (whole z)) ratios (Err c.in_err-mul.field-0.0)) (back c.args.number c.requires)
    (item_fails (λ f. mul f (whole n)) ratios c.loop-fraction.fraction-index (ratio_of item)
    (map ratio_of c.loop-fraction.products.items) c.loop-fraction.invariant (simp length-map c.loop-fraction-test.true) c.in_err-mul.field-0.0 made))

pub loop-fraction-preserved : goal.loop-fraction-preserved
loop-fraction-preserved c =
    let n = cast_signed w128 (cast_unsigned w128 c.args.number) in
    let item = c.fraction-item.result in
    let ratios = map ratio_of c.args.fractions.now in
    let step = subst (λ g. mul (ratio_of item) g (shown_result ratio_of c.mul.result)) (whole_is c.new-factor.result n c.new-factor.ensures)
    (mul_step item c.new-factor.result c.mul.result c.mul.ensures.product) in
    let number = get_or-map ratio_of c.args.fractions.now c.loop-fraction.fraction-index item (ratio_of item) c.loop-fraction-test.true ∙ ap ratio_of (sym c.fraction-item.is) in
    rw (map_push ratio_of c.loop-fraction.products.items c.push.new.self.items _ c.in_ok-push.ensures.items)
    (item_next (λ f. mul f (whole n)) ratios c.loop-fraction.fraction-index (ratio_of item) (map ratio_of c.loop-fraction.products.items) c.loop-fraction.invariant
    (simp length-map c.loop-fraction-test.true) (ratio_of c.in_ok-mul.field-0)
    (subst (λ f. mul f (whole n) (Ok (ratio_of c.in_ok-mul.field-0))) (sym number) (rw c.in_ok-mul.was at step)))

pub returns : goal.returns
returns c =
    let n = cast_signed w128 (cast_unsigned w128 c.args.number) in
    let ratios = map ratio_of c.args.fractions.now in
    let made = map ratio_of c.loop-fraction.products.items in
    subst (λ z. each (λ f. mul f (whole z)) ratios (Ok made)) (back c.args.number c.requires)
    (items_end (λ f. mul f (whole n)) ratios c.loop-fraction.fraction-index (whole n) made c.loop-fraction.invariant (simp length-map c.loop-fraction-test.false))
