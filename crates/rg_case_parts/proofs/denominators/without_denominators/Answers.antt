use Rattle.std.proofs.Common.{rules, ◌≡◌, Ok, Err, map, length, subst, sym, ap, ◌∙◌}
use Rattle.std.specs.Prelude.{pos}
use Rattle.std.specs.Int.{w128, cast_signed, cast_unsigned}
use Rattle.std.proofs.lemmas.List.{length-map}
use Rattle.rg_integers.proofs.Casts.{back}
use Rattle.rg_folds.specs.Fold.{ratio_of, whole, mul, each, multiple_of_all}
use Rattle.rg_case_folds.specs.Rewriting.{scaled_fold}
use Rattle.rg_fraction.specs.Fractions.{numerator_of}
use Rattle.rg_fraction.proofs.Ones.{is_one}
use Rattle.rg_fraction.specs.declared.fold_stop.FoldStop.TheVariants as stop
use Rattle.rg_case_folds.proofs.Comes.{comes_unless}
use Rattle.rg_case_parts.specs.WholeNumbers.{scaled_of}
use Rattle.rg_case_parts.proofs.Multiples.{bottoms, tops}
use Rattle.rg_case_folds.proofs.Items.{each_length}
use Rattle.rg_case_parts.proofs.Multiples.{scaled_unmultiplied, scaled_unmade, scaled_made, all_times_one}
use Rattle.rg_case_parts.proofs.denominators.without_denominators.Goals as goal

pub returns-in_err-multiple-clause-comes : goal.returns-in_err-multiple-clause-comes
returns-in_err-multiple-clause-comes c =
    let same : c.from_residual.result ≡ Err (stop.Wide c.in_err-multiple.field-0.0) = search rules in
    let ratios = map ratio_of c.args.fractions.now in
    rw same (scaled_unmultiplied ratios c.in_err-multiple.field-0.0
    (subst (λ l. multiple_of_all l (Err c.in_err-multiple.field-0.0)) (sym (bottoms c.args.fractions.now)) c.in_err-multiple.ensures.value))

pub returns-in_err-products-clause-comes : goal.returns-in_err-products-clause-comes
returns-in_err-products-clause-comes c =
    let same : c.from_residual-in_err-products.result ≡ Err c.in_err-products.field-0.0 = search rules in
    let ratios = map ratio_of c.args.fractions.now in
    let m = c.in_ok-multiple.multiple in
    let multiple = subst (λ l. multiple_of_all l (Ok m)) (sym (bottoms c.args.fractions.now)) c.in_ok-multiple.ensures.value in
    rw same (comes_unless (scaled_fold ratios) scaled_of c.in_err-products.field-0.0
    (λ w is. scaled_unmade ratios m multiple w
    (subst (λ z. each (λ f. mul f (whole z)) ratios (Err w)) (back m c.in_ok-multiple.ensures.in_range) (rw is at c.in_err-products.ensures))))

pub returns-then-multiple-eq1-clause-comes : goal.returns-then-multiple-eq1-clause-comes
returns-then-multiple-eq1-clause-comes c =
    let fractions = c.args.fractions.now in
    let ratios = map ratio_of fractions in
    let m = c.in_ok-multiple.multiple in
    let n = back m c.in_ok-multiple.ensures.in_range in
    let one : m ≡ pos 1 = is_one m c.in_ok-multiple.ensures.in_range c.if-multiple-eq1.true in
    let multiple = subst (λ l. multiple_of_all l (Ok m)) (sym (bottoms fractions)) c.in_ok-multiple.ensures.value in
    let made = subst (λ z. each (λ f. mul f (whole z)) ratios (Ok ratios)) (sym one) (all_times_one fractions) in
    let numbers = c.in_ok-numbers.ensures.numerators ∙ sym (tops fractions) in
    subst (λ s. scaled_fold ratios (Ok s)) (λ i. record { multiple = sym n i; numbers = sym numbers i }) (scaled_made ratios m multiple ratios made)

pub returns-clause-comes : goal.returns-clause-comes
returns-clause-comes c =
    let ratios = map ratio_of c.args.fractions.now in
    let products = c.in_ok-products.products.items in
    let m = c.in_ok-multiple.multiple in
    let n = back m c.in_ok-multiple.ensures.in_range in
    let multiple = subst (λ l. multiple_of_all l (Ok m)) (sym (bottoms c.args.fractions.now)) c.in_ok-multiple.ensures.value in
    let made = subst (λ z. each (λ f. mul f (whole z)) ratios (Ok (map ratio_of products))) n c.in_ok-products.ensures in
    let numbers = c.in_ok-numbers-2.ensures.numerators ∙ ap (map numerator_of) c.deref.ensures.value ∙ sym (tops products) in
    subst (λ s. scaled_fold ratios (Ok s)) (λ i. record { multiple = sym n i; numbers = sym numbers i }) (scaled_made ratios m multiple (map ratio_of products) made)

pub returns-clause-one_each : goal.returns-clause-one_each
returns-clause-one_each c =
    let z = cast_signed w128 (cast_unsigned w128 c.in_ok-multiple.multiple) in
    let products = c.in_ok-products.products.items in
    ap length (c.in_ok-numbers-2.ensures.numerators ∙ ap (map numerator_of) c.deref.ensures.value)
    ∙ length-map products numerator_of ∙ sym (length-map products ratio_of) ∙ each_length (λ f. mul f (whole z)) (map ratio_of c.args.fractions.now)
    (map ratio_of products) c.in_ok-products.ensures ∙ length-map c.args.fractions.now ratio_of
