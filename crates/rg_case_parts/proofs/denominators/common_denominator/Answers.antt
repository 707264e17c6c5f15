use Rattle.std.proofs.Common.{rules, ◌≡◌, Ok, Err, map, ap, subst, sym, ◌∙◌}
use Rattle.std.specs.Prelude.{pos}
use Rattle.std.specs.Int.{w128, cast_signed}
use Rattle.std.proofs.lemmas.List.{length-map, get_or-map}
use Rattle.rg_integers.proofs.Casts.{back}
use Rattle.rg_fraction.specs.Fractions.{denominator_of}
use Rattle.rg_folds.specs.Fold.{common_multiple, multiple_of_all}
use Rattle.rg_case_folds.proofs.Signs.{multiple_positive}
use Rattle.rg_case_parts.proofs.Multiples.{multiple_next, multiple_fails}
use Rattle.rg_case_parts.proofs.denominators.common_denominator.Goals as goal

pub returns-in_err-multiple-clause-value : goal.returns-in_err-multiple-clause-value
returns-in_err-multiple-clause-value c =
    let same : c.from_residual.result ≡ Err c.in_err-multiple.field-0.0 = search rules in
    let numbers = map denominator_of c.in-Some.rest.now in
    let sum = cast_signed w128 c.loop-fraction.multiple-bits in
    let number = get_or-map denominator_of c.in-Some.rest.now c.loop-fraction.fraction-index c.fraction-item.result (pos 1) c.loop-fraction-test.true
    ∙ ap denominator_of (sym c.fraction-item.is) ∙ sym c.denominator.ensures.value ∙ sym (back c.denominator.result c.denominator.ensures.in_range) in
    rw same (multiple_fails numbers c.loop-fraction.fraction-index (pos 1) (simp length-map c.loop-fraction-test.true) sum
    (multiple_of_all (map denominator_of c.args.fractions.now)) c.loop-fraction.invariant.so_far c.in_err-multiple.field-0.0
    (subst (λ z. common_multiple sum z (Err c.in_err-multiple.field-0.0)) (sym number) c.in_err-multiple.ensures.value))

pub loop-fraction-preserved : goal.loop-fraction-preserved
loop-fraction-preserved c =
    let numbers = map denominator_of c.in-Some.rest.now in
    let sum = cast_signed w128 c.loop-fraction.multiple-bits in
    let own = back c.denominator.result c.denominator.ensures.in_range in
    let number = get_or-map denominator_of c.in-Some.rest.now c.loop-fraction.fraction-index c.fraction-item.result (pos 1) c.loop-fraction-test.true
    ∙ ap denominator_of (sym c.fraction-item.is) ∙ sym c.denominator.ensures.value in
    let joins = rw own at c.in_ok-multiple.ensures.value in
    rw (back c.in_ok-multiple.multiple c.in_ok-multiple.ensures.in_range) (record {
      so_far = multiple_next numbers c.loop-fraction.fraction-index (pos 1) (simp length-map c.loop-fraction-test.true) sum
          (multiple_of_all (map denominator_of c.args.fractions.now)) c.loop-fraction.invariant.so_far c.in_ok-multiple.multiple
          (subst (λ z. common_multiple sum z (Ok c.in_ok-multiple.multiple)) (sym number) joins);
      in_range = c.in_ok-multiple.ensures.in_range;
      positive = multiple_positive sum c.denominator.result c.in_ok-multiple.multiple c.loop-fraction.invariant.positive c.denominator.ensures.positive joins;
    })
