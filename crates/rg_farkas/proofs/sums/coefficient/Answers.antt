use Rattle.std.proofs.Common.{◌+◌, refl, ap, ◌∙◌, arith}
use Rattle.std.specs.Prelude.{◌+ℤ◌}
use Rattle.std.specs.Int.{w128, cast_signed}
use Rattle.std.proofs.lemmas.Int.{ints}
use Rattle.rg_integers.proofs.Casts.{back}
use Rattle.rg_cert_meaning.specs.Expression.{coefficient_in}
use Rattle.rg_case_parts.proofs.Counting.{in_range_between, coefficient_next, nothing_next, whole_sum}
use Rattle.rg_farkas.proofs.sums.coefficient.Goals as goal
use Rattle.rg_farkas.proofs.sums.coefficient.Goals.{in-Some, in_default}

pub loop-entry-preserved : goal.loop-entry-preserved
loop-entry-preserved c =
    let sum = cast_signed w128 c.loop-entry.sum-bits in
    let v = c.args.variable in
    elim c.match-entry.branch [
      | in-Some w ↦
          let r = w.coefficient_of-sum.result in
          let low = w.coefficient_of-sum.ensures.low in
          let high = w.coefficient_of-sum.ensures.high in
          let n = back r (in_range_between r 1 (omega arith) low high) in
          let s = back (sum +ℤ r) (in_range_between (sum +ℤ r) (c.loop-entry.entry-index + 1) (omega arith) (omega (arith, ints)) (omega (arith, ints))) in
          let e = rw (n, s) at w.sum-is in
          record {
            total = coefficient_next c.args.expression.now.terms c.loop-entry.entry-index w.in-Some.term w.in-Some.is v sum _ _
                (e ∙ ap (λ z. sum +ℤ z) w.coefficient_of-sum.ensures.value) c.loop-entry.invariant.total;
            low = omega (arith, ints, e);
            high = omega (arith, ints, e);
          }
      | in_default w ↦
          let e = w.sum-is in
          record {
            total = nothing_next c.args.expression.now.terms c.loop-entry.entry-index (λ ts. coefficient_in ts v) sum _ _ e w.in_default.is c.loop-entry.invariant.total;
            low = let h = c.loop-entry.invariant.low in omega (arith, ints, e);
            high = let h = c.loop-entry.invariant.high in omega (arith, ints, e);
          }
    ]

pub returns-clause-value : goal.returns-clause-value
returns-clause-value c =
    let past = c.loop-entry-test.false in
    whole_sum c.args.expression.now.terms c.loop-entry.entry-index (λ ts. coefficient_in ts c.args.variable) _ _ refl (omega arith) c.loop-entry.invariant.total
