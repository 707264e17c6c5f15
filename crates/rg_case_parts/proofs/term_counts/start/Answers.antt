use Rattle.std.proofs.Common.{◌+◌, ◌*◌, ◌^◌, refl, ap, ◌∙◌, arith}
use Rattle.std.specs.Prelude.{◌+ℤ◌}
use Rattle.std.specs.Int.{w128, cast_signed}
use Rattle.std.proofs.lemmas.Int.{ints}
use Rattle.rg_integers.proofs.Casts.{back}
use Rattle.rg_case_folds.specs.Rewriting.{start_of}
use Rattle.rg_case_parts.proofs.Counting.{in_range_between, start_next, nothing_next, whole_sum}
use Rattle.rg_case_parts.proofs.term_counts.start.Goals as goal
use Rattle.rg_case_parts.proofs.term_counts.start.Goals.{in-Some, in_default}

pub loop-entry-preserved : goal.loop-entry-preserved
loop-entry-preserved c =
    let sum = cast_signed w128 c.loop-entry.sum-bits in
    elim c.match-entry.branch [
      | in-Some w ↦
          let r = w.start_in-sum.result in
          let small = w.start_in-sum.ensures.bounds in
          let n = back r (in_range_between r (2 ^ 32) (omega arith) (let h = small.0 in omega (arith, ints)) (let h = small.1 in omega (arith, ints))) in
          let s = back (sum +ℤ r) (in_range_between (sum +ℤ r) ((c.loop-entry.entry-index + 1) * 2 ^ 32) (omega arith) (let h = small in omega (arith, ints)) (let h = small in omega (arith, ints))) in
          let e = rw (n, s) at w.sum-is in
          record {
            total = start_next c.args.expression.now.terms c.loop-entry.entry-index w.in-Some.term w.in-Some.is sum _ _
                (e ∙ ap (λ z. sum +ℤ z) w.start_in-sum.ensures.value) c.loop-entry.invariant.total;
            low = let h = small in omega (arith, ints, e);
            high = let h = small in omega (arith, ints, e);
          }
      | in_default w ↦
          let e = w.sum-is in
          record {
            total = nothing_next c.args.expression.now.terms c.loop-entry.entry-index start_of sum _ _ e w.in_default.is c.loop-entry.invariant.total;
            low = let h = c.loop-entry.invariant.low in omega (arith, ints, e);
            high = let h = c.loop-entry.invariant.high in omega (arith, ints, e);
          }
    ]

pub returns-clause-value : goal.returns-clause-value
returns-clause-value c =
    let past = c.loop-entry-test.false in
    whole_sum c.args.expression.now.terms c.loop-entry.entry-index start_of _ _ refl (omega arith) c.loop-entry.invariant.total
