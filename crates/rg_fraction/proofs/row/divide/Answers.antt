use Rattle.std.proofs.Common.{◌≢◌, ◌<◌, ◌∙◌, length, arith, rules, below_more, get_or-set_other, get_or-set_same}
use Rattle.std.specs.Prelude.{FitsSigned}
use Rattle.std.specs.Int.{w128}
use Rattle.std.proofs.lemmas.Int.{to_z-of_z}
use Rattle.rg_integers.specs.Sum.{number_at}
use Rattle.rg_integers.proofs.Casts.{back}
use Rattle.rg_integers.proofs.Order.{positive_differs}
use Rattle.rg_integers.proofs.Signs.{abs_is, abs_positive}
use Rattle.rg_fraction.proofs.row.divide.Goals as goal

pub new-divisor-requires : goal.new-divisor-requires
new-divisor-requires c =
    let fg : FitsSigned w128 c.args.g = search rules in
    rw (c.unsigned_abs.ensures.value, to_z-of_z w128 c.args.g fg) (abs_positive c.args.g (positive_differs c.args.g c.requires.positive))

pub part-z-requires-clause-divides : goal.part-z-requires-clause-divides
part-z-requires-clause-divides c =
    let fq : FitsSigned w128 (number_at c.loop-i.q c.loop-i.i) = search rules in
    let fg : FitsSigned w128 c.args.g = search rules in
    let x = to_z-of_z w128 (number_at c.loop-i.q c.loop-i.i) fq in
    let size = rw (to_z-of_z w128 c.args.g fg) at (c.new-divisor.ensures ∙ c.unsigned_abs.ensures.value) in
    let same = c.loop-i.invariant.left c.loop-i.i (omega arith) in
    rw (size, x, same) (c.requires.divides c.loop-i.i (omega arith))

pub loop-i-preserved : goal.loop-i-preserved
loop-i-preserved c =
    let fq : FitsSigned w128 (number_at c.loop-i.q c.loop-i.i) = search rules in
    let fg : FitsSigned w128 c.args.g = search rules in
    let x = to_z-of_z w128 (number_at c.loop-i.q c.loop-i.i) fq in
    let y = to_z-of_z w128 c.args.g fg in
    let size = rw y at (c.new-divisor.ensures ∙ c.unsigned_abs.ensures.value) in
    let same = c.loop-i.invariant.left c.loop-i.i (omega arith) in
    let z = back c.part-z.result c.part-z.ensures.in_range in
    let e = rw (size, ← abs_is c.args.g c.requires.positive, x, same) at c.part-z.ensures.exact in
    let lt : c.loop-i.i < length c.loop-i.q = omega arith in
    record {
      done = below_more _ _
          (λ k h. let ne : k ≢ c.loop-i.i = omega arith in rw get_or-set_other (c.loop-i.invariant.done k h))
          (rw get_or-set_same (rw (z, y) e));
      fits = below_more _ _
          (λ k h. let ne : k ≢ c.loop-i.i = omega arith in rw get_or-set_other (c.loop-i.invariant.fits k h))
          (rw get_or-set_same (rw z c.part-z.ensures.in_range));
      left = λ k h. let ne : k ≢ c.loop-i.i = omega arith in rw get_or-set_other (c.loop-i.invariant.left k (omega arith));
    }
