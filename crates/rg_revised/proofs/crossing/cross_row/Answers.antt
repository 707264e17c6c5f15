use Rattle.std.proofs.Common.{rules, ◌≡◌, ◌<◌, ◌≤◌, length, length-set, arith, ◌∙◌}
use Rattle.std.specs.Prelude.{FitsSigned, ◌*ℤ◌, ◌-ℤ◌}
use Rattle.std.specs.Int.{w64, w128}
use Rattle.std.proofs.lemmas.Int.{to_z-of_z}
use Rattle.rg_integers.specs.Range.{InRange}
use Rattle.rg_integers.specs.Sum.{number_at}
use Rattle.rg_linear.proofs.TableRows.{below_set}
use Rattle.rg_revised.proofs.Crossed.{crossed_row}
use Rattle.rg_revised.proofs.crossing.cross_row.Goals as goal

pub loop-n-preserved : goal.loop-n-preserved
loop-n-preserved c =
    let fp : FitsSigned w64 (number_at c.args.pivot.now.numbers.now c.args.pivot.now.p) = search rules in
    let fl : FitsSigned w64 (number_at c.args.row.now c.args.pivot.now.p) = search rules in
    let fx : FitsSigned w64 (number_at c.args.row.now c.loop-n.n) = search rules in
    let fy : FitsSigned w64 (number_at c.args.pivot.now.numbers.now c.loop-n.n) = search rules in
    let fz : FitsSigned w128 c.short_term.result = search rules in
    let p = to_z-of_z w64 (number_at c.args.pivot.now.numbers.now c.args.pivot.now.p) fp in
    let l = to_z-of_z w64 (number_at c.args.row.now c.args.pivot.now.p) fl in
    let x = to_z-of_z w64 (number_at c.args.row.now c.loop-n.n) fx in
    let y = to_z-of_z w64 (number_at c.args.pivot.now.numbers.now c.loop-n.n) fy in
    let z = to_z-of_z w128 c.short_term.result fz in
    let same = c.loop-n.invariant.same_length in
    let lt : c.loop-n.n < length c.loop-n.crossed = omega arith in
    let is = rw (x, y, p, l) at c.short_term.ensures.value in
    let done = rw (p, l) at c.loop-n.invariant.done in
    record {
      same_length = length-set c.loop-n.crossed c.loop-n.n _ ∙ same;
      done = rw (p, l, z)
          (below_set (λ k v. v ≡ (number_at c.args.row.now k *ℤ number_at c.args.pivot.now.numbers.now c.args.pivot.now.p)
          -ℤ (number_at c.args.pivot.now.numbers.now k *ℤ number_at c.args.row.now c.args.pivot.now.p))
          c.loop-n.crossed c.loop-n.n c.short_term.result lt done is);
      in_range = rw z (below_set (λ k v. InRange v) c.loop-n.crossed c.loop-n.n c.short_term.result lt c.loop-n.invariant.in_range c.short_term.ensures.in_range);
    }

pub returns : goal.returns
returns c =
    let fp : FitsSigned w64 (number_at c.args.pivot.now.numbers.now c.args.pivot.now.p) = search rules in
    let fl : FitsSigned w64 (number_at c.args.row.now c.args.pivot.now.p) = search rules in
    let fo : FitsSigned w64 c.args.pivot.now.over = search rules in
    let fz : FitsSigned w128 c.signed_product.result = search rules in
    let p = to_z-of_z w64 (number_at c.args.pivot.now.numbers.now c.args.pivot.now.p) fp in
    let l = to_z-of_z w64 (number_at c.args.row.now c.args.pivot.now.p) fl in
    let o = to_z-of_z w64 c.args.pivot.now.over fo in
    let z = to_z-of_z w128 c.signed_product.result fz in
    let end : length c.args.row.now ≤ c.loop-n.n = omega arith in
    let done = rw (p, l) at c.loop-n.invariant.done in
    let is = rw (o, l) at c.signed_product.ensures.value in
    rw z (crossed_row c.args.pivot.now.numbers.now c.args.row.now c.loop-n.crossed c.args.pivot.now.over c.args.pivot.now.p c.args.pivot.now.negative c.signed_product.result
    c.loop-n.invariant.same_length c.requires.index (λ k lt. done k (omega arith)) (λ k lt. c.loop-n.invariant.in_range k (omega arith)) is c.signed_product.ensures.in_range)
