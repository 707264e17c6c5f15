use Rattle.std.proofs.Common.{rules, ◌≡◌, ◌≢◌, ◌<◌, length, length-set, get_or-set_other, le_refl, arith, ◌∙◌}
use Rattle.std.specs.Prelude.{pos, FitsSigned, ◌+ℤ◌, ◌*ℤ◌}
use Rattle.std.specs.Int.{w64, w128}
use Rattle.std.proofs.lemmas.Int.{to_z-of_z}
use Rattle.rg_integers.specs.Sum.{number_at}
use Rattle.rg_linear.proofs.TableRows.{below_set}
use Rattle.rg_revised.proofs.long_reading.add_long_row.Goals as goal

pub add_long_product-requires : goal.add_long_product-requires
add_long_product-requires c =
    let fb : FitsSigned w64 c.args.by = search rules in
    let fx : FitsSigned w128 (number_at c.loop-s.sums c.loop-s.s) = search rules in
    let fy : FitsSigned w64 (number_at c.args.row.now c.loop-s.s) = search rules in
    let b = to_z-of_z w64 c.args.by fb in
    let x = to_z-of_z w128 (number_at c.loop-s.sums c.loop-s.s) fx in
    let y = to_z-of_z w64 (number_at c.args.row.now c.loop-s.s) fy in
    let same = c.loop-s.invariant.left c.loop-s.s (le_refl c.loop-s.s) in
    rw (x, b, y, same) (c.requires.sums c.loop-s.s (omega arith))

pub loop-s-preserved : goal.loop-s-preserved
loop-s-preserved c =
    let fb : FitsSigned w64 c.args.by = search rules in
    let fx : FitsSigned w128 (number_at c.loop-s.sums c.loop-s.s) = search rules in
    let fy : FitsSigned w64 (number_at c.args.row.now c.loop-s.s) = search rules in
    let fz : FitsSigned w128 c.add_long_product.result = search rules in
    let b = to_z-of_z w64 c.args.by fb in
    let x = to_z-of_z w128 (number_at c.loop-s.sums c.loop-s.s) fx in
    let y = to_z-of_z w64 (number_at c.args.row.now c.loop-s.s) fy in
    let z = to_z-of_z w128 c.add_long_product.result fz in
    let lt : c.loop-s.s < length c.loop-s.sums = omega arith in
    let same = c.loop-s.invariant.left c.loop-s.s (le_refl c.loop-s.s) in
    let is = rw (x, b, y, same) at c.add_long_product.ensures.value in
    let done = rw b at c.loop-s.invariant.done in
    record {
      same_length = length-set c.loop-s.sums c.loop-s.s _ ∙ c.loop-s.invariant.same_length;
      done = rw (b, z) (below_set (λ k v. v ≡ number_at c.args.sums.now k +ℤ (c.args.by *ℤ number_at c.args.row.now k)) c.loop-s.sums c.loop-s.s c.add_long_product.result lt done is);
      left = λ k ge. let ne : k ≢ c.loop-s.s = omega arith in get_or-set_other c.loop-s.sums c.loop-s.s k _ (pos 0) ne ∙ c.loop-s.invariant.left k (omega arith);
    }
