use Rattle.std.proofs.Common.{rules, ◌≡◌, ◌≢◌, ◌<◌, length, length-set, get_or-set_other, le_refl, arith, ◌∙◌}
use Rattle.std.specs.Prelude.{ℤ, pos, FitsSigned, ◌+ℤ◌, ◌*ℤ◌}
use Rattle.std.specs.Int.{w64}
use Rattle.std.proofs.lemmas.Int.{to_z-of_z, ints}
use Rattle.rg_integers.specs.Sum.{number_at}
use Rattle.rg_linear.proofs.TableRows.{below_set}
use Rattle.rg_revised.proofs.reading.add_once.Goals as goal

pub loop-s-preserved : goal.loop-s-preserved
loop-s-preserved c =
    let fx : FitsSigned w64 (number_at c.loop-s.numbers c.loop-s.s) = search rules in
    let fy : FitsSigned w64 (number_at c.args.row.now c.loop-s.s) = search rules in
    let fz : FitsSigned w64 c.sum.result = search rules in
    let x = to_z-of_z w64 (number_at c.loop-s.numbers c.loop-s.s) fx in
    let y = to_z-of_z w64 (number_at c.args.row.now c.loop-s.s) fy in
    let z = to_z-of_z w64 c.sum.result fz in
    let lt : c.loop-s.s < length c.loop-s.numbers = omega arith in
    let same = c.loop-s.invariant.left c.loop-s.s (le_refl c.loop-s.s) in
    let is = rw (x, y, same) at c.sum.ensures in
    record {
      same_length = length-set c.loop-s.numbers c.loop-s.s _ ∙ c.loop-s.invariant.same_length;
      done = rw z (below_set (λ k v. v ≡ number_at c.args.numbers.now k +ℤ (pos 1 *ℤ number_at c.args.row.now k)) c.loop-s.numbers c.loop-s.s c.sum.result lt c.loop-s.invariant.done
          (is ∙ once (number_at c.args.numbers.now c.loop-s.s) (number_at c.args.row.now c.loop-s.s)));
      left = λ k ge. let ne : k ≢ c.loop-s.s = omega arith in get_or-set_other c.loop-s.numbers c.loop-s.s k _ (pos 0) ne ∙ c.loop-s.invariant.left k (omega arith);
    }
  where
    once : (a x : ℤ) → a +ℤ x ≡ a +ℤ (pos 1 *ℤ x)
    once a x = omega (arith, ints)
