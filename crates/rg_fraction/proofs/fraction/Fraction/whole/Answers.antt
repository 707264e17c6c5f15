use Rattle.std.proofs.Common.{arith}
use Rattle.rg_integers.proofs.Casts.{back}
use Rattle.rg_fraction.proofs.Ones.{one_is_reduced}
use Rattle.rg_fraction.proofs.fraction.Fraction.whole.Goals as goal

pub invariant_of-result : goal.invariant_of-result
invariant_of-result c =
    let n = back c.args.n c.requires in
    record {
      numerator_in_range = rw n c.requires;
      denominator_in_range = omega arith;
      positive = omega arith;
      reduced = one_is_reduced _;
    }
