use Rattle.rg_integers.proofs.Casts.{back}
use Rattle.rg_integers.proofs.Divisors.{IsGcd-neg_first}
use Rattle.rg_fraction.proofs.fraction.Fraction.opposite.Goals as goal

pub invariant_of-result : goal.invariant_of-result
invariant_of-result c =
    let n = back c.args.self.numerator c.args.self.numerator_in_range in
    let d = back c.args.self.denominator c.args.self.denominator_in_range in
    let x = back c.negate-numerator.result c.negate-numerator.ensures.in_range in
    let v = rw n at c.negate-numerator.ensures.value in
    record {
      numerator_in_range = rw x c.negate-numerator.ensures.in_range;
      denominator_in_range = rw d c.args.self.denominator_in_range;
      positive = rw d c.args.self.positive;
      reduced = rw (x, d, v) (IsGcd-neg_first c.args.self.numerator _ 1 c.args.self.reduced);
    }
