use Rattle.std.proofs.Common.{arith}
use Rattle.std.proofs.lemmas.Nat.Gcd.{IsGcd-from_zero, IsGcd-from_mod}
use Rattle.rg_fraction.proofs.divisor.gcd_of_words.Goals as goal

pub loop-y-preserved : goal.loop-y-preserved
loop-y-preserved c = record {
  divisors = λ g h. c.loop-y.invariant.divisors g (IsGcd-from_mod _ _ g h);
  bound = omega arith;
}

pub returns-clause-greatest : goal.returns-clause-greatest
returns-clause-greatest c = c.loop-y.invariant.divisors _ (IsGcd-from_zero _ _ (omega arith))
