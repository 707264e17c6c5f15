use Rattle.std.proofs.Common.{arith}
use Rattle.std.proofs.lemmas.Nat.Gcd.{IsGcd-swap, IsGcd-from_zero}
use Rattle.rg_fraction.proofs.Twos.{step_below, step_above}
use Rattle.rg_fraction.proofs.binary.gcd_with_odd.Goals as goal

pub loop-x-preserved-then-z-y : goal.loop-x-preserved-then-z-y
loop-x-preserved-then-z-y c = record {
  divisors = λ g h. c.loop-x.invariant.divisors g
      (step_below _ _ _ g c.odd_part-z.ensures.part c.loop-x.invariant.odd c.if-z-y.true h);
  odd = c.odd_part-z.ensures.odd;
  bound = omega arith;
}

pub loop-x-preserved : goal.loop-x-preserved
loop-x-preserved c = record {
  divisors = λ g h. c.loop-x.invariant.divisors g
      (step_above _ _ _ g c.odd_part-z.ensures.part c.loop-x.invariant.odd c.if-z-y.false h);
  odd = c.loop-x.invariant.odd;
  bound = c.loop-x.invariant.bound;
}

pub returns-clause-greatest : goal.returns-clause-greatest
returns-clause-greatest c = c.loop-x.invariant.divisors _ (IsGcd-swap _ _ _ (IsGcd-from_zero _ _ (omega arith)))
