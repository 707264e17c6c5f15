use Rattle.std.proofs.Common.{◌≡◌, ◌≢◌, true, false, arith}
use Rattle.std.specs.Prelude.{ℤ, pos, neg_ℤ, ◌<ℤ◌, int_lt}
use Rattle.std.proofs.lemmas.Int.{ints}
use Rattle.rg_integers.proofs.Casts.{back}
use Rattle.rg_integers.proofs.Divisors.{IsGcd-neg}
use Rattle.rg_fraction.proofs.fraction.from_reduced.Goals as goal

above : (z : ℤ) → int_lt z (pos 0) ≡ false → z ≢ pos 0 → pos 0 <ℤ z
above z h ne = omega (arith, ints)

turned : (z : ℤ) → int_lt z (pos 0) ≡ true → pos 0 <ℤ neg_ℤ z
turned z h = omega (arith, ints)

pub invariant_of-result : goal.invariant_of-result
invariant_of-result c =
    let t = back c.args.top c.requires.top_in_range in
    let b = back c.args.bottom c.requires.bottom_in_range in
    let x = back c.negate-numerator.result c.negate-numerator.ensures.in_range in
    let y = back c.negate-denominator.result c.negate-denominator.ensures.in_range in
    let m = rw t at c.negate-numerator.ensures.value in
    let n = rw b at c.negate-denominator.ensures.value in
    let h = rw b at c.if-bottom-lt0.true in
    record {
      numerator_in_range = rw x c.negate-numerator.ensures.in_range;
      denominator_in_range = rw y c.negate-denominator.ensures.in_range;
      positive = rw (y, n) (turned c.args.bottom h);
      reduced = rw (x, y, m, n) (IsGcd-neg c.args.top c.args.bottom 1 c.requires.reduced);
    }

pub invariant_of-result-2 : goal.invariant_of-result-2
invariant_of-result-2 c =
    let t = back c.args.top c.requires.top_in_range in
    let b = back c.args.bottom c.requires.bottom_in_range in
    let h = rw b at c.if-bottom-lt0.false in
    record {
      numerator_in_range = rw t c.requires.top_in_range;
      denominator_in_range = rw b c.requires.bottom_in_range;
      positive = rw b (above c.args.bottom h c.requires.nonzero);
      reduced = rw (t, b) c.requires.reduced;
    }
