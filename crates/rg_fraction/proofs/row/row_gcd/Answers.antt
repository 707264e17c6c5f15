use Rattle.std.proofs.Common.{rules, ◌≡◌, below_more, subst, arith}
use Rattle.std.specs.Prelude.{pos, unsigned_abs}
use Rattle.std.specs.Int.{◌∣◌}
use Rattle.std.proofs.lemmas.Nat.Gcd.{dvd_trans}
use Rattle.std.proofs.Math.Nat.{one-dvd}
use Rattle.rg_integers.specs.Sum.{number_at}
use Rattle.rg_integers.proofs.Casts.{back}
use Rattle.rg_fraction.proofs.row.row_gcd.Goals as goal

pub loop-number-preserved : goal.loop-number-preserved
loop-number-preserved c =
    let i = c.loop-number.number-index in
    let x = back (number_at c.args.row.now i) (c.requires i c.loop-number-test.true) in
    let h = rw x at c.gcd-divisor.ensures.greatest in
    rw (back c.gcd-divisor.result c.gcd-divisor.ensures.in_range) (record {
      divides = below_more _ _ (λ k lt. dvd_trans _ h.1 (c.loop-number.invariant.divides k lt)) h.0;
      greatest = λ d each. h.2 d (each i (omega arith)) (c.loop-number.invariant.greatest d (λ k lt. each k (omega arith)));
      not_negative = c.gcd-divisor.ensures.not_negative;
      in_range = c.gcd-divisor.ensures.in_range;
    })

pub returns-then-divisor-eq1-clause-value : goal.returns-then-divisor-eq1-clause-value
returns-then-divisor-eq1-clause-value c =
    let i = c.loop-number.number-index in
    let x = back (number_at c.args.row.now i) (c.requires i c.loop-number-test.true) in
    let one : c.gcd-divisor.result ≡ pos 1 = search (rules, back c.gcd-divisor.result c.gcd-divisor.ensures.in_range, c.if-divisor-eq1.true) in
    let h = rw x at c.gcd-divisor.ensures.greatest in
    record {
      divides = λ k lt. one-dvd _;
      greatest = λ d each. subst (λ g. d ∣ unsigned_abs g) one (h.2 d (each i (omega arith)) (c.loop-number.invariant.greatest d (λ k lt. each k (omega arith))));
    }
