use Rattle.std.proofs.Common.{◌≡◌, ◌<◌, length, arith}
use Rattle.std.specs.Prelude.{neg_ℤ}
use Rattle.rg_integers.specs.Range.{InRange}
use Rattle.rg_integers.specs.Sum.{number_at}
use Rattle.rg_integers.proofs.Casts.{back}
use Rattle.rg_feasible.proofs.Writing.{in_range-set, turned}
use Rattle.rg_linear.proofs.TableRows.{below_set}
use Rattle.rg_feasible.proofs.row.turn.Goals as goal

pub loop-n-preserved : goal.loop-n-preserved
loop-n-preserved c =
    let x = back (number_at c.args.pivot.now c.loop-n.n) (c.requires.pivot_in_range c.loop-n.n (omega arith)) in
    let z = back c.negate-z.result c.negate-z.ensures.in_range in
    let e = rw x at c.negate-z.ensures.value in
    let lt : c.loop-n.n < length c.loop-n.row = omega arith in
    record {
      done = below_set (λ k v. v ≡ neg_ℤ (number_at c.args.pivot.now k)) c.loop-n.row c.loop-n.n _ lt c.loop-n.invariant.done (rw z e);
      in_range = below_set (λ k v. InRange v) c.loop-n.row c.loop-n.n _ lt c.loop-n.invariant.in_range (rw z c.negate-z.ensures.in_range);
    }

pub returns-clause-turned : goal.returns-clause-turned
returns-clause-turned c =
    let x = back (number_at c.args.pivot.now c.args.p) (c.requires.pivot_in_range c.args.p (omega arith)) in
    let y = back (number_at c.args.pivot.now 0) (c.requires.pivot_in_range 0 (omega arith)) in
    turned c.args.pivot.now c.loop-n.row c.args.p _ _ (omega arith) c.requires.after_constant (omega arith) (λ k lt. c.loop-n.invariant.done k (omega arith)) x y

pub returns-clause-in_range : goal.returns-clause-in_range
returns-clause-in_range c =
    let x = back (number_at c.args.pivot.now c.args.p) (c.requires.pivot_in_range c.args.p (omega arith)) in
    let y = back (number_at c.args.pivot.now 0) (c.requires.pivot_in_range 0 (omega arith)) in
    in_range-set _ c.args.p _ (in_range-set c.loop-n.row 0 _ (λ k lt. c.loop-n.invariant.in_range k (omega arith))
    (rw x (c.requires.pivot_in_range c.args.p (omega arith)))) (rw y (c.requires.pivot_in_range 0 (omega arith)))
