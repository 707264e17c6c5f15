use Rattle.std.proofs.Common.{◌≡◌, ◌<◌, length, ◌∙◌, arith}
use Rattle.std.proofs.Math.ListN.{length-set}
use Rattle.std.specs.Prelude.{◌*ℤ◌}
use Rattle.rg_integers.specs.Range.{InRange}
use Rattle.rg_integers.specs.Sign.{sign}
use Rattle.rg_integers.specs.Sum.{number_at}
use Rattle.rg_integers.proofs.Casts.{back}
use Rattle.rg_linear.proofs.TableRows.{below_set}
use Rattle.rg_feasible.proofs.row.copy_signed.Goals as goal

pub loop-n-preserved : goal.loop-n-preserved
loop-n-preserved c =
    let x = back (number_at c.args.row.now c.loop-n.n) (c.requires.in_range c.loop-n.n c.loop-n-test.true) in
    let y = back (number_at c.args.row.now c.args.p) (c.requires.in_range c.args.p c.requires.index) in
    let z = back c.with_sign_of-z.result c.with_sign_of-z.ensures.in_range in
    let e = rw (x, y) at c.with_sign_of-z.ensures.value in
    let lt : c.loop-n.n < length c.loop-n.signed = omega arith in
    record {
      same_length = length-set c.loop-n.signed c.loop-n.n _ ∙ c.loop-n.invariant.same_length;
      done = below_set (λ k v. v ≡ sign (number_at c.args.row.now c.args.p) *ℤ number_at c.args.row.now k) c.loop-n.signed c.loop-n.n _ lt c.loop-n.invariant.done (rw z e);
      in_range = below_set (λ k v. InRange v) c.loop-n.signed c.loop-n.n _ lt c.loop-n.invariant.in_range (rw z c.with_sign_of-z.ensures.in_range);
    }
