use Rattle.rg_integers.specs.Range.{InRange}
use Rattle.rg_integers.proofs.Casts.{back}
use Rattle.rg_fraction.proofs.fraction.Fraction.of_reduced.Goals as goal

pub invariant_of-result : goal.invariant_of-result
invariant_of-result c =
    let top = c.in-Ok.ensures {u = tt} in
    let bottom = c.in-Ok-evaluate.ensures {u = tt} in
    let n : InRange c.in-Ok.n = rw top.1 top.0.difference in
    let d : InRange c.in-Ok-evaluate.d = rw bottom.1 bottom.0.difference in
    let x = back c.in-Ok.n n in
    let y = back c.in-Ok-evaluate.d d in
    record {
      numerator_in_range = rw x n;
      denominator_in_range = rw y d;
      positive = rw (y, bottom.1) c.requires.positive;
      reduced = rw (x, y, top.1, bottom.1) c.requires.reduced;
    }
