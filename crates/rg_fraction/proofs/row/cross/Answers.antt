use Rattle.std.proofs.Common.{◌≢◌, ◌<◌, length, arith, rules, below_more, get_or-set_other, get_or-set_same}
use Rattle.std.specs.Prelude.{FitsSigned}
use Rattle.std.specs.Int.{w128}
use Rattle.std.proofs.lemmas.Int.{to_z-of_z}
use Rattle.rg_integers.specs.Sum.{number_at}
use Rattle.rg_integers.proofs.Casts.{back}
use Rattle.rg_fraction.proofs.row.cross.Goals as goal

pub value-z-requires : goal.value-z-requires
value-z-requires c =
    let fq : FitsSigned w128 (number_at c.loop-i.q c.loop-i.i) = search rules in
    let fp : FitsSigned w128 (number_at c.args.p.now c.loop-i.i) = search rules in
    let fb : FitsSigned w128 c.args.b = search rules in
    let fd : FitsSigned w128 c.args.d = search rules in
    let x = to_z-of_z w128 (number_at c.loop-i.q c.loop-i.i) fq in
    let y = to_z-of_z w128 (number_at c.args.p.now c.loop-i.i) fp in
    let u = to_z-of_z w128 c.args.b fb in
    let v = to_z-of_z w128 c.args.d fd in
    let same = c.loop-i.invariant.left c.loop-i.i (omega arith) in
    rw (x, u, y, v, same, c.requires.pivot, c.requires.entry) (c.requires.fits c.loop-i.i (omega arith))

pub loop-i-preserved : goal.loop-i-preserved
loop-i-preserved c =
    let fq : FitsSigned w128 (number_at c.loop-i.q c.loop-i.i) = search rules in
    let fp : FitsSigned w128 (number_at c.args.p.now c.loop-i.i) = search rules in
    let fb : FitsSigned w128 c.args.b = search rules in
    let fd : FitsSigned w128 c.args.d = search rules in
    let x = to_z-of_z w128 (number_at c.loop-i.q c.loop-i.i) fq in
    let y = to_z-of_z w128 (number_at c.args.p.now c.loop-i.i) fp in
    let u = to_z-of_z w128 c.args.b fb in
    let v = to_z-of_z w128 c.args.d fd in
    let same = c.loop-i.invariant.left c.loop-i.i (omega arith) in
    let z = back c.value-z.result c.value-z.ensures.in_range in
    let e = rw (x, u, y, v, same, c.requires.pivot, c.requires.entry) at c.value-z.ensures.value in
    let lt : c.loop-i.i < length c.loop-i.q = omega arith in
    record {
      done = below_more _ _
          (λ k h. let ne : k ≢ c.loop-i.i = omega arith in rw get_or-set_other (c.loop-i.invariant.done k h))
          (rw get_or-set_same (rw z e));
      left = λ k h. let ne : k ≢ c.loop-i.i = omega arith in rw get_or-set_other (c.loop-i.invariant.left k (omega arith));
    }
