use Rattle.std.proofs.Common.{arith, rules, below_more}
use Rattle.std.specs.Prelude.{FitsSigned}
use Rattle.std.specs.Int.{w128}
use Rattle.std.proofs.lemmas.Int.{to_z-of_z}
use Rattle.rg_integers.specs.Sum.{number_at}
use Rattle.rg_fraction.proofs.row.check.Goals as goal

pub returns-in-Err : goal.returns-in-Err
returns-in-Err c =
    let fq : FitsSigned w128 (number_at c.args.q.now c.loop-i.i) = search rules in
    let fp : FitsSigned w128 (number_at c.args.p.now c.loop-i.i) = search rules in
    let fb : FitsSigned w128 c.args.b = search rules in
    let fd : FitsSigned w128 c.args.d = search rules in
    let x = to_z-of_z w128 (number_at c.args.q.now c.loop-i.i) fq in
    let y = to_z-of_z w128 (number_at c.args.p.now c.loop-i.i) fp in
    let u = to_z-of_z w128 c.args.b fb in
    let v = to_z-of_z w128 c.args.d fd in
    let h = rw (x, y, u, v, c.requires.pivot, c.requires.entry) at c.in-Err.ensures in
    (c.loop-i.i, record { inside = omega arith; passes = h.0; before = c.loop-i.invariant }, h.1)

pub loop-i-preserved : goal.loop-i-preserved
loop-i-preserved c =
    let fq : FitsSigned w128 (number_at c.args.q.now c.loop-i.i) = search rules in
    let fp : FitsSigned w128 (number_at c.args.p.now c.loop-i.i) = search rules in
    let fb : FitsSigned w128 c.args.b = search rules in
    let fd : FitsSigned w128 c.args.d = search rules in
    let x = to_z-of_z w128 (number_at c.args.q.now c.loop-i.i) fq in
    let y = to_z-of_z w128 (number_at c.args.p.now c.loop-i.i) fp in
    let u = to_z-of_z w128 c.args.b fb in
    let v = to_z-of_z w128 c.args.d fd in
    let h = rw (x, y, u, v, c.requires.pivot, c.requires.entry) at c.in-Ok.ensures in
    below_more _ _ c.loop-i.invariant h.0
