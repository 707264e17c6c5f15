use Rattle.std.proofs.Common.{rules}
use Rattle.std.specs.Prelude.{FitsSigned}
use Rattle.std.specs.Int.{w128}
use Rattle.std.proofs.lemmas.Int.{to_z-of_z}
use Rattle.rg_integers.proofs.Casts.{back}
use Rattle.rg_integers.proofs.term.value.Goals as goal

pub times-requires : goal.times-requires
times-requires c =
    let fa : FitsSigned w128 c.args.t.a = search rules in
    let fb : FitsSigned w128 c.args.t.b = search rules in
    rw (to_z-of_z w128 c.args.t.a fa, to_z-of_z w128 c.args.t.b fb) c.requires.left

pub times-requires-2 : goal.times-requires-2
times-requires-2 c =
    let fc : FitsSigned w128 c.args.t.c = search rules in
    let fd : FitsSigned w128 c.args.t.d = search rules in
    rw (to_z-of_z w128 c.args.t.c fc, to_z-of_z w128 c.args.t.d fd) c.requires.right

pub minus-requires : goal.minus-requires
minus-requires c =
    let fa : FitsSigned w128 c.args.t.a = search rules in
    let fb : FitsSigned w128 c.args.t.b = search rules in
    let fc : FitsSigned w128 c.args.t.c = search rules in
    let fd : FitsSigned w128 c.args.t.d = search rules in
    let m = rw (to_z-of_z w128 c.args.t.a fa, to_z-of_z w128 c.args.t.b fb) at c.times.ensures.value in
    let n = rw (to_z-of_z w128 c.args.t.c fc, to_z-of_z w128 c.args.t.d fd) at c.times-2.ensures.value in
    let l = back c.times.result c.times.ensures.in_range in
    let r = back c.times-2.result c.times-2.ensures.in_range in
    rw (l, r, m, n) c.requires.difference

pub returns-clause-value : goal.returns-clause-value
returns-clause-value c =
    let fa : FitsSigned w128 c.args.t.a = search rules in
    let fb : FitsSigned w128 c.args.t.b = search rules in
    let fc : FitsSigned w128 c.args.t.c = search rules in
    let fd : FitsSigned w128 c.args.t.d = search rules in
    let m = rw (to_z-of_z w128 c.args.t.a fa, to_z-of_z w128 c.args.t.b fb) at c.times.ensures.value in
    let n = rw (to_z-of_z w128 c.args.t.c fc, to_z-of_z w128 c.args.t.d fd) at c.times-2.ensures.value in
    let l = back c.times.result c.times.ensures.in_range in
    let r = back c.times-2.result c.times-2.ensures.in_range in
    let z = back c.minus.result c.minus.ensures.in_range in
    rw z (rw (l, r, m, n) at c.minus.ensures.value)
