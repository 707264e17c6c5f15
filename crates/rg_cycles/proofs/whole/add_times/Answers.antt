use Rattle.std.proofs.Common.{◌<◌, ◌∙◌, length, rules, subst, sym}
use Rattle.std.specs.Prelude.{FitsSigned}
use Rattle.std.specs.Int.{w64}
use Rattle.std.proofs.lemmas.Int.{to_z-of_z}
use Rattle.rg_integers.specs.Sum.{number_at}
use Rattle.rg_integers.proofs.Casts.{back}
use Rattle.rg_cycles.proofs.WholeSteps.{adds_next}
use Rattle.rg_cycles.proofs.whole.add_times.Goals as goal

pub loop-index-preserved : goal.loop-index-preserved
loop-index-preserved c =
    let fits : FitsSigned w64 (number_at c.loop-index.sums c.loop-index.index) = search rules in
    let next : FitsSigned w64 c.in-Some.sum = search rules in
    let s = to_z-of_z w64 (number_at c.loop-index.sums c.loop-index.index) fits in
    let n = back (number_at c.args.numbers.now c.loop-index.index) (c.requires.in_range c.loop-index.index) in
    let z = to_z-of_z w64 c.in-Some.sum next in
    let step = rw (s, n) at c.in-Some.ensures.some in
    let lt : c.loop-index.index < length c.loop-index.sums = subst (λ m. c.loop-index.index < m) (sym (c.loop-index.auto.sums ∙ c.requires.one_each)) c.loop-index-test.true in
    rw z (adds_next _ c.args.numbers.now c.args.sums.now c.loop-index.sums c.loop-index.index c.in-Some.sum c.loop-index.invariant lt step)
