use Rattle.std.proofs.Common.{rules, ◌≡◌, ◌<◌, length, le_refl, arith, subst}
use Rattle.std.specs.Prelude.{FitsSigned, slice_index}
use Rattle.std.specs.Int.{w64}
use Rattle.std.proofs.lemmas.Int.{to_z-of_z}
use Rattle.rg_integers.specs.Sum.{number_at}
use Rattle.rg_revised.proofs.FewAdded.{AreAddedAt, more_added, all_added}
use Rattle.rg_revised.proofs.reading.add_few.Goals as goal

pub loop-k-preserved : goal.loop-k-preserved
loop-k-preserved c =
    let inside : slice_index c.args.support.now.indices c.loop-k.k < length c.args.row.now = c.requires.few.inside c.loop-k.k c.loop-k-test.true in
    let fb : FitsSigned w64 c.args.by = search rules in
    let fx : FitsSigned w64 (number_at c.loop-k.numbers (slice_index c.args.support.now.indices c.loop-k.k)) = search rules in
    let fy : FitsSigned w64 (number_at c.args.row.now (slice_index c.args.support.now.indices c.loop-k.k)) = search rules in
    let fz : FitsSigned w64 c.add_product.result = search rules in
    let b = to_z-of_z w64 c.args.by fb in
    let x = to_z-of_z w64 (number_at c.loop-k.numbers (slice_index c.args.support.now.indices c.loop-k.k)) fx in
    let y = to_z-of_z w64 (number_at c.args.row.now (slice_index c.args.support.now.indices c.loop-k.k)) fy in
    let z = to_z-of_z w64 c.add_product.result fz in
    let r = rw b at c.loop-k.invariant in
    let same = r.left c.loop-k.k (le_refl c.loop-k.k) c.loop-k-test.true in
    let is = rw (x, b, y, same) at c.add_product.ensures in
    rw (b, z) (more_added c.args.by c.args.row.now c.args.numbers.now c.loop-k.numbers c.args.support.now.indices c.args.support.now.count c.loop-k.k c.add_product.result
    c.requires.few c.requires.same_length r c.loop-k-test.true is)

pub returns : goal.returns
returns c =
    let fb : FitsSigned w64 c.args.by = search rules in
    let r = rw (to_z-of_z w64 c.args.by fb) at c.loop-k.invariant in
    let end : c.loop-k.k ≡ c.args.support.now.count = omega arith in
    all_added c.args.by c.args.row.now c.args.numbers.now c.loop-k.numbers c.args.support.now.indices c.args.support.now.count c.requires.few c.requires.same_length
    (subst (AreAddedAt c.args.by c.args.row.now c.args.numbers.now c.loop-k.numbers c.args.support.now.indices c.args.support.now.count) end r)
