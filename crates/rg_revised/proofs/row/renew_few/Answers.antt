use Rattle.std.proofs.Common.{rules, ◌≡◌, ◌<◌, length, le_refl, arith, subst}
use Rattle.std.specs.Prelude.{FitsSigned, slice_index, unsigned_abs}
use Rattle.std.specs.Int.{w64}
use Rattle.std.proofs.lemmas.Int.{to_z-of_z}
use Rattle.rg_integers.specs.Sum.{number_at}
use Rattle.rg_revised.proofs.FewRenewed.{AreRenewedAt, none_renewed, more_renewed, all_at}
use Rattle.rg_revised.proofs.row.renew_few.Goals as goal

pub loop-k-init : goal.loop-k-init
loop-k-init c =
    let fl : FitsSigned w64 c.args.leaving = search rules in
    let fm : FitsSigned w64 c.args.most = search rules in
    let l = to_z-of_z w64 c.args.leaving fl in
    let m = to_z-of_z w64 c.args.most fm in
    rw (l, m) (none_renewed c.args.pivot.now c.args.row.now c.args.d.value c.args.leaving (unsigned_abs c.args.most) c.args.few.now.indices c.args.few.now.count c.requires.within)

pub loop-k-preserved : goal.loop-k-preserved
loop-k-preserved c =
    let inside : slice_index c.args.few.now.indices c.loop-k.k < length c.args.pivot.now = c.requires.few.inside c.loop-k.k c.loop-k-test.true in
    let fl : FitsSigned w64 c.args.leaving = search rules in
    let fm : FitsSigned w64 c.args.most = search rules in
    let fx : FitsSigned w64 (number_at c.loop-k.row (slice_index c.args.few.now.indices c.loop-k.k)) = search rules in
    let fy : FitsSigned w64 (number_at c.args.pivot.now (slice_index c.args.few.now.indices c.loop-k.k)) = search rules in
    let fq : FitsSigned w64 c.in-Some.q = search rules in
    let l = to_z-of_z w64 c.args.leaving fl in
    let m = to_z-of_z w64 c.args.most fm in
    let x = to_z-of_z w64 (number_at c.loop-k.row (slice_index c.args.few.now.indices c.loop-k.k)) fx in
    let y = to_z-of_z w64 (number_at c.args.pivot.now (slice_index c.args.few.now.indices c.loop-k.k)) fy in
    let q = to_z-of_z w64 c.in-Some.q fq in
    let fd : FitsSigned w64 c.args.d.value = search rules in
    let d = to_z-of_z w64 c.args.d.value fd in
    let r = rw (l, m) at c.loop-k.invariant in
    let same = r.left c.loop-k.k (le_refl c.loop-k.k) c.loop-k-test.true in
    let f = c.new-factors.ensures in
    let is = rw (x, y, f.0, f.1, f.2, l, d, same) at c.in-Some.ensures.value in
    let small = rw (f.3, m) at c.in-Some.ensures.within in
    rw (l, m, q) (more_renewed c.args.pivot.now c.args.row.now c.loop-k.row c.args.d.value c.args.leaving (unsigned_abs c.args.most) c.args.few.now.indices c.args.few.now.count c.loop-k.k
    c.in-Some.q c.requires.few c.requires.same_length r c.loop-k-test.true is small)

pub returns-clause-renewed : goal.returns-clause-renewed
returns-clause-renewed c =
    let fl : FitsSigned w64 c.args.leaving = search rules in
    let fm : FitsSigned w64 c.args.most = search rules in
    let l = to_z-of_z w64 c.args.leaving fl in
    let m = to_z-of_z w64 c.args.most fm in
    let r = rw (l, m) at c.loop-k.invariant in
    let end : c.loop-k.k ≡ c.args.few.now.count = omega arith in
    λ yes. all_at c.args.pivot.now c.args.row.now c.loop-k.row c.args.d.value c.args.leaving (unsigned_abs c.args.most) c.args.few.now.indices c.args.few.now.count c.requires.few
    c.requires.same_length
    (subst (AreRenewedAt c.args.pivot.now c.args.row.now c.loop-k.row c.args.d.value c.args.leaving (unsigned_abs c.args.most) c.args.few.now.indices c.args.few.now.count) end r)
