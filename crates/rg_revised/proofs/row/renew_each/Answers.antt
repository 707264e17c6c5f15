use Rattle.std.proofs.Common.{rules, ◌≡◌, ◌≢◌, ◌<◌, ◌≤◌, length, length-set, get_or-set_other, arith, le_refl, ◌∙◌}
use Rattle.std.specs.Prelude.{pos, FitsSigned, ◌*ℤ◌, ◌-ℤ◌, unsigned_abs}
use Rattle.std.specs.Int.{w64}
use Rattle.std.proofs.lemmas.Int.{to_z-of_z}
use Rattle.rg_integers.specs.Sum.{number_at}
use Rattle.rg_linear.proofs.TableRows.{below_set}
use Rattle.rg_revised.proofs.Written.{within-set, renewed_row}
use Rattle.rg_revised.proofs.row.renew_each.Goals as goal

pub loop-n-preserved : goal.loop-n-preserved
loop-n-preserved c =
    let fp : FitsSigned w64 (number_at c.args.pivot.now c.args.p) = search rules in
    let fl : FitsSigned w64 (number_at c.args.row.now c.args.p) = search rules in
    let fx : FitsSigned w64 (number_at c.loop-n.row c.loop-n.n) = search rules in
    let fy : FitsSigned w64 (number_at c.args.pivot.now c.loop-n.n) = search rules in
    let fq : FitsSigned w64 c.in-Some.q = search rules in
    let fm : FitsSigned w64 c.args.most = search rules in
    let p = to_z-of_z w64 (number_at c.args.pivot.now c.args.p) fp in
    let l = to_z-of_z w64 (number_at c.args.row.now c.args.p) fl in
    let x = to_z-of_z w64 (number_at c.loop-n.row c.loop-n.n) fx in
    let y = to_z-of_z w64 (number_at c.args.pivot.now c.loop-n.n) fy in
    let q = to_z-of_z w64 c.in-Some.q fq in
    let m = to_z-of_z w64 c.args.most fm in
    let lt : c.loop-n.n < length c.loop-n.row = omega arith in
    let same = c.loop-n.invariant.left c.loop-n.n (le_refl c.loop-n.n) in
    let f = c.new-factors.ensures in
    let is = rw (x, y, f.0, f.1, f.2, p, l, same) at c.in-Some.ensures.value in
    let small = rw (f.3, m) at c.in-Some.ensures.within in
    let done = rw l at c.loop-n.invariant.done in
    let within = rw m at c.loop-n.invariant.within in
    record {
      same_length = length-set c.loop-n.row c.loop-n.n _ ∙ c.loop-n.invariant.same_length;
      done = rw (l, q)
          (below_set (λ k z. c.args.d.value *ℤ z ≡ (number_at c.args.row.now k *ℤ number_at c.args.pivot.now c.args.p) -ℤ (number_at c.args.pivot.now k *ℤ number_at c.args.row.now c.args.p))
          c.loop-n.row c.loop-n.n c.in-Some.q lt done is);
      left = λ k ge. let ne : k ≢ c.loop-n.n = omega arith in get_or-set_other c.loop-n.row c.loop-n.n k _ (pos 0) ne ∙ c.loop-n.invariant.left k (omega arith);
      within = rw (q, m) (within-set (unsigned_abs c.args.most) c.loop-n.row c.loop-n.n c.in-Some.q within small);
    }

pub returns : goal.returns
returns c =
    let fp : FitsSigned w64 (number_at c.args.pivot.now c.args.p) = search rules in
    let fl : FitsSigned w64 (number_at c.args.row.now c.args.p) = search rules in
    let fm : FitsSigned w64 c.args.most = search rules in
    let fz : FitsSigned w64 c.with_sign.result = search rules in
    let p = to_z-of_z w64 (number_at c.args.pivot.now c.args.p) fp in
    let l = to_z-of_z w64 (number_at c.args.row.now c.args.p) fl in
    let m = to_z-of_z w64 c.args.most fm in
    let z = to_z-of_z w64 c.with_sign.result fz in
    let end : length c.args.row.now ≤ c.loop-n.n = omega arith in
    let done = rw l at c.loop-n.invariant.done in
    let within = rw m at c.loop-n.invariant.within in
    let is = rw l at c.with_sign.ensures.value in
    let small = rw m at c.with_sign.ensures.within in
    record {
      renewed = λ yes. rw z (renewed_row c.args.pivot.now c.args.row.now c.loop-n.row c.args.p c.args.negative c.args.d.value
          (unsigned_abs c.args.most) c.with_sign.result c.loop-n.invariant.same_length
          c.requires.index (λ k lt. done k (omega arith)) within is small);
    }
