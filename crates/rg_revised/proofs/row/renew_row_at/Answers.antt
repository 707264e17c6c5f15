use Rattle.std.proofs.Common.{rules, ◌≡◌, refl, subst, sym}
use Rattle.std.specs.Prelude.{FitsSigned, ◌*ℤ◌, ◌-ℤ◌, unsigned_abs}
use Rattle.std.specs.Int.{w64}
use Rattle.std.proofs.lemmas.Int.{to_z-of_z}
use Rattle.rg_integers.specs.Sum.{number_at}
use Rattle.rg_revised.proofs.Written.{renewed_row}
use Rattle.rg_revised.proofs.row.renew_row_at.Goals as goal

pub returns : goal.returns
returns c =
    let fl : FitsSigned w64 (number_at c.args.row.now c.args.pivot.now.p) = search rules in
    let fm : FitsSigned w64 c.args.most = search rules in
    let fz : FitsSigned w64 c.with_sign.result = search rules in
    let l = to_z-of_z w64 (number_at c.args.row.now c.args.pivot.now.p) fl in
    let m = to_z-of_z w64 c.args.most fm in
    let z = to_z-of_z w64 c.with_sign.result fz in
    let done = rw l at (c.if-not-renew_few.ensures.renewed refl) in
    let within = rw m at (c.if-not-renew_few.ensures.within refl) in
    let is = rw l at c.with_sign.ensures.value in
    let small = rw m at c.with_sign.ensures.within in
    record {
      renewed = λ yes. rw z (renewed_row c.args.pivot.now.numbers.now c.args.row.now c.renew_few.new.row c.args.pivot.now.p c.args.pivot.now.negative c.args.d.value (unsigned_abs c.args.most)
          c.with_sign.result c.if-not-renew_few.ensures.same_length c.requires.index
          (λ k lt. subst (λ q. c.args.d.value *ℤ number_at c.renew_few.new.row k
          ≡ (number_at c.args.row.now k *ℤ q) -ℤ (number_at c.args.pivot.now.numbers.now k *ℤ number_at c.args.row.now c.args.pivot.now.p)) (sym c.requires.size) (done k lt))
          within is small);
      support = λ before. c.forget.ensures _;
    }

pub returns-then-not-renew_few-clause-support : goal.returns-then-not-renew_few-clause-support
returns-then-not-renew_few-clause-support c = λ before. c.forget.ensures c.renew_few.new.row
