use Rattle.std.proofs.Common.{rules, ◌+◌, ◌^◌, ◌<◌, ◌≤◌, [], length, subst, sym, arith}
use Rattle.std.specs.Prelude.{◌≤ℤ◌, FitsSigned}
use Rattle.std.specs.Int.{w64}
use Rattle.std.proofs.lemmas.Int.{to_z-of_z}
use Rattle.rg_linear.specs.Room.{gap}
use Rattle.rg_branch.specs.declared.bounded.Bounded.{Bounded}
use Rattle.rg_branch.specs.View.{forms_of}
use Rattle.rg_revised.proofs.Small.{total_more}
use Rattle.rg_branch_tests.proofs.Bounding.{one_more_gap, room_is}
use Rattle.rg_branch_tests.proofs.bounds.room_of.Goals as goal

pub returns-in_default-clause-none : goal.returns-in_default-clause-none
returns-in_default-clause-none c =
    let forms = c.args.forms.now in
    let i = c.loop-form.form-index in
    let form = c.form-item.result in
    let lt : i < length forms = search rules in
    let low : FitsSigned w64 form.low = search rules in
    let high : FitsSigned w64 form.high = search rules in
    let size = rw (to_z-of_z w64 form.low low, to_z-of_z w64 form.high high) at c.gap.ensures in
    let ordered : form.low ≤ℤ form.high = subst (λ (b : Bounded). b.low ≤ℤ b.high) (sym c.form-item.is) (c.requires.ordered i form lt) in
    let over : 2 ^ 64 ≤ c.loop-form.room + c.gap.result = search rules in
    let next = one_more_gap forms i c.gap.result form lt c.form-item.is (size ordered) in
    let most = total_more (i + 1) (length forms) (gap (forms_of forms) []) (omega arith) in
    let is = room_is forms in
    let here = c.loop-form.invariant in
    omega arith
