use Rattle.std.proofs.Common.{rules, ◌≡◌, ◌+◌, ◌^◌, ◌<◌, ◌≤◌, [], length, refl}
use Rattle.rg_linear.specs.Room.{room}
use Rattle.rg_branch.specs.View.{forms_of}
use Rattle.rg_branch_tests.proofs.Bounding.{a_top, can_by_rows}
use Rattle.rg_branch_tests.proofs.bounds.can_branch_after.Goals as goal

pub room_of-requires : goal.room_of-requires
room_of-requires c = record { ordered = λ k d lt. (c.if-not-are_by_rows.ensures.shown refl k d a_top lt).form.ordered }

shown : goal.returns-clause-shown
shown c = λ e.
    let size : length c.args.tops.now ≡ length c.args.forms.now = search rules in
    let few_forms : length c.args.forms.now ≤ 1000 = search rules in
    let is : c.in-Some.room ≡ room (forms_of c.args.forms.now) [] = search rules in
    let columns = c.columns.ensures.value in
    let rows = c.count.ensures.value in
    let few : c.args.system.now.columns + length c.args.system.now.rows + room (forms_of c.args.forms.now) [] < 2 ^ 32 = search rules in
    record { one_each = size; few_forms = few_forms; each = c.if-not-are_by_rows.ensures.shown refl; few = few }

pub returns-clause-can : goal.returns-clause-can
returns-clause-can c = λ e. can_by_rows c.args.system.now c.args.before c.args.forms.now c.args.tops.now (shown c e)

pub returns-clause-shown : goal.returns-clause-shown
returns-clause-shown = shown
