use Rattle.std.proofs.Common.{◌≡◌, []}
use Rattle.rg_linear.specs.Room.{gap, total}
use Rattle.rg_branch.specs.View.{forms_of}
use Rattle.rg_branch_tests.proofs.bounds.room_of.Given as goal

abbrev pub invariant-loop-form : goal.invariant-loop-form
invariant-loop-form l = l.room ≡ total l.form-index (gap (forms_of l.forms) [])
