use Rattle.std.proofs.Common.{ℕ, ◌<◌, slice_index_or}
use Rattle.rg_branch.specs.declared.bounded.Bounded.{Bounded}
use Rattle.rg_branch_tests.specs.declared.bounds.Top.{Top}
use Rattle.rg_branch_tests.specs.Bounds.{IsByRows}
use Rattle.rg_branch_tests.proofs.bounds.are_by_rows.Given as goal

abbrev pub invariant-loop-f : goal.invariant-loop-f
invariant-loop-f l = (f : ℕ) (b : Bounded) (t : Top) → f < l.f → IsByRows l.system l.before (slice_index_or l.forms f b) (slice_index_or l.tops f t)
