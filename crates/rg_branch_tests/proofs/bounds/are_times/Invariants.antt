use Rattle.std.proofs.Common.{◌≡◌, ℕ, ◌<◌, slice_index_or}
use Rattle.std.specs.Prelude.{pos, ◌*ℤ◌}
use Rattle.rg_branch_tests.proofs.bounds.are_times.Given as goal

abbrev pub invariant-loop-j : goal.invariant-loop-j
invariant-loop-j l = (k : ℕ) → k < l.j → slice_index_or l.numbers k (pos 0) ≡ l.factor *ℤ slice_index_or l.others k (pos 0)
