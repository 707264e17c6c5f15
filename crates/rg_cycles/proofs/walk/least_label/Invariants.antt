use Rattle.std.proofs.Common.{ℕ, ◌<◌}
use Rattle.rg_cycles.specs.Walk.{NamesLabel}
use Rattle.rg_cycles.proofs.walk.least_label.Given as goal

abbrev pub invariant-loop-index : goal.invariant-loop-index
invariant-loop-index l = (q : ℕ) → q < l.index → ¬ NamesLabel l.labels l.members l.numbers q
