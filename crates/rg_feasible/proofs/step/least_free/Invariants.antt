use Rattle.std.proofs.Common.{ℕ, ◌<◌}
use Rattle.rg_feasible.specs.Steps.{NamesFree}
use Rattle.rg_feasible.proofs.step.least_free.Given as goal

abbrev pub invariant-loop-index : goal.invariant-loop-index
invariant-loop-index l = (q : ℕ) → q < l.index → ¬ NamesFree l.columns l.members l.stack l.numbers q
