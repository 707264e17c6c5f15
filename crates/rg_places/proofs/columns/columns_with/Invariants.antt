use Rattle.rg_cycles.specs.View.{cycle_of}
use Rattle.rg_places.proofs.ColumnSteps.{ColumnsSoFar}
use Rattle.rg_places.proofs.columns.columns_with.Given as goal

abbrev pub invariant-loop-index : goal.invariant-loop-index
invariant-loop-index l = ColumnsSoFar l.lts (cycle_of l.basis) l.values l.index l.columns.items
