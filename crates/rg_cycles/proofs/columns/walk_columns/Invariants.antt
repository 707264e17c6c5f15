use Rattle.std.proofs.Common.{◌≡◌, ◌+◌, ◌<◌, ℕ, Contains}
use Rattle.rg_linear.specs.Cycle.{CycleOutcome, CycleWalkFrom, CycleWalk, vector_system}
use Rattle.rg_revised.specs.Walk.{IsWalkOf}
use Rattle.rg_cycles.proofs.columns.walk_columns.Given as goal

abbrev pub invariant-loop-i : goal.invariant-loop-i
invariant-loop-i g l = record {
  columns : l.walk.columns ≡ l.labels;
  are : IsWalkOf (vector_system l.labels (g.R.ChordRows.rows l.rows) l.kept) l.walk;
  ahead : (m : ℕ) → Contains l.walk.members m → m < l.labels + l.i;
  leads : (o : CycleOutcome) → CycleWalkFrom (vector_system l.labels (g.R.ChordRows.rows l.rows) l.kept) l.walk.members l.i o
      → CycleWalk (vector_system l.labels (g.R.ChordRows.rows l.rows) l.kept) o;
}
