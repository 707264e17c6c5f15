use Rattle.rg_linear.specs.System.{LinearSystem}
use Rattle.rg_linear.specs.Cycle.{CycleOutcome, CycleWalkFrom, CycleWalk}
use Rattle.rg_feasible.specs.Contents.{IsDictionary, SameShape}
use Rattle.rg_cycles.specs.Walk.{RowsAhead}
use Rattle.rg_cycles.proofs.walk.walk.Given as goal

abbrev pub invariant-loop-i : goal.invariant-loop-i
invariant-loop-i l = record {
  shape : SameShape l.fn.dictionary l.dictionary;
  whole : (system : LinearSystem) → IsDictionary system l.fn.dictionary → IsDictionary system l.dictionary;
  ahead : RowsAhead l.dictionary l.i;
  walk : (system : LinearSystem) (o : CycleOutcome) → IsDictionary system l.fn.dictionary → CycleWalkFrom system l.dictionary.members l.i o → CycleWalk system o;
}
