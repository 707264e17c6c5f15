use Rattle.rg_theory.specs.System.{labels}
use Rattle.rg_places.proofs.LabelValues.{ValuesSoFar}
use Rattle.rg_places.proofs.effects.values_by_label.Given as goal

abbrev pub invariant-loop-column : goal.invariant-loop-column
invariant-loop-column l = ValuesSoFar (labels l.lts) l.columns l.column-index l.values.items
