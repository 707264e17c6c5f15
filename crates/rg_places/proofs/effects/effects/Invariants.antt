use Rattle.rg_theory.specs.System.{labels}
use Rattle.rg_case_folds.specs.Placing.{effect_fold}
use Rattle.rg_cycles.specs.View.{cycle_of}
use Rattle.rg_places.specs.Steps.{value_by}
use Rattle.rg_places.proofs.EffectSteps.{EffectsSoFar}
use Rattle.rg_places.proofs.effects.effects.Given as goal

abbrev pub invariant-loop-t : goal.invariant-loop-t
invariant-loop-t l = EffectsSoFar (effect_fold l.lts (cycle_of l.basis) (value_by l.columns)) (labels l.lts) (value_by l.columns) l.t l.effects.items
