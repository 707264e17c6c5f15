-- Which faults each call of the builder can answer.
use Rattle.rg_lts.specs.declared.fault.BuildFault.{BuildFault}
use Rattle.rg_lts.specs.declared.fault.BuildFault.TheVariants.{TwiceState, TwiceLabel, UnknownState, UnknownLabel, TwoInitial, NoInitial, TooManyStates, TooManyLabels, TooManyArcs, NoMemory}

abbrev pub IsStateFault : BuildFault → Type 0
IsStateFault TwiceState = Unit {0}
IsStateFault TooManyStates = Unit {0}
IsStateFault NoMemory = Unit {0}
IsStateFault _ = ⊥

abbrev pub IsLabelFault : BuildFault → Type 0
IsLabelFault TwiceLabel = Unit {0}
IsLabelFault TooManyLabels = Unit {0}
IsLabelFault NoMemory = Unit {0}
IsLabelFault _ = ⊥

abbrev pub IsArcFault : BuildFault → Type 0
IsArcFault UnknownState = Unit {0}
IsArcFault UnknownLabel = Unit {0}
IsArcFault TooManyArcs = Unit {0}
IsArcFault NoMemory = Unit {0}
IsArcFault _ = ⊥

abbrev pub IsInitialFault : BuildFault → Type 0
IsInitialFault UnknownState = Unit {0}
IsInitialFault TwoInitial = Unit {0}
IsInitialFault _ = ⊥

abbrev pub IsFinishFault : BuildFault → Type 0
IsFinishFault NoInitial = Unit {0}
IsFinishFault NoMemory = Unit {0}
IsFinishFault _ = ⊥
