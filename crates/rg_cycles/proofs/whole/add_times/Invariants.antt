use Rattle.rg_cycles.proofs.WholeSteps.{AddsBelow}
use Rattle.rg_cycles.proofs.whole.add_times.Given as goal

abbrev pub invariant-loop-index : goal.invariant-loop-index
invariant-loop-index l = AddsBelow l.count l.numbers l.initial.sums l.sums l.index
