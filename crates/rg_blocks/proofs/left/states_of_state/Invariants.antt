use Rattle.rg_theory.specs.declared.Problem.TheVariants.{States}
use Rattle.rg_blocks.specs.Left.{NoneBetween}
use Rattle.rg_blocks.proofs.left.states_of_state.Given as goal

abbrev pub invariant-loop-other : goal.invariant-loop-other
invariant-loop-other g l = NoneBetween l.lts (g.K.Keeping.places l.kept) (States l.s l.first) (States l.s l.other)
