use Rattle.rg_theory.specs.declared.Problem.TheVariants.{States}
use Rattle.rg_blocks.specs.Left.{NoneBetween}
use Rattle.rg_blocks.proofs.left.states_left.Given as goal

abbrev pub invariant-loop-q : goal.invariant-loop-q
invariant-loop-q g l = NoneBetween l.lts (g.K.Keeping.places l.kept) (States l.s l.first) (States l.q 0)
