use Rattle.rg_theory.specs.declared.Problem.TheVariants.{Event}
use Rattle.rg_blocks.specs.Left.{NoneBetween}
use Rattle.rg_blocks.proofs.left.event_left.Given as goal

abbrev pub invariant-loop-q : goal.invariant-loop-q
invariant-loop-q g l = NoneBetween l.lts (g.K.Keeping.places l.kept) (Event l.s l.first) (Event l.q 0)
