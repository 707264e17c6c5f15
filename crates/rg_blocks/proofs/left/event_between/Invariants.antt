use Rattle.rg_theory.specs.declared.Problem.TheVariants.{Event}
use Rattle.rg_blocks.specs.Left.{NoneBetween}
use Rattle.rg_blocks.proofs.left.event_between.Given as goal

abbrev pub invariant-loop-t : goal.invariant-loop-t
invariant-loop-t g l = NoneBetween l.lts (g.K.Keeping.places l.kept) (Event l.s l.from) (Event l.s l.t)
