use Rattle.std.proofs.Common.{◌≤◌}
use Rattle.rg_theory.specs.declared.Problem.TheVariants.{Event}
use Rattle.rg_blocks.specs.Left.{NoneBetween}
use Rattle.rg_blocks.proofs.LeftLemmas.{ArePassed}
use Rattle.rg_blocks.proofs.left.event_of_state.Given as goal

abbrev pub invariant-loop-arc : goal.invariant-loop-arc
invariant-loop-arc g l = record {
  from : l.first ≤ l.next;
  none : NoneBetween l.lts (g.K.Keeping.places l.kept) (Event l.s l.first) (Event l.s l.next);
  passed : ArePassed l.arc-items l.arc-index l.next;
}
