use Rattle.rg_folds.specs.Fold.{joined, add, whole, ratio_of}
use Rattle.std.specs.Prelude.{pos}
use Rattle.rg_places.specs.Steps.{column_share}
use Rattle.rg_places.proofs.FoldSteps.{SumLeads}
use Rattle.rg_places.proofs.effects.sum_of_shares.Given as goal

abbrev pub invariant-loop-column : goal.invariant-loop-column
invariant-loop-column l = SumLeads add (column_share l.relation) (joined add (column_share l.relation) (whole (pos 0)) l.fn.columns) l.rest l.column-index (ratio_of l.sum)
