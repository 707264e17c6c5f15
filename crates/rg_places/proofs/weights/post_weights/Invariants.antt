use Rattle.std.specs.Prelude.{length}
use Rattle.rg_integers.specs.Sum.{number_at}
use Rattle.rg_folds.specs.Fold.{whole_sum}
use Rattle.rg_case_folds.specs.Rewriting.{all_numbers}
use Rattle.rg_case_folds.specs.Placing.{top_at}
use Rattle.rg_places.specs.PointValues.{ratios_of}
use Rattle.rg_places.proofs.FoldSteps.{EachLeads}
use Rattle.rg_places.proofs.weights.post_weights.Given as goal

abbrev pub invariant-loop-u : goal.invariant-loop-u
invariant-loop-u l = EachLeads (λ u. whole_sum (number_at l.taken u) (top_at (ratios_of l.found) u)) (all_numbers (length l.taken)) l.u l.put.items
