use Rattle.rg_folds.specs.Substitution.{dependent_term}
use Rattle.rg_folds.proofs.Zeros.{count_adds_nothing, entry_adds_nothing, plus_zero, passes_over, fraction_within}
use Rattle.rg_case_folds.proofs.folds.zeros_add_nothing.Goals as goal

pub returns : goal.returns
returns c = record {
  count = count_adds_nothing;
  entry = entry_adds_nothing;
  sum = λ f. plus_zero _ (fraction_within f);
  coefficient = λ basis counts f t rest sum r made h. passes_over (dependent_term basis counts f) t rest _ r (fraction_within sum) made h;
}
