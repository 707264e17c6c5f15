use Rattle.rg_case_folds.proofs.ColumnValues.{values_counted, first_value, free_value, row_sum}
use Rattle.rg_case_folds.proofs.meaning.columns_are_values.Goals as goal

pub returns-clause-count : goal.returns-clause-count
returns-clause-count c = values_counted

pub returns-clause-start : goal.returns-clause-start
returns-clause-start c = first_value

pub returns-clause-effects : goal.returns-clause-effects
returns-clause-effects c = free_value

pub returns-clause-sum : goal.returns-clause-sum
returns-clause-sum c = row_sum
