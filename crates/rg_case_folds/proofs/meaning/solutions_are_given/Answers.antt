use Rattle.rg_case_folds.proofs.Kept.{follow_given, numbers_given, effects_given, rows_given, meets_given}
use Rattle.rg_case_folds.proofs.meaning.solutions_are_given.Goals as goal

pub returns-clause-follow : goal.returns-clause-follow
returns-clause-follow c = follow_given

pub returns-clause-numbers : goal.returns-clause-numbers
returns-clause-numbers c = numbers_given

pub returns-clause-effects : goal.returns-clause-effects
returns-clause-effects c = effects_given

pub returns-clause-rows : goal.returns-clause-rows
returns-clause-rows c = rows_given

pub returns-clause-meets : goal.returns-clause-meets
returns-clause-meets c = meets_given
