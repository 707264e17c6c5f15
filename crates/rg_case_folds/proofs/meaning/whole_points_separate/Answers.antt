use Rattle.rg_case_folds.proofs.Whole.{solution_of_whole}
use Rattle.rg_case_folds.proofs.WholePoints.{whole_points_exact, whole_point_separates}
use Rattle.rg_case_folds.proofs.meaning.whole_points_separate.Goals as goal

pub returns-clause-solution : goal.returns-clause-solution
returns-clause-solution c = solution_of_whole

pub returns-clause-whole : goal.returns-clause-whole
returns-clause-whole c = whole_points_exact

pub returns-clause-separable : goal.returns-clause-separable
returns-clause-separable c = whole_point_separates
