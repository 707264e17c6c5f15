use Rattle.rg_case_folds.proofs.PointEffects.{point_gives}
use Rattle.rg_case_folds.proofs.Points.{point_meets, given_point, points_exact}
use Rattle.rg_case_folds.proofs.OneChoice.{one_choice}
use Rattle.rg_case_folds.proofs.meaning.points_are_exact.Goals as goal

pub returns-clause-give : goal.returns-clause-give
returns-clause-give c = point_gives

pub returns-clause-given : goal.returns-clause-given
returns-clause-given c = given_point

pub returns-clause-meets : goal.returns-clause-meets
returns-clause-meets c = point_meets

pub returns-clause-exact : goal.returns-clause-exact
returns-clause-exact c = points_exact

pub returns-clause-one : goal.returns-clause-one
returns-clause-one c = one_choice
