use Rattle.rg_case_folds.proofs.PlacePoints.{point_makes, found_makes}
use Rattle.rg_places.proofs.laws.points_make_places.Goals as goal

pub returns-clause-point : goal.returns-clause-point
returns-clause-point c = point_makes

pub returns-clause-found : goal.returns-clause-found
returns-clause-found c = found_makes
