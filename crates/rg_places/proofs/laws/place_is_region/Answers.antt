use Rattle.rg_case_folds.proofs.Made.{place_made}
use Rattle.rg_places.proofs.PlaceSteps.{numbers_one}
use Rattle.rg_places.proofs.laws.place_is_region.Goals as goal

pub returns-clause-numbers : goal.returns-clause-numbers
returns-clause-numbers c = numbers_one

pub returns-clause-made : goal.returns-clause-made
returns-clause-made c = place_made
