-- The place of a point of one case.
use Rattle.std.specs.Prelude.{◌≡◌, ℕ, List}
use Rattle.rg_theory.specs.declared.Problem.{Problem}
use Rattle.rg_fraction.specs.declared.fraction.Fraction.{Fraction}
use Rattle.rg_net.specs.declared.net.Place.{Place}
use Rattle.rg_marks.specs.declared.region_place.RegionPlace.{RegionPlace}
use Rattle.rg_case_folds.specs.Setting.{Setting}
use Rattle.rg_case_folds.specs.Shown.{IsLive}
use Rattle.rg_places.specs.PointValues.{point_start, point_value, SolvesCase}
use Rattle.rg_places.specs.RegionPlaces.{IsRegionPlace, PlaceSeparates, AreTokensMade}

-- the point meets every row of the system of the case with this number, and its forms are whole
abbrev pub SolvesNumbered : Setting → Problem → ℕ → List Fraction → Type 0
SolvesNumbered s problem number point = (solves : SolvesCase s problem point) × (solves.number ≡ number)

-- the place has tokens that are made on the way from the point; with them it is a region of the class that separates the
-- problem, where the point solves the case with this number and the label of an event problem is not dead
pub record IsPlaceOf (s : Setting) (problem : Problem) (number : ℕ) (point : List Fraction) (p : Place) : Type 0 where
  pub made : RegionPlace
  pub place : made.place ≡ p
  pub tokens : AreTokensMade s problem (point_start s.class point) (point_value s.lts s.basis s.class point) made.tokens.items
  pub region : IsLive s.lts problem → SolvesNumbered s problem number point → IsRegionPlace s.lts s.class made × PlaceSeparates problem made
