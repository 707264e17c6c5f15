-- Nets whose numbers are in range, and whose places have all their weights.
use Rattle.std.specs.Prelude.{◌<◌, ◌≤◌, length, All}
use Rattle.rg_integers.specs.Range.{greatest}
use Rattle.rg_theory.specs.Net.{Place, Net, HasAllWeights}

-- the start and every weight are at most the greatest number in range
pub record IsPlaceInRange (p : Place) : Type 0 where
  pub start : p.start ≤ greatest
  pub pre : All (λ w. w ≤ greatest) p.pre
  pub post : All (λ w. w ≤ greatest) p.post

-- each place has one weight of each kind for each label, all numbers are in range, and so are the numbers of places
pub record IsNetInRange (net : Net) : Type 0 where
  pub weights : HasAllWeights net
  pub places : All IsPlaceInRange net.places
  pub few : length net.places < 4294967296
