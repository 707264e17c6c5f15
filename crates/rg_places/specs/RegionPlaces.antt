-- Places with their tokens at the states.
use Rattle.std.specs.Prelude.{◌≡◌, ℕ, ◌≤◌, List, length, map, All, slice_index, Ok, unsigned_abs}
use Rattle.rg_theory.specs.System.{System, states, labels}
use Rattle.rg_theory.specs.declared.Class.{Class}
use Rattle.rg_theory.specs.Region.{RegionIn}
use Rattle.rg_theory.specs.declared.Problem.{Problem}
use Rattle.rg_theory.specs.Problem.{Separates}
use Rattle.rg_case_folds.specs.Setting.{Setting}
use Rattle.rg_folds.specs.Fold.{Ratio}
use Rattle.rg_net.specs.Range.{IsPlaceInRange}
use Rattle.rg_integers.specs.Range.{greatest}
use Rattle.rg_net.specs.Shown.{shown_place}
use Rattle.rg_marks.specs.declared.region_place.RegionPlace.{RegionPlace}
use Rattle.rg_case_folds.specs.Places.{numbers_fold}

-- the tokens of the place at state s
abbrev pub region_tokens : RegionPlace → ℕ → ℕ
region_tokens r s = slice_index r.tokens.items s

-- with its tokens the place is a region of the class, and all its numbers are at most 2^127 - 1
pub record IsRegionPlace (lts : System) (class : Class) (r : RegionPlace) : Type 0 where
  pub states : length r.tokens.items ≡ states lts
  pub pre : length r.place.pre.items ≡ labels lts
  pub post : length r.place.post.items ≡ labels lts
  pub region : RegionIn lts class (shown_place r.place) (region_tokens r)
  pub in_range : IsPlaceInRange (shown_place r.place)
  pub few_tokens : All (λ n. n ≤ greatest) r.tokens.items

-- the place separates the problem by its tokens
abbrev pub PlaceSeparates : Problem → RegionPlace → Type 0
PlaceSeparates problem r = Separates (shown_place r.place) (region_tokens r) problem

-- the tokens are the numbers of the states that are made on the way to the place
pub record AreTokensMade (s : Setting) (problem : Problem) (start : Ratio) (value : ℕ → Ratio) (tokens : List ℕ) : Type 0 where
  pub numbers : List Ratio
  pub made : numbers_fold s problem start value (Ok numbers)
  pub tokens_are : tokens ≡ map (λ n. unsigned_abs n.top) numbers
