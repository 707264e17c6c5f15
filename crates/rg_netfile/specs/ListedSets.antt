-- Sets of places as lists of those with a weight other than 0.
use Rattle.std.specs.Prelude.{◌≡◌, ℕ, ◌+◌, ◌<◌, ◌≤◌, ◌==◌, if◌then◌else◌, List, [], ◌∷◌, ◌++◌, length, slice_index, slice_index_or}
use Rattle.rg_theory.specs.Net.{Net}
use Rattle.rg_net.specs.NetText.{taken_by, put_by}
use Rattle.rg_net.specs.declared.net.Place.{Place}
use Rattle.rg_netfile.specs.declared.flows.WeightedPlace.{WeightedPlace}
use Rattle.rg_netfile.specs.declared.flows.Flow.{Flow}

-- place i with its weight, unless that is 0
abbrev pub member_if : ℕ → ℕ → List WeightedPlace
member_if i weight = if weight == 0 then [] else record { place = i; weight = weight } ∷ []

-- the members of the set of these weights, of which the first is that of place i
abbrev pub members_from : ℕ → List ℕ → List WeightedPlace
members_from i [] = []
members_from i (weight ∷ weights) = member_if i weight ++ members_from (i + 1) weights

-- the members of the set of these weights
abbrev pub members_of : List ℕ → List WeightedPlace
members_of weights = members_from 0 weights

-- what label t takes from places, and what it puts on them
pub record IsFlow (net : Net) (t : ℕ) (flow : Flow) : Type 0 where
  pub taken : flow.taken.items ≡ members_of (taken_by net t)
  pub put : flow.put.items ≡ members_of (put_by net t)

-- one flow for each label
pub record AreFlows (net : Net) (flows : List Flow) : Type 0 where
  pub one_each : length flows ≡ net.labels
  pub each : (t : ℕ) (d : Flow) → t < net.labels → IsFlow net t (slice_index_or flows t d)

-- the first n of the flows have place i too, the others are as before
pub record AreFlowsWith (place : Place) (i n : ℕ) (before after : List Flow) : Type 0 where
  pub long : length after ≡ length before
  pub taken : (t : ℕ) (d : Flow) → t < n → t < length before
      → (slice_index_or after t d).taken.items ≡ (slice_index_or before t d).taken.items ++ member_if i (slice_index place.pre.items t)
  pub put : (t : ℕ) (d : Flow) → t < n → t < length before
      → (slice_index_or after t d).put.items ≡ (slice_index_or before t d).put.items ++ member_if i (slice_index place.post.items t)
  pub left : (t : ℕ) (d : Flow) → n ≤ t → t < length before → slice_index_or after t d ≡ slice_index_or before t d
