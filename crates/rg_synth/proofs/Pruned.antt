-- What is left of places that separate.
use Rattle.std.proofs.Common.{◌≡◌, ℕ, List, [], length, get_or, All, arith}
use Rattle.std.proofs.lemmas.List.Elements.{All-contains, Contains-get_or}
use Rattle.rg_theory.specs.System.{System}
use Rattle.rg_theory.specs.Net.{Place}
use Rattle.rg_theory.specs.declared.Class.{Class}
use Rattle.rg_net.specs.Range.{IsPlaceInRange, IsNetInRange}
use Rattle.rg_separate.specs.Answer.{IsNarrowRegion, AreSeparating}
use Rattle.rg_theory.specs.Pruned.{IsPruned}
use Rattle.rg_marks.specs.Tokens.{IsNarrow}
use Rattle.rg_theory.proofs.Leaving.{left_among, left_no_more}

-- what is true of all places is true of those left
pub all_left : (lts : System) (places left : List Place) (P : Place → Type 0) → IsPruned lts places left → All P places → All P left
all_left lts places left P pruned all k d lt = All-contains P places _ all (left_among lts [] places left pruned _ (Contains-get_or left k d lt))

-- a net in range stays so
pub left_in_range : (lts : System) (n : ℕ) (places left : List Place) → IsPruned lts places left
    → IsNetInRange (record { labels = n; places = places }) → IsNetInRange (record { labels = n; places = left })
left_in_range lts n places left pruned are = record {
  weights = all_left lts places left (λ p. (length p.pre ≡ n) × (length p.post ≡ n)) pruned are.weights;
  places = all_left lts places left IsPlaceInRange pruned are.places;
  few = let no_more = left_no_more lts [] places left pruned in let few = are.few in omega arith;
}

-- they are as pruning wants them
pub narrow_all : (lts : System) (class : Class) (places : List Place) → AreSeparating lts class places → All (IsNarrow lts) places
narrow_all lts class places are k d lt =
    let region : IsNarrowRegion lts class (get_or places k d) = are.regions k d lt in
    let weights = are.in_range.weights k d lt in
    record { m = region.m; region = region.region.region; narrow = region.narrow; pre = weights.0; post = weights.1 }
