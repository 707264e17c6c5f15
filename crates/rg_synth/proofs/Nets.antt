-- A net of places that separate is one that solves.
use Rattle.std.proofs.Common.{◌≡◌, ◌≤◌, List, [], All, sym, ap, subst, ◌∙◌, arith}
use Rattle.std.proofs.lemmas.Option.{get_or_from_slice_get, slice_get_within}
use Rattle.rg_theory.specs.System.{System, labels, IsInRange, IsAllReachable}
use Rattle.rg_theory.specs.Net.{Place, Net, tokens}
use Rattle.rg_theory.specs.Solves.{Solves, marking_of}
use Rattle.rg_theory.specs.Class.{IsBounded}
use Rattle.rg_theory.specs.declared.Class.{Class}
use Rattle.rg_theory.specs.Region.{IsRegionIn}
use Rattle.rg_theory.proofs.Classes.{yes_in_class}
use Rattle.rg_theory.proofs.Solution.{solution_of, places_are_regions, solved_reachable, solved_separates}
use Rattle.rg_theory.proofs.Yes.{region_unique}
use Rattle.rg_net.specs.Range.{IsNetInRange}
use Rattle.rg_integers.specs.Range.{greatest}
use Rattle.rg_theory.specs.Pruned.{IsPruned}
use Rattle.rg_theory.proofs.Leaving.{left_separates, left_needed, left_no_more}
use Rattle.rg_separate.specs.Answer.{IsNarrowRegion, AreSeparating}
use Rattle.rg_synth.specs.Answer.{IsSolvingNet}
use Rattle.rg_synth.proofs.Pruned.{all_left}

regions_of : (lts : System) (class : Class) (places : List Place) → All (IsNarrowRegion lts class) places → All (IsRegionIn lts class) places
regions_of lts class places all i p lt = let narrow = all i p lt in (narrow.m, narrow.region)

-- a reachable marking has no more tokens on a place than its region has at some state
narrow_markings : (lts : System) (class : Class) (net : Net) → IsInRange lts → Solves net lts → All (IsNarrowRegion lts class) net.places → IsBounded net greatest
narrow_markings lts class net fine sol each m reached i p at =
    let is = solution_of lts net fine sol in
    let (s, lt, e) = is.only m reached in
    let narrow = subst (IsNarrowRegion lts class) (get_or_from_slice_get net.places i p p at) (each i p (slice_get_within net.places i p at)) in
    let reach = solved_reachable lts net (marking_of sol.markings) fine sol.transitions is in
    let same : tokens (marking_of sol.markings s) i ≡ narrow.m s =
    region_unique lts p _ narrow.m (places_are_regions lts net (marking_of sol.markings) is i p at) narrow.region.region s (reach.each s lt) in
    subst (λ n. n ≤ greatest) (sym same ∙ ap (λ m. tokens m i) e) (narrow.narrow s lt)

-- what is left of places that separate makes a net that solves
pub solving_net : (lts : System) (class : Class) (places : List Place) (net : Net) → IsInRange lts → IsAllReachable lts
    → AreSeparating lts class places → net.labels ≡ labels lts → IsNetInRange net → IsPruned lts places net.places → IsSolvingNet lts class net
solving_net lts class places net fine reachable are transitions numbers pruned =
    let regions = all_left lts places net.places (IsNarrowRegion lts class) pruned are.regions in
    let separate = left_separates lts [] places net.places pruned are.separate in
    let (solves, in_class) = yes_in_class lts net class fine reachable transitions (regions_of lts class net.places regions) separate in
    record {
      in_range = numbers;
      solves = solves;
      in_class = in_class;
      irredundant = λ i lt without. left_needed lts [] places net.places pruned i lt (solved_separates lts _ fine without);
      few = let no_more = left_no_more lts [] places net.places pruned in let few = are.few in omega arith;
      narrow = narrow_markings lts class net fine solves regions;
    }
