-- What the search comes to.
use Rattle.std.proofs.Common.{◌≤◌, List, get_or, All, Result, Ok, Err, IfOk, subst, arith}
use Rattle.rg_theory.specs.System.{System, IsAllReachable}
use Rattle.rg_theory.specs.declared.Class.{Class}
use Rattle.rg_theory.specs.ClassWords.{HasNumbersInRange}
use Rattle.rg_theory.specs.Problem.{SeparateAll}
use Rattle.rg_theory.proofs.Yes.{region_unique}
use Rattle.rg_integers.specs.Range.{greatest}
use Rattle.rg_theory.specs.Net.{Place}
use Rattle.rg_outcome.specs.Coming.{Separation.places}
use Rattle.rg_theory.specs.Region.{IsRegionIn}
use Rattle.rg_outcome.specs.Outcome.{Searched}
use Rattle.rg_outcome.proofs.Right.{search_right}
use Rattle.rg_separate.specs.declared.separation.SeparationWithFirsts.{SeparationWithFirsts}
use Rattle.rg_separate.specs.declared.separation.SeparationWithFirsts.TheVariants as with_firsts
use Rattle.rg_separate.specs.Answer.{IsNarrowRegion, AreSeparating, ending_with_firsts, IfPlaces, SearchTells, IsSearched}
use Rattle.rg_lts.specs.WellFormed.{IsWellFormed}
use Rattle.rg_blocks.proofs.RankLemmas.{most_at_limits}
use Rattle.rg_separate.specs.Keeping.{IsKept}
use Rattle.rg_separate.proofs.Few.{searched_few}

-- the numbers of a region of the class are those with which it is kept
narrow : (lts : System) (class : Class) (p : Place) → IsAllReachable lts → IsKept lts p → IsRegionIn lts class p → IsNarrowRegion lts class p
narrow lts class p reachable kept (m, region) = record {
  m = m;
  region = region;
  narrow = λ s lt. subst (λ n. n ≤ greatest) (region_unique lts p kept.narrow.m m kept.narrow.region region.region s (reachable.each s lt)) (kept.narrow.narrow s lt);
}

module _ (lts : System) (class : Class) (fine : IsWellFormed lts) (numbers : HasNumbersInRange class) (reachable : IsAllReachable lts) where
  -- the places with which the search ends are regions that separate all problems
  separating : (kept : List Place) → All (IsKept lts) kept → Searched lts class (places kept) → AreSeparating lts class kept
  separating kept are searched = record {
    regions = λ i d lt. narrow lts class (get_or kept i d) reachable (are i d lt) (right.0 i d lt);
    in_range = record {
      weights = λ i d lt. ((are i d lt).narrow.pre, (are i d lt).narrow.post);
      places = λ i d lt. (are i d lt).in_range;
      few = let few = searched_few lts class kept searched in let most = most_at_limits lts fine in omega arith;
    };
    few = searched_few lts class kept searched;
    separate = right.1;
  }
    where
      right : All (IsRegionIn lts class) kept × SeparateAll kept lts
      right = search_right lts class fine.in_range numbers reachable (places kept) searched

  found_separating : (s : SeparationWithFirsts) → SearchTells lts class s → IsSearched lts class (ending_with_firsts s) → IfPlaces (ending_with_firsts s) (AreSeparating lts class)
  found_separating (with_firsts.Places ps firsts) tells is = separating ps.items tells.0 (subst (Searched lts class) is.shows is.searched)
  found_separating (with_firsts.Unsolvable cert ps) tells is = tt
  found_separating (with_firsts.TooWide w) tells is = tt

  pub ok_separating : {E : Type 0} (r : Result SeparationWithFirsts E) → IfOk r (SearchTells lts class) → IfOk r (λ s. IsSearched lts class (ending_with_firsts s))
      → IfOk r (λ s. IfPlaces (ending_with_firsts s) (AreSeparating lts class))
  ok_separating (Ok s) tells is = found_separating s tells is
  ok_separating (Err e) tells is = tt
