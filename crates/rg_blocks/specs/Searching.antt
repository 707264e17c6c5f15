-- A search for places: what it works with, and what it has found.
use Rattle.std.specs.Prelude.{◌≤◌, IfSome}
use Rattle.rg_theory.specs.System.{System, IsAllReachable}
use Rattle.rg_theory.specs.Net.{Place}
use Rattle.rg_theory.specs.declared.Problem.{Problem}
use Rattle.rg_theory.specs.Problem.{IsProblem}
use Rattle.rg_marks.specs.declared.region_place.RegionPlace.{RegionPlace}
use Rattle.rg_outcome.specs.Solving.{Solved}
use Rattle.rg_blocks.specs.Taking.{AreKeepable, AreNotable}
use Rattle.rg_blocks.specs.Separating.{EachPlaceSeparates}
use Rattle.rg_blocks.specs.declared.search.Search.{Search}
use Rattle.rg_blocks.specs.declared.search.Progress.{Progress}

-- all states are reachable, and there is a job; each problem of the system may be solved, and each place that is made separates its problem,
-- may be kept, and may be noted
pub record CanSearch {S G : Type 0} (search : Search S G) (asks : S → Problem → Type 0) (comes : S → Problem → Solved → Type 0)
    (makes : S → RegionPlace → Type 0) (may_keep : System → RegionPlace → Type 0)
    (may_keep_compact : System → Place → Type 0) : Type 0 where
  pub some : 1 ≤ search.jobs
  pub reachable : IsAllReachable search.lts.now
  pub asked : (problem : Problem) → IsProblem search.lts.now problem → asks search.solving.now problem
  pub separating : EachPlaceSeparates search.lts.now (comes search.solving.now)
  pub keepable : AreKeepable (makes search.solving.now) (may_keep search.lts.now) (may_keep_compact search.lts.now)
  pub notable : AreNotable search.lts.now (makes search.solving.now)

-- the places are kept for the system, the workspace serves the solving, and the proof shows that its problem is refuted
pub record IsSearching {S G K W P : Type 0} (search : Search S G) (keeps_for : K → System → Type 0) (serves : S → W → Type 0)
    (proves : S → Problem → P → Type 0) (progress : Progress K W P) : Type 0 where
  pub kept : keeps_for progress.kept search.lts.now
  pub workspace : serves search.solving.now progress.workspace
  pub proof : IfSome progress.proof (λ p. proves search.solving.now p.0 p.1)
