-- Places that are kept from the start don't change which problem is refuted first.
use Rattle.std.proofs.Common.{◌↔◌, List, [], All, None}
use Rattle.std.proofs.lemmas.List.Elements.{All-nil}
use Rattle.rg_theory.specs.System.{IsInRange, IsAllReachable}
use Rattle.rg_theory.specs.Net.{Place}
use Rattle.rg_theory.specs.ClassWords.{HasNumbersInRange}
use Rattle.rg_theory.specs.Region.{IsRegion, IsRegionIn}
use Rattle.rg_theory.specs.declared.Problem.{Problem}
use Rattle.rg_theory.specs.Tree.{IsTree}
use Rattle.rg_cert_meaning.specs.Refutes.{Tree}
use Rattle.rg_case_folds.specs.Setting.{Setting}
use Rattle.rg_case_folds.specs.Chords.{IsBasis}
use Rattle.rg_outcome.specs.Solving.{ProblemComes}
use Rattle.rg_outcome.specs.Coming.{Separation, Separation.unsolvable, ComesFrom, AllComeTo}
use Rattle.rg_outcome.proofs.Decided.{other_numbers}
use Rattle.rg_outcome.proofs.Existing.{some_from_kept}
use Rattle.rg_outcome.proofs.Inseparable.{inseparable}
use Rattle.rg_outcome.proofs.Placed.{places_separate, refuted_stay}
use Rattle.rg_outcome.proofs.ProblemResults.{all_results}
use Rattle.rg_outcome.proofs.Saying.{SparesRefuted, refusal_from}
use Rattle.rg_outcome.proofs.Solvings.{same_solved}

module _ (s : Setting) (fine : IsInRange s.lts) (numbers : HasNumbersInRange s.class) (reachable : IsAllReachable s.lts) (is_tree : IsTree s.lts s.tree) (is_basis : IsBasis s.lts s.tree s.basis) where
  -- a region of the class separates no refuted problem
  region_spares : (p : Place) → IsRegionIn s.lts s.class p → SparesRefuted s.lts (ProblemComes s) p
  region_spares p (m, region) problem (is, (trees, has)) (m', region', sep) =
      inseparable s fine numbers reachable is_tree is_basis problem trees is has p m region (other_numbers s.lts reachable p m m' problem is region.region region' sep)

  some : (kept : List Place) → All (IsRegion s.lts) kept → (o : Separation) × ComesFrom s.lts (ProblemComes s) None kept o
  some = some_from_kept s.lts (ProblemComes s) reachable (all_results s fine numbers reachable is_tree is_basis) (places_separate s fine numbers reachable is_tree is_basis)

  pub refusal_stays : (kept : List Place) (problem : Problem) (trees : List Tree) → All (IsRegionIn s.lts s.class) kept
      → ComesFrom s.lts (ProblemComes s) None kept (unsolvable problem trees) ↔ AllComeTo s.lts (ProblemComes s) (unsolvable problem trees)
  refusal_stays kept problem trees regions = (to, from)
    where
      spares : All (SparesRefuted s.lts (ProblemComes s)) kept
      spares i d lt = region_spares _ (regions i d lt)

      nothing : All (SparesRefuted s.lts (ProblemComes s)) []
      nothing = All-nil (SparesRefuted s.lts (ProblemComes s))

      to : ComesFrom s.lts (ProblemComes s) None kept (unsolvable problem trees) → AllComeTo s.lts (ProblemComes s) (unsolvable problem trees)
      to d =
          let (o, d') = some [] (All-nil (IsRegion s.lts)) in
          refusal_from s.lts (ProblemComes s) (same_solved s) (refuted_stay s fine numbers reachable is_tree is_basis) kept [] problem trees o spares nothing d d'

      from : AllComeTo s.lts (ProblemComes s) (unsolvable problem trees) → ComesFrom s.lts (ProblemComes s) None kept (unsolvable problem trees)
      from d =
          let (o, d') = some kept (λ i x lt. let (m, region) = regions i x lt in (m, region.region)) in
          refusal_from s.lts (ProblemComes s) (same_solved s) (refuted_stay s fine numbers reachable is_tree is_basis) [] kept problem trees o nothing spares d d'
