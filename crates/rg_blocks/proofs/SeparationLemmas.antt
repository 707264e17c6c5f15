-- One block after the other, and the end.
use Rattle.std.proofs.Common.{◌≡◌, List, [], ◌∷◌, ◌++◌, All, Option, None, Some, IfSome, IfNone, refl, sym, subst}
use Rattle.rg_theory.specs.System.{System, IsAllReachable}
use Rattle.rg_theory.specs.Net.{Place}
use Rattle.rg_theory.specs.declared.Problem.{Problem}
use Rattle.rg_theory.specs.Problem.{IsProblem}
use Rattle.rg_theory.specs.Region.{IsRegion}
use Rattle.rg_cert_meaning.specs.Refutes.{Tree}
use Rattle.rg_outcome.specs.Solving.{Solved, Solved.refuted}
use Rattle.rg_outcome.specs.Coming.{Separation, Separation.places, Separation.unsolvable, Separation.too_wide, IsFirstProblem, IsLeft, IsNext, IsDone, IsSound, ComesFrom, ComesFrom.keeps, ComesFrom.goes_on, ComesFrom.ends, ComesFrom.all_separated, ComesFrom.one_is_left}
use Rattle.rg_outcome.specs.Blocks.{IsBlock, last_of, AfterBlock.kept_places, AfterBlock.refuted_one, TakenOver}
use Rattle.rg_outcome.proofs.BlockLemmas.{taken_over, sound_after}
use Rattle.rg_outcome.proofs.Existing.{all_separated_at, shows_its_term}
use Rattle.rg_blocks.specs.Separating.{EachPlaceSeparates, EndsSearch}

-- what comes after the last problem, with the places kept now, comes of all problems
pub record LeadsTo (lts : System) (comes : Problem → Solved → Type 0) (before now : List Place) (last : Option Problem) : Type 0 where
  pub leads : (o : Separation) → ComesFrom lts comes last now o → ComesFrom lts comes None before o

pub block_leads : (lts : System) (comes : Problem → Solved → Type 0) (before now after : List Place) (last end : Option Problem)
    (problems : List Problem) → LeadsTo lts comes before now last → IsBlock lts now last problems → last_of last problems ≡ end
    → TakenOver lts comes now problems (kept_places after) → LeadsTo lts comes before after end
block_leads lts comes before now after last end problems leads is e taken =
    record {
      leads = λ o d. leads.leads o (taken_over lts comes now now last problems (kept_places after) (λ q sep. sep) is taken o
          (subst (λ x. ComesFrom lts comes x after o) (sym e) d));
    }

pub block_sound : (lts : System) (comes : Problem → Solved → Type 0) (now after : List Place) (last end : Option Problem) (problems : List Problem)
    → IsAllReachable lts → EachPlaceSeparates lts comes → IsSound lts comes last now → IsBlock lts now last problems → last_of last problems ≡ end
    → TakenOver lts comes now problems (kept_places after) → IsSound lts comes end after
block_sound lts comes now after last end problems reachable right sound is e taken =
    subst (λ x. IsSound lts comes x after) e (sound_after lts comes reachable right.separate now now last problems (kept_places after) (λ q sep. sep) is taken sound)

-- the search may begin with regions
pub sound_from : (lts : System) (comes : Problem → Solved → Type 0) (kept : List Place) → All (IsRegion lts) kept → IsSound lts comes None kept
sound_from lts comes kept regions = record { over = λ problem is not_behind. absurd (not_behind tt); regions = regions }

-- ---- the end

-- a refuted problem that ends all is of the system, and comes to its trees
refuted_has : (lts : System) (comes : Problem → Solved → Type 0) (last : Option Problem) (kept : List Place) (q : Problem) (trees : List Tree)
    → ComesFrom lts comes last kept (unsolvable q trees) → IsProblem lts q × comes q (refuted trees)
refuted_has lts comes last kept q trees (keeps problem p is has d) = refuted_has lts comes (Some problem) (kept ++ p ∷ []) q trees d
refuted_has lts comes last kept q trees (goes_on problem w is has d) = refuted_has lts comes (Some problem) kept q trees d
refuted_has lts comes last kept q trees (ends problem all is has) = (is.0.0.0, has)

pub block_ends : (lts : System) (comes : Problem → Solved → Type 0) (before now after : List Place) (last : Option Problem) (problems : List Problem)
    (q : Problem) → LeadsTo lts comes before now last → IsBlock lts now last problems
    → ((trees : List Tree) × TakenOver lts comes now problems (refuted_one q trees)) → EndsSearch lts comes before after (Some q)
block_ends lts comes before now after last problems q leads is (trees, taken) =
    let d = leads.leads (unsolvable q trees) (taken_over lts comes now now last problems (refuted_one q trees) (λ q sep. sep) is taken) in
    let has = refuted_has lts comes None before q trees d in
    record { o = unsolvable q trees; comes_to = d; shows = (refl, has.0, has.1) }

-- no problem is refuted: some one is left and shows its term, or the places separate all
pub all_end : (lts : System) (comes : Problem → Solved → Type 0) (before after : List Place) (last next : Option Problem) → IsAllReachable lts
    → IsDone lts after last → LeadsTo lts comes before after last → IsSound lts comes last after
    → IfSome next (IsNext lts after None) → IfNone next (IsDone lts after None) → EndsSearch lts comes before after next
all_end lts comes before after last (Some q) reachable done leads sound is none =
    let first : IsFirstProblem (IsLeft lts after) q = (is.0.0, λ earlier less left. is.1 earlier less (left, tt)) in
    let (w, has) = shows_its_term lts comes reachable last after q sound done is.0.0 in
    record { o = too_wide w; comes_to = leads.leads (too_wide w) (one_is_left q w done first has); shows = (first, has) }
all_end lts comes before after last None reachable done leads sound is none =
    let separate = all_separated_at lts comes reachable after sound.regions (λ q left. none q tt left) in
    record { o = places after; comes_to = leads.leads (places after) (all_separated separate); shows = (refl, separate) }
