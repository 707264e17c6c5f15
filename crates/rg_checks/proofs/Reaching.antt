-- The steps of a system, and which states can be reached.
use Rattle.std.proofs.Common.{◌≡◌, ◌≢◌, ◌⊎◌, inl, inr, ⊎_elim, ℕ, ◌<◌, List, [], Option, None, Some, get_or, slice_get, Contains, refl, sym, ap, ◌∙◌, true, arith}
use Rattle.std.proofs.lemmas.Bool.{cases_eq}
use Rattle.std.proofs.lemmas.Option.{none-some, slice_get-get_or, get_or_from_slice_get}
use Rattle.rg_theory.specs.declared.Arc.{Arc}
use Rattle.rg_theory.specs.System.{System, states, arc, IsReachable, IsInRange}
use Rattle.rg_theory.proofs.Closed.{stays_inside, reached_more}
use Rattle.rg_checks.specs.declared.walks.Step.{Step}
use Rattle.rg_checks.specs.Closure.{IsEntered, begin, then, is_met, IsClosure}
use Rattle.rg_checks.specs.Met.{AreSteps}
use Rattle.rg_checks.proofs.Walking.{met_cases, initial_met, step_met}
use Rattle.rg_checks.proofs.Graphs.{entered_as}

-- a state that is entered can be reached
pub entered_reached : (lts : System) (steps : List (Option Step)) (s : ℕ) → IsEntered (Contains lts.arcs) lts.initial steps s → IsReachable lts s
entered_reached lts steps s begin = ([], refl)
entered_reached lts steps s (then q step before at has) = reached_more lts step.before step.label q (entered_reached lts steps step.before before) has

-- what the arcs of the system reach
module _ (lts : System) (P : Arc → Type 0) (any : (a : Arc) → Contains lts.arcs a → P a) (only : (a : Arc) → P a → Contains lts.arcs a) (fine : IsInRange lts)
    (steps : List (Option Step)) (c : IsClosure P (states lts) lts.initial steps) where
  entered : (s : ℕ) → is_met lts.initial steps s ≡ true → IsEntered (Contains lts.arcs) lts.initial steps s
  entered s met = entered_as P (Contains lts.arcs) only lts.initial steps s (c.entered s met)

  reached_met : (s : ℕ) → IsReachable lts s → is_met lts.initial steps s ≡ true
  reached_met s reached =
      stays_inside lts (is_met lts.initial steps) (λ q t q' has. c.closed (arc q t q') (any (arc q t q') has)) lts.initial reached.0 s reached.1 (initial_met lts.initial steps)

  at : (s : ℕ) → s < states lts → slice_get steps s ≡ Some (get_or steps s None)
  at s lt = slice_get-get_or steps s None (let n = c.long in omega arith)

  pub steps_are : AreSteps lts steps
  steps_are = record {
    long = c.long;
    initial = at lts.initial fine.initial ∙ ap Some c.initial;
    none = λ s lt other. ((λ is reached. unreached s other is (met_cases lts.initial steps s (reached_met s reached))), λ far. by s lt far (get_or steps s None) refl);
    walk = λ s step is. entered s (step_met lts.initial steps s step (get_or_from_slice_get steps s (Some step) None is));
  }
    where
      unreached : (s : ℕ) → s ≢ lts.initial → slice_get steps s ≡ Some None → (s ≡ lts.initial) ⊎ ((step : Step) × (get_or steps s None ≡ Some step)) → ⊥
      unreached s other is (inl same) = other same
      unreached s other is (inr found) = none-some found.0 (sym (get_or_from_slice_get steps s None None is) ∙ found.1)

      by : (s : ℕ) → s < states lts → (IsReachable lts s → ⊥) → (o : Option Step) → get_or steps s None ≡ o → slice_get steps s ≡ Some None
      by s lt far None is = at s lt ∙ ap Some is
      by s lt far (Some step) is = absurd (far (entered_reached lts steps s (entered s (step_met lts.initial steps s step is))))

-- steps that are right tell which states can be reached
pub met_reached : (lts : System) (steps : List (Option Step)) (s : ℕ) → AreSteps lts steps → s < states lts → is_met lts.initial steps s ≡ true → IsReachable lts s
met_reached lts steps s are lt met = ⊎_elim (λ same. ([], sym same)) (λ found. entered_reached lts steps s (are.walk s found.0 (here found.0 found.1))) (met_cases lts.initial steps s met)
  where
    here : (step : Step) → get_or steps s None ≡ Some step → slice_get steps s ≡ Some (Some step)
    here step is = slice_get-get_or steps s None (let n = are.long in omega arith) ∙ ap Some is

pub reached_is_met : (lts : System) (steps : List (Option Step)) (s : ℕ) → AreSteps lts steps → s < states lts → IsReachable lts s → is_met lts.initial steps s ≡ true
reached_is_met lts steps s are lt reached = by (cases_eq s lts.initial)
  where
    found : (o : Option Step) → get_or steps s None ≡ o → s ≢ lts.initial → is_met lts.initial steps s ≡ true
    found None is ne = absurd ((are.none s lt ne).0 (slice_get-get_or steps s None (let n = are.long in omega (arith, n, lt)) ∙ ap Some is) reached)
    found (Some step) is ne = step_met lts.initial steps s step is

    by : (s ≡ lts.initial) ⊎ (s ≡ lts.initial → ⊥) → is_met lts.initial steps s ≡ true
    by (inl e) = ap (is_met lts.initial steps) e ∙ initial_met lts.initial steps
    by (inr ne) = found (get_or steps s None) refl ne
