-- The states that can be reached are a closed set.
use Rattle.std.proofs.Common.{◌≡◌, ◌≢◌, ◌↔◌, ℕ, ◌<◌, ◌==◌, ◌||◌, Bool, true, false, not}
use Rattle.std.proofs.Common.{List, Option, Some, None, is_some, length, get_or, slice_get, IsTrue, true≢false, refl, sym, ap, subst, ◌∙◌, arith}
use Rattle.std.proofs.lemmas.List.Elements.{All-contains}
use Rattle.std.proofs.lemmas.Option.{slice_get-get_or, slice_get_read, get_or_from_slice_get}
use Rattle.std.proofs.lemmas.Bool.{false_from_ne_true}
use Rattle.std.proofs.lemmas.Bool.Decides.{nat_tests}
use Rattle.rg_theory.specs.System.{System, arc, states, IsInRange, IsArcInRange, HasArc, IsReachable, IsAllReachable, IsLeastUnreachable, IsClosedWithout}
use Rattle.rg_theory.proofs.Closed.{stays_inside, reached_more}
use Rattle.rg_checks.specs.declared.walks.Step.{Step}
use Rattle.rg_checks.specs.Closure.{is_met}
use Rattle.rg_checks.specs.Met.{AreSteps}
use Rattle.rg_checks.proofs.Walking.{initial_met, unmet_none}
use Rattle.rg_checks.proofs.Reaching.{met_reached}

-- exactly the states outside can't be reached
pub record TellsReachable (lts : System) (inside : ℕ → Bool) : Type 0 where
  pub initial : inside lts.initial ≡ true
  pub each : (s : ℕ) → s < states lts → (inside s ≡ false) ↔ (IsReachable lts s → ⊥)

-- a state that can't be reached is one that some closed set is without
pub shut_out : (lts : System) (inside : ℕ → Bool) (s : ℕ) → IsInRange lts → TellsReachable lts inside → s < states lts
    → (inside s ≡ false) ↔ ((without : ℕ → Bool) × IsClosedWithout lts s without)
shut_out lts inside s fine tells lt = (λ out. (inside, record { initial = tells.initial; closed = closed; without = out }), back)
  where
    closed : (q t q' : ℕ) → HasArc lts q t q' → inside q ≡ true → inside q' ≡ true
    closed q t q' has is = by (inside q') refl
      where
        range : IsArcInRange lts (arc q t q')
        range = All-contains (IsArcInRange lts) lts.arcs (arc q t q') fine.arcs has

        by : (b : Bool) → inside q' ≡ b → b ≡ true
        by true e = refl
        by false e =
            let far = (tells.each q' range.2).0 e in
            let near = (tells.each q range.0).1 (λ reached. far (reached_more lts q t q' reached has)) in
            absurd (true≢false (sym is ∙ near))

    back : (without : ℕ → Bool) × IsClosedWithout lts s without → inside s ≡ false
    back (without, c) =
        (tells.each s lt).1 (λ (ts, path). true≢false (sym (stays_inside lts without c.closed lts.initial ts s path c.initial) ∙ c.without))

-- the steps tell which states can be reached
pub told : (lts : System) (steps : List (Option Step)) → AreSteps lts steps → TellsReachable lts (is_met lts.initial steps)
told lts steps are = record {
  initial = initial_met lts.initial steps;
  each = λ s lt. (unmet s lt, λ far. false_from_ne_true (is_met lts.initial steps s) (λ met. far (met_reached lts steps s are lt met)));
}
  where
    unmet : (s : ℕ) → s < states lts → is_met lts.initial steps s ≡ false → IsReachable lts s → ⊥
    unmet s lt out = (are.none s lt other).0 (slice_get-get_or steps s None (subst (λ n. s < n) (sym are.long) lt) ∙ ap Some (unmet_none lts.initial steps s out))
      where
        other : s ≢ lts.initial
        other e = true≢false (sym (initial_met lts.initial steps) ∙ ap (is_met lts.initial steps) (sym e) ∙ out)

-- a state that isn't met is the least that can't be reached, where all before it are met
pub least_unreachable : (lts : System) (steps : List (Option Step)) (s : ℕ) → AreSteps lts steps → s < states lts → is_met lts.initial steps s ≡ false
    → ((r : ℕ) → r < s → is_met lts.initial steps r ≡ true) → IsLeastUnreachable lts s
least_unreachable lts steps s are lt out before = record {
  state = lt;
  unreachable = ((told lts steps are).each s lt).0 out;
  least = λ r less. met_reached lts steps r are (omega arith) (before r less);
}

pub all_reachable : (lts : System) (steps : List (Option Step)) → AreSteps lts steps → ((r : ℕ) → r < states lts → is_met lts.initial steps r ≡ true) → IsAllReachable lts
all_reachable lts steps are met = record { each = λ s lt. met_reached lts steps s are lt (met s lt) }

not_false : (b : Bool) (o : Bool) → o ≡ not b → (b ≡ true) ↔ (o ≡ false)
not_false true o is = ((λ e. is), λ e. refl)
not_false false o is = ((λ e. absurd (true≢false (sym e))), λ e. absurd (true≢false (sym is ∙ e)))

-- a state that isn't initial has no step exactly where some closed set is without it
pub no_step : (lts : System) (steps : List (Option Step)) (s : ℕ) (entry : Option Step) (b : Bool) → IsInRange lts → AreSteps lts steps → s < states lts → s ≢ lts.initial
    → entry ≡ get_or steps s entry → is_some entry ≡ not b → IsTrue b ↔ ((without : ℕ → Bool) × IsClosedWithout lts s without)
no_step lts steps s entry b fine are lt other at is =
    let here : slice_get steps s ≡ Some entry = slice_get_read steps (length steps) s entry refl (subst (λ n. s < n) (sym are.long) lt) at in
    let same : entry ≡ get_or steps s None = sym (get_or_from_slice_get steps s entry None here) in
    let off : (s == lts.initial) ≡ false = grind (arith, nat_tests) in
    let met : is_met lts.initial steps s ≡ is_some entry = ap (λ t. t || is_some (get_or steps s None)) off ∙ ap is_some (sym same) in
    let turned = not_false b (is_some entry) is in
    let out = shut_out lts (is_met lts.initial steps) s fine (told lts steps are) lt in
    ((λ t. out.0 (met ∙ turned.0 t)), λ h. turned.1 (sym met ∙ out.1 h))
