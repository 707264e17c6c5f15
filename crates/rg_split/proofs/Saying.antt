-- What each result of the rounds says.
use Rattle.std.proofs.Common.{◌≡◌, ◌⊎◌, inl, inr, ℕ, ◌<◌, length, List, refl, sym, ap, subst}
use Rattle.rg_theory.specs.System.{System, states, labels, IsReachable, IsAllReachable, IsLeastUnreachable}
use Rattle.rg_theory.specs.Net.{Net, Place}
use Rattle.rg_theory.specs.Solves.{Solves}
use Rattle.rg_theory.specs.Class.{InClass}
use Rattle.rg_theory.specs.ClassWords.{no_condition}
use Rattle.rg_lts.specs.WellFormed.{IsWellFormed}
use Rattle.rg_cert_meaning.specs.Refutes.{Reason, Reason.unreachable as of_state, Reason.fork, Reason.refuted}
use Rattle.rg_case_folds.specs.Shown.{Shown}
use Rattle.rg_outcome.specs.Coming.{Separation, Separation.places as of_places, Separation.unsolvable as of_problem, Separation.too_wide as of_wide}
use Rattle.rg_outcome.specs.Outcome.{Answer, Answer.net as of_net, Answer.unsolvable as of_reason, Answer.too_wide as of_term, Gives, Out, Out.a_state, Out.a_fork, Out.a_search}
use Rattle.rg_outcome.proofs.Right.{answer_right}
use Rattle.rg_synth.proofs.Answers.{no_numbers}
use Rattle.rg_split.specs.Round.{IsToldApart}
use Rattle.rg_split.specs.Right.{IsRight}
use Rattle.rg_split.specs.Rounds.{Labelling, itself, IsNext, HasLabel, Splitting, Splitting.done, Splitting.unreachable, Splitting.too_wide, RoundsCome, RoundsCome.solved, RoundsCome.not_reached, RoundsCome.passed, RoundsCome.no_room, RoundsCome.goes_on}
use Rattle.rg_split.proofs.Once.{one_label}
use Rattle.rg_split.proofs.Parted.{to_split}
use Rattle.rg_split.proofs.Reached.{reached, reached_back}
use Rattle.rg_split.proofs.Always.{told_itself, told_next}

-- ---- states that can't be reached

-- an answer that is such a state is the least one, and any other reason comes where all can be reached
abbrev TellsStates : System → Answer → Type 0
TellsStates system (of_reason (of_state s)) = IsLeastUnreachable system s
TellsStates system (of_reason reason) = IsAllReachable system
TellsStates system a = Unit {0}

gives_states : (system : System) (o : Separation) (a : Answer) → IsAllReachable system → Gives system o a → TellsStates system a
gives_states system (of_places kept) (of_net left) reachable g = tt
gives_states system (of_places kept) (of_reason reason) reachable g = absurd g
gives_states system (of_places kept) (of_term w) reachable g = absurd g
gives_states system (of_problem problem trees) (of_net left) reachable g = absurd g
gives_states system (of_problem problem trees) (of_reason reason) reachable g = subst (λ r. TellsStates system (of_reason r)) (sym g) reachable
gives_states system (of_problem problem trees) (of_term w) reachable g = absurd g
gives_states system (of_wide w) (of_net left) reachable g = absurd g
gives_states system (of_wide w) (of_reason reason) reachable g = absurd g
gives_states system (of_wide w) (of_term v) reachable g = tt

out_states : (system : System) (a : Answer) → Out system no_condition a → TellsStates system a
out_states system a (a_state s h) = h
out_states system a (a_fork s t s₁ s₂ reachable h) = reachable
out_states system a (a_search o _ reachable free searched g) = gives_states system o a reachable g

all_reached : (system : System) (reason : Reason) → HasLabel reason → Out system no_condition (of_reason reason) → IsAllReachable system
all_reached system (of_state s) has out = absurd has
all_reached system (fork s t s₁ s₂) has out = out_states system (of_reason (fork s t s₁ s₂)) out
all_reached system (refuted problem trees) has out = out_states system (of_reason (refuted problem trees)) out

-- ---- the rounds

module _ (lts : System) (well : IsWellFormed lts) where
  -- the label of a round is one of the system
  below : (reason : Reason) (now next : Labelling) → IsToldApart lts now → Out now.system no_condition (of_reason reason) → HasLabel reason
      → (is : IsNext lts reason now next) → is.label < labels now.system
  below reason now next told out has is =
      let s = to_split now.system reason told.formed out has in
      subst (λ t. t < labels now.system) (one_label now.system reason s.label is.label s.splits is.splits) s.below

  -- from a labelling on; where all states can be reached no round tells one that can't
  says_from : (now : Labelling) (r : Splitting) → IsToldApart lts now → ((s : ℕ) → IsLeastUnreachable now.system s → IsLeastUnreachable lts s) → RoundsCome lts now r → IsRight lts r
  says_from now r told first (solved places out) = (told, (answer_right now.system no_condition (of_net places) told.formed.in_range no_numbers out).0)
  says_from now r told first (not_reached s out) = first s (out_states now.system (of_reason (of_state s)) out)
  says_from now r told first (passed w out) = (told, answer_right now.system no_condition (of_term w) told.formed.in_range no_numbers out)
  says_from now r told first (no_room reason out has e) = (told, e, answer_right now.system no_condition (of_reason reason) told.formed.in_range no_numbers out)
  says_from now r told first (goes_on reason next out has less is d) =
      let told' = told_next lts reason now next well told is (below reason now next told out has is) less in
      let all = all_reached now.system reason has out in
      says_from next r told' (λ s least. absurd (least.unreachable (reached_back next.system next.old lts told'.erases s (from_now s (subst (λ n. s < n) (same_states next told') least.state) all)))) d
    where
      same_states : (n : Labelling) → IsToldApart lts n → states n.system ≡ states lts
      same_states n t = ap length t.erases.state_names

      from_now : (s : ℕ) → s < states lts → IsAllReachable now.system → IsReachable lts s
      from_now s lt all = reached now.system now.old lts told.erases s (all.each s (subst (λ n. s < n) (sym (same_states now told)) lt))

  pub says : (r : Splitting) → RoundsCome lts (itself lts) r → IsRight lts r
  says r d = says_from (itself lts) r (told_itself lts well) (λ s least. least) d

  -- ---- a system that a net solves

  any_class : (net : Net) → InClass net no_condition
  any_class net = record {
    weights = λ i p at. record { pure = λ e. absurd cc; plain = λ e. absurd cc; marking = tt; nonbranching = λ e. absurd cc };
    bounded = tt;
  }

  no_reason : (net : Net) → Solves net lts → (reason : Reason) → Out lts no_condition (of_reason reason) → ⊥
  no_reason net solves reason out = (answer_right lts no_condition (of_reason reason) well.in_range no_numbers out).none net solves (any_class net)

  pub solved_at_once : (net : Net) (r : Splitting) → Solves net lts → RoundsCome lts (itself lts) r
      → ((places : List Place) × (r ≡ done (itself lts) places)) ⊎ ((w : Shown) × (r ≡ too_wide (itself lts) w))
  solved_at_once net r solves (solved places out) = inl (places, refl)
  solved_at_once net r solves (not_reached s out) = absurd (no_reason net solves (of_state s) out)
  solved_at_once net r solves (passed w out) = inr (w, refl)
  solved_at_once net r solves (no_room reason out has e) = absurd (no_reason net solves reason out)
  solved_at_once net r solves (goes_on reason next out has less is d) = absurd (no_reason net solves reason out)

-- a state that can't be reached is told at once
pub state_is_told : (lts : System) (s : ℕ) → IsLeastUnreachable lts s → RoundsCome lts (itself lts) (unreachable s)
state_is_told lts s least = not_reached s (a_state s least)
