-- Something is found of each system in range.
use Rattle.std.proofs.Common.{◌≡◌, ◌⊎◌, inl, inr, ℕ, ◌<◌, List, [], ◌∷◌, Option, None, Some, IfSome, IfNone, subst}
use Rattle.std.proofs.lemmas.Bool.{cases_eq}
use Rattle.rg_theory.specs.System.{System, states, labels, HasArc, Leads, IsInRange, IsReachable, IsAllReachable, IsLeastUnreachable, IsForkFree, IsLeastFork}
use Rattle.rg_theory.proofs.Arcs.{arc_in_range, find_arc}
use Rattle.rg_checks.specs.declared.fork.Fork.{Fork}
use Rattle.rg_checks.specs.declared.lost.Loss.{Loss}
use Rattle.rg_checks.specs.Flaws.{IsFirstFork}
use Rattle.rg_checks.specs.Persistent.{HasStep, IsLost, IsPersistent, IsLostBefore, IsLeastLost}
use Rattle.rg_checks.specs.Reversible.{LeadsBack, IsReversible, IsLeastStranded}
use Rattle.rg_theory.proofs.Deciding.{Decided, both_decided, not_decided, holds, PairBefore, find_number, find_pair}
use Rattle.rg_theory.proofs.Growing.{has_arc}
use Rattle.rg_theory.proofs.Reaching.{reached_or_not, all_reached_or_not, leads_or_not}
use Rattle.rg_theory.proofs.Forking.{some_fork}
use Rattle.rg_report.specs.Examined.{Examination, IsExamined}

-- what is found of one property: the counterexample that there is, or none
found : {X : Type 0} (P : X → Type 0) (Q : Type 0) → ((x : X) × P x) ⊎ Q → (o : Option X) × IfSome o P × IfNone o Q
found P Q (inl (x, p)) = (Some x, p, tt)
found P Q (inr q) = (None, tt, q)

module _ (lts : System) (fine : IsInRange lts) where
  -- ---- labels that are lost

  step_or_not : (s t : ℕ) → Decided (HasStep lts s t)
  step_or_not s t = by (find_arc lts s t)
    where
      by : ((s' : ℕ) × HasArc lts s t s') ⊎ ((s' : ℕ) → HasArc lts s t s' → ⊥) → Decided (HasStep lts s t)
      by (inl (s', has)) = inl (s', has)
      by (inr none) = inr (λ (s', has). none s' has)

  lost_or_not : (s t u s' : ℕ) → Decided (IsLost lts s t u s')
  lost_or_not s t u s' = by (cases_eq t u) (has_arc lts s t s') (step_or_not s u) (step_or_not s' u)
    where
      by : Decided (t ≡ u) → Decided (HasArc lts s t s') → Decided (HasStep lts s u) → Decided (HasStep lts s' u) → Decided (IsLost lts s t u s')
      by (inl e) _ _ _ = inr (λ l. l.other e)
      by (inr differ) (inr lacks) _ _ = inr (λ l. lacks l.step)
      by (inr differ) (inl has) (inr none) _ = inr (λ l. none l.before)
      by (inr differ) (inl has) (inl before) (inl after) = inr (λ l. l.after after)
      by (inr differ) (inl has) (inl before) (inr none) = inl (record { other = differ; step = has; before = before; after = none })

  lost_in_range : (s t u s' : ℕ) → IsLost lts s t u s' → (s < states lts) × (t < labels lts) × (u < labels lts) × (s' < states lts)
  lost_in_range s t u s' l =
      let (a, b, c) = arc_in_range lts fine s t s' l.step in
      let (to, has) = l.before in
      let (_, d, _) = arc_in_range lts fine s u to has in
      (a, b, d, c)

  -- at a state, by a label
  abbrev LostBy : ℕ → ℕ → Type 0
  LostBy s t = (u : ℕ) × (s' : ℕ) × IsLost lts s t u s'

  -- the first label that is lost by this one, with the state that is entered
  abbrev FirstBy : ℕ → ℕ → Type 0
  FirstBy s t = (u : ℕ) × (s' : ℕ) × IsLost lts s t u s' × ((w q' : ℕ) → PairBefore w q' u s' → ¬ IsLost lts s t w q')

  first_by : (s t : ℕ) → FirstBy s t ⊎ ((u s' : ℕ) → ¬ IsLost lts s t u s')
  first_by s t = find_pair (λ u s'. IsLost lts s t u s') (λ u s'. lost_or_not s t u s') (labels lts) (states lts) (λ u s' l. (let (_, _, c, d) = lost_in_range s t u s' l in (c, d)))

  lost_by : (s t : ℕ) → Decided (LostBy s t)
  lost_by s t = by (first_by s t)
    where
      by : FirstBy s t ⊎ ((u s' : ℕ) → ¬ IsLost lts s t u s') → Decided (LostBy s t)
      by (inl (u, s', l, before)) = inl (u, s', l)
      by (inr none) = inr (λ (u, s', l). none u s' l)

  least_lost : (s t u s' : ℕ) → IsLost lts s t u s' → ((w q' : ℕ) → PairBefore w q' u s' → ¬ IsLost lts s t w q') → ((q v : ℕ) → PairBefore q v s t → ¬ LostBy q v) → IsLeastLost lts s t u s'
  least_lost s t u s' l by_these before = record { lost = l; first = none }
    where
      none : (q v w q' : ℕ) → IsLostBefore q v w q' s t u s' → ¬ IsLost lts q v w q'
      none q v w q' (inl less) l' = before q v (inl less) (w, q', l')
      none q v w q' (inr (e, inl less)) l' = before q v (inr (e, less)) (w, q', l')
      none q v w q' (inr (e, inr (f, inl less))) l' = by_these w q' (inl less) (subst (λ x. IsLost lts s x w q') f (subst (λ x. IsLost lts x v w q') e l'))
      none q v w q' (inr (e, inr (f, inr (g, less)))) l' = by_these w q' (inr (g, less)) (subst (λ x. IsLost lts s x w q') f (subst (λ x. IsLost lts x v w q') e l'))

  none_lost : ((s t : ℕ) → ¬ LostBy s t) → IsPersistent lts
  none_lost none = record {
    kept = λ s t u s₁ s₂ has has' differ. holds (HasStep lts s₁ u) (step_or_not s₁ u)
        (λ lacks. none s t (u, s₁, record { other = differ; step = has; before = (s₂, has'); after = lacks }));
  }

  some_lost : ((l : Loss) × IsLeastLost lts l.from l.label l.lost l.to) ⊎ IsPersistent lts
  some_lost = by (find_pair LostBy lost_by (states lts) (labels lts) (λ s t (u, s', l). (let (a, b, _, _) = lost_in_range s t u s' l in (a, b))))
    where
      least : (s t : ℕ) → LostBy s t → ((q v : ℕ) → PairBefore q v s t → ¬ LostBy q v) → FirstBy s t ⊎ ((u s' : ℕ) → ¬ IsLost lts s t u s') → (l : Loss) × IsLeastLost lts l.from l.label l.lost l.to
      least s t _ before (inl (u, s', l, by_these)) = (record { from = s; label = t; lost = u; to = s' }, least_lost s t u s' l by_these before)
      least s t (u, s', l) before (inr none) = absurd (none u s' l)

      by : ((s : ℕ) × (t : ℕ) × LostBy s t × ((q v : ℕ) → PairBefore q v s t → ¬ LostBy q v)) ⊎ ((s t : ℕ) → ¬ LostBy s t)
          → ((l : Loss) × IsLeastLost lts l.from l.label l.lost l.to) ⊎ IsPersistent lts
      by (inl (s, t, lost, before)) = inl (least s t lost before (first_by s t))
      by (inr none) = inr (none_lost none)

  -- ---- states without a way back

  led_in_range : (s : ℕ) (ts : List ℕ) (s' : ℕ) → s < states lts → Leads lts s ts s' → s' < states lts
  led_in_range s [] s' lt e = subst (λ q. q < states lts) e lt
  led_in_range s (t ∷ ts) s' lt (mid, has, rest) = led_in_range mid ts s' (let (_, _, c) = arc_in_range lts fine s t mid has in c) rest

  reached_in_range : (s : ℕ) → IsReachable lts s → s < states lts
  reached_in_range s (ts, path) = led_in_range lts.initial ts s fine.initial path

  abbrev IsStranded : ℕ → Type 0
  IsStranded s = IsReachable lts s × (¬ LeadsBack lts s)

  stranded_or_not : (s : ℕ) → Decided (IsStranded s)
  stranded_or_not s = by (reached_or_not lts fine s)
    where
      by : Decided (IsReachable lts s) → Decided (IsStranded s)
      by (inr lacks) = inr (λ h. lacks h.0)
      by (inl reached) = both_decided (IsReachable lts s) (¬ LeadsBack lts s) (inl reached) (not_decided (LeadsBack lts s) (leads_or_not lts fine s lts.initial (reached_in_range s reached)))

  back : (s : ℕ) → ¬ IsStranded s → IsReachable lts s → LeadsBack lts s
  back s not_stranded reached = holds (LeadsBack lts s) (leads_or_not lts fine s lts.initial (reached_in_range s reached)) (λ lacks. not_stranded (reached, lacks))

  some_stranded : ((s : ℕ) × IsLeastStranded lts s) ⊎ IsReversible lts
  some_stranded = by (find_number IsStranded stranded_or_not (states lts))
    where
      by : ((s : ℕ) × (s < states lts) × IsStranded s × ((j : ℕ) → j < s → ¬ IsStranded j)) ⊎ ((s : ℕ) → s < states lts → ¬ IsStranded s) → ((s : ℕ) × IsLeastStranded lts s) ⊎ IsReversible lts
      by (inl (s, lt, stranded, before)) = inl (s, record { reached = stranded.0; no_way = stranded.1; least = λ r less. back r (before r less) })
      by (inr none) = inr (record { back = λ s reached. back s (none s (reached_in_range s reached)) reached })

  -- ---- all of it

  turned : {P Q : Type 0} → P ⊎ Q → Q ⊎ P
  turned (inl p) = inr p
  turned (inr q) = inl q

  packed : IsForkFree lts ⊎ ((s t s₁ s₂ : ℕ) × IsLeastFork lts s t s₁ s₂) → ((f : Fork) × IsFirstFork lts f) ⊎ IsForkFree lts
  packed (inl free) = inr free
  packed (inr (s, t, s₁, s₂, is)) = inl (record { from = s; label = t; to = s₁; other = s₂ }, is)

  pub some_found : (e : Examination) × IsExamined lts e
  some_found =
      let (a, a_some, a_none) = found (IsLeastUnreachable lts) (IsAllReachable lts) (turned (all_reached_or_not lts fine)) in
      let (b, b_some, b_none) = found (IsFirstFork lts) (IsForkFree lts) (packed (some_fork lts fine)) in
      let (c, c_some, c_none) = found (λ l. IsLeastLost lts l.from l.label l.lost l.to) (IsPersistent lts) some_lost in
      let (d, d_some, d_none) = found (IsLeastStranded lts) (IsReversible lts) some_stranded in (
        record { unreachable = a; fork = b; lost = c; stranded = d },
        record { unreachable = a_some; reachable = a_none; fork = b_some; deterministic = b_none; lost = c_some; persistent = c_none; stranded = d_some; reversible = d_none },
      )
