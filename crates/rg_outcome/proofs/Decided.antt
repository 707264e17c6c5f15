-- The first problem at which a decided fact holds, and work on problems from the last one on.
use Rattle.std.proofs.Common.{◌≡◌, ◌⊎◌, inl, inr, ℕ, zero, suc, ◌+◌, ◌<◌, ◌≤◌, List, [], ◌∷◌, All, Option, None, Some, refl, sym, subst, ◌∙◌, arith}
use Rattle.std.proofs.lemmas.Bool.{cases_lt, cases_eq}
use Rattle.rg_theory.specs.System.{System, states, labels, HasArc, IsAllReachable}
use Rattle.rg_theory.specs.Net.{Place, pre_weight}
use Rattle.rg_theory.specs.Region.{Region, IsRegion}
use Rattle.rg_theory.specs.declared.Problem.{Problem}
use Rattle.rg_theory.specs.declared.Problem.TheVariants.{Event, States}
use Rattle.rg_theory.specs.Problem.{IsProblem, Separates, IsSeparatedBy, ComesBefore}
use Rattle.rg_theory.proofs.Arcs.{find_arc}
use Rattle.rg_theory.proofs.Yes.{region_unique}
use Rattle.rg_outcome.specs.Coming.{IsFirstProblem, IsSeparated, IsLeft, IsBehind}
use Rattle.rg_theory.proofs.Deciding.{Decided, find_pair}
use Rattle.rg_outcome.proofs.Ordering.{PairBefore, cases_order, not_before_itself, not_both_before}

-- ---- pairs of numbers

-- from the last pair on
pub from_last_pair : (Q : ℕ → ℕ → Type 0) (n m : ℕ) → ((s t : ℕ) → ((s' t' : ℕ) → s' < n → t' < m → PairBefore s t s' t' → Q s' t') → Q s t) → (s t : ℕ) → Q s t
from_last_pair Q n m step s t = rows n s t (omega arith)
  where
    cells : (k s : ℕ) → n ≤ s + suc k → ((s' t' : ℕ) → n ≤ s' + k → Q s' t') → (j t : ℕ) → m ≤ t + j → Q s t
    cells k s le below zero t le' = step s t later
      where
        later : (s' t' : ℕ) → s' < n → t' < m → PairBefore s t s' t' → Q s' t'
        later s' t' lt lt' (inl less) = below s' t' (omega arith)
        later s' t' lt lt' (inr (e, less)) = absurd (omega arith)
    cells k s le below (suc j) t le' = step s t (later (λ t' less. cells k s le below j t' less))
      where
        later : ((t' : ℕ) → m ≤ t' + j → Q s t') → (s' t' : ℕ) → s' < n → t' < m → PairBefore s t s' t' → Q s' t'
        later next s' t' lt lt' (inl less) = below s' t' (omega arith)
        later next s' t' lt lt' (inr (e, less)) = subst (λ r. Q r t') e (next t' (omega arith))

    rows : (k s t : ℕ) → n ≤ s + k → Q s t
    rows zero s t le = step s t later
      where
        later : (s' t' : ℕ) → s' < n → t' < m → PairBefore s t s' t' → Q s' t'
        later s' t' lt lt' (inl less) = absurd (omega arith)
        later s' t' lt lt' (inr (e, less)) = absurd (omega arith)
    rows (suc k) s t le = cells k s le (λ s' t' le'. rows k s' t' le') m t (omega arith)

-- ---- problems

pub is_bounded : (lts : System) (s t : ℕ) → IsProblem lts (Event s t) → (s < states lts) × (t < labels lts)
is_bounded lts s t is = (is.0, is.1)

pub are_bounded : (lts : System) (s s' : ℕ) → IsProblem lts (States s s') → (s < states lts) × (s' < states lts)
are_bounded lts s s' is = let a = is.0 in let b = is.1 in (omega arith, b)

-- the first problem, or none
pub find_problem : (lts : System) (P : Problem → Type 0) → ((problem : Problem) → Decided (P problem)) → ((problem : Problem) → P problem → IsProblem lts problem)
    → ((problem : Problem) × IsFirstProblem P problem) ⊎ ((problem : Problem) → ¬ P problem)
find_problem lts P decide has = go (find_pair (λ s t. P (Event s t)) (λ s t. decide (Event s t)) (states lts) (labels lts)
    (λ s t p. is_bounded lts s t (has (Event s t) p)))
    (find_pair (λ s s'. P (States s s')) (λ s s'. decide (States s s')) (states lts) (states lts) (λ s s' p. are_bounded lts s s' (has (States s s') p)))
  where
    FoundIn : (ℕ → ℕ → Problem) → Type 0
    FoundIn make = ((s : ℕ) × (t : ℕ) × P (make s t) × ((s' t' : ℕ) → PairBefore s' t' s t → ¬ P (make s' t'))) ⊎ ((s t : ℕ) → ¬ P (make s t))

    before_event : (s t : ℕ) → ((s' t' : ℕ) → PairBefore s' t' s t → ¬ P (Event s' t')) → (earlier : Problem) → ComesBefore earlier (Event s t) → ¬ P earlier
    before_event s t before (Event s' t') less p = before s' t' less p
    before_event s t before (States r r') less p = less

    before_states : (s t : ℕ) → ((s t : ℕ) → ¬ P (Event s t)) → ((s' t' : ℕ) → PairBefore s' t' s t → ¬ P (States s' t')) → (earlier : Problem) → ComesBefore earlier (States s t) → ¬ P earlier
    before_states s t none before (Event s' t') less p = none s' t' p
    before_states s t none before (States r r') less p = before r r' less p

    nowhere : ((s t : ℕ) → ¬ P (Event s t)) → ((s t : ℕ) → ¬ P (States s t)) → (problem : Problem) → ¬ P problem
    nowhere none none' (Event s t) p = none s t p
    nowhere none none' (States s t) p = none' s t p

    go : FoundIn Event → FoundIn States → ((problem : Problem) × IsFirstProblem P problem) ⊎ ((problem : Problem) → ¬ P problem)
    go (inl (s, t, p, before)) _ = inl (Event s t, (p, before_event s t before))
    go (inr none) (inl (s, t, p, before)) = inl (States s t, (p, before_states s t none before))
    go (inr none) (inr none') = inr (nowhere none none')

-- from the last problem on
pub from_last : (lts : System) (P : Problem → Type 0)
    → ((problem : Problem) → ((later : Problem) → IsProblem lts later → ComesBefore problem later → P later) → P problem) → (problem : Problem) → P problem
from_last lts P step = all
  where
    states_step : (s s' : ℕ) → ((r r' : ℕ) → r < states lts → r' < states lts → PairBefore s s' r r' → P (States r r')) → P (States s s')
    states_step s s' below = step (States s s') later
      where
        later : (q : Problem) → IsProblem lts q → ComesBefore (States s s') q → P q
        later (Event r t) is less = absurd less
        later (States r r') is less = let b = are_bounded lts r r' is in below r r' b.0 b.1 less

    of_states : (s s' : ℕ) → P (States s s')
    of_states = from_last_pair (λ s s'. P (States s s')) (states lts) (states lts) states_step

    event_step : (s t : ℕ) → ((r u : ℕ) → r < states lts → u < labels lts → PairBefore s t r u → P (Event r u)) → P (Event s t)
    event_step s t below = step (Event s t) later
      where
        later : (q : Problem) → IsProblem lts q → ComesBefore (Event s t) q → P q
        later (Event r u) is less = let b = is_bounded lts r u is in below r u b.0 b.1 less
        later (States r r') is less = of_states r r'

    of_events : (s t : ℕ) → P (Event s t)
    of_events = from_last_pair (λ s t. P (Event s t)) (states lts) (labels lts) event_step

    all : (problem : Problem) → P problem
    all (Event s t) = of_events s t
    all (States s s') = of_states s s'

-- ---- facts on problems that are decided

pub before_is_decided : (p q : Problem) → Decided (ComesBefore p q)
before_is_decided p q = go (cases_order p q)
  where
    go : ComesBefore p q ⊎ ((p ≡ q) ⊎ ComesBefore q p) → Decided (ComesBefore p q)
    go (inl a) = inl a
    go (inr (inl e)) = inr (λ a. not_before_itself p (subst (λ x. ComesBefore p x) (sym e) a))
    go (inr (inr b)) = inr (λ a. not_both_before p q a b)

pub behind_is_decided : (last : Option Problem) (q : Problem) → Decided (IsBehind last q)
behind_is_decided None q = inl tt
behind_is_decided (Some p) q = before_is_decided p q

pub problem_is_decided : (lts : System) (problem : Problem) → Decided (IsProblem lts problem)
problem_is_decided lts (Event s t) = go (cases_lt s (states lts)) (cases_lt t (labels lts)) (find_arc lts s t)
  where
    go : (s < states lts) ⊎ (states lts ≤ s) → (t < labels lts) ⊎ (labels lts ≤ t) → ((s' : ℕ) × HasArc lts s t s') ⊎ ((s' : ℕ) → HasArc lts s t s' → ⊥) → Decided (IsProblem lts (Event s t))
    go (inl a) (inl b) (inr none) = inl (a, b, none)
    go (inl a) (inl b) (inl (s', has)) = inr (λ is. is.2 s' has)
    go (inl a) (inr b) _ = inr (λ is. (let c = is.1 in omega arith))
    go (inr a) _ _ = inr (λ is. (let c = is.0 in omega arith))
problem_is_decided lts (States s s') = go (cases_lt s s') (cases_lt s' (states lts))
  where
    go : (s < s') ⊎ (s' ≤ s) → (s' < states lts) ⊎ (states lts ≤ s') → Decided (IsProblem lts (States s s'))
    go (inl a) (inl b) = inl (a, b)
    go (inl a) (inr b) = inr (λ is. (let c = is.1 in omega arith))
    go (inr a) _ = inr (λ is. (let c = is.0 in omega arith))

separates_is_decided : (p : Place) (m : ℕ → ℕ) (problem : Problem) → Decided (Separates p m problem)
separates_is_decided p m (Event s t) = go (cases_lt (m s) (pre_weight p t))
  where
    go : (m s < pre_weight p t) ⊎ (pre_weight p t ≤ m s) → Decided (Separates p m (Event s t))
    go (inl a) = inl a
    go (inr a) = inr (λ b. (omega arith))
separates_is_decided p m (States s s') = go (cases_eq (m s) (m s'))
  where
    go : (m s ≡ m s') ⊎ (m s ≡ m s' → ⊥) → Decided (Separates p m (States s s'))
    go (inl e) = inr (λ ne. ne e)
    go (inr ne) = inl ne

module _ (lts : System) (reachable : IsAllReachable lts) where
  -- the numbers of a region are told by its place
  pub other_numbers : (p : Place) (m m' : ℕ → ℕ) (problem : Problem) → IsProblem lts problem → Region lts p m → Region lts p m' → Separates p m' problem → Separates p m problem
  other_numbers p m m' (Event s t) is r r' sep =
      let same = region_unique lts p m m' r r' s (reachable.each s is.0) in
      subst (λ k. k < pre_weight p t) (sym same) sep
  other_numbers p m m' (States s s') is r r' sep =
      let b = are_bounded lts s s' is in
      let at = region_unique lts p m m' r r' s (reachable.each s b.0) in
      let at' = region_unique lts p m m' r r' s' (reachable.each s' b.1) in
      λ e. sep (sym at ∙ e ∙ at')

  by_is_decided : (problem : Problem) → IsProblem lts problem → (p : Place) → IsRegion lts p → Decided (IsSeparatedBy lts problem p)
  by_is_decided problem is p (m, region) = go (separates_is_decided p m problem)
    where
      go : Decided (Separates p m problem) → Decided (IsSeparatedBy lts problem p)
      go (inl sep) = inl (m, region, sep)
      go (inr not_so) = inr (λ (m', region', sep). not_so (other_numbers p m m' problem is region region' sep))

  pub is_separated_decided : (kept : List Place) → All (IsRegion lts) kept → (problem : Problem) → IsProblem lts problem → Decided (IsSeparated lts kept problem)
  is_separated_decided [] all problem is = inr (λ (k, p, lt, e, sep). (omega arith))
  is_separated_decided (p ∷ kept) all problem is = go (by_is_decided problem is p (all 0 p (omega arith))) (is_separated_decided kept (λ i d lt. all (suc i) d (omega arith)) problem is)
    where
      neither : ¬ IsSeparatedBy lts problem p → ¬ IsSeparated lts kept problem → ¬ IsSeparated lts (p ∷ kept) problem
      neither here rest (zero, q, lt, e, sep) = here (subst (IsSeparatedBy lts problem) (sym e) sep)
      neither here rest (suc k, q, lt, e, sep) = rest (k, q, omega arith, e, sep)

      go : Decided (IsSeparatedBy lts problem p) → Decided (IsSeparated lts kept problem) → Decided (IsSeparated lts (p ∷ kept) problem)
      go (inl sep) _ = inl (0, p, omega arith, refl, sep)
      go (inr here) (inl (k, q, lt, e, sep)) = inl (suc k, q, omega arith, e, sep)
      go (inr here) (inr rest) = inr (neither here rest)

  pub left_is_decided : (kept : List Place) → All (IsRegion lts) kept → (problem : Problem) → Decided (IsLeft lts kept problem)
  left_is_decided kept all problem = go (problem_is_decided lts problem)
    where
      by : IsProblem lts problem → Decided (IsSeparated lts kept problem) → Decided (IsLeft lts kept problem)
      by is (inl sep) = inr (λ left. left.1 sep)
      by is (inr lacks) = inl (is, lacks)

      go : Decided (IsProblem lts problem) → Decided (IsLeft lts kept problem)
      go (inl is) = by is (is_separated_decided kept all problem is)
      go (inr is_none) = inr (λ left. is_none left.0)

  pub next_is_decided : (kept : List Place) → All (IsRegion lts) kept → (last : Option Problem) (problem : Problem) → Decided (IsLeft lts kept problem × IsBehind last problem)
  next_is_decided kept all last problem = go (left_is_decided kept all problem) (behind_is_decided last problem)
    where
      go : Decided (IsLeft lts kept problem) → Decided (IsBehind last problem) → Decided (IsLeft lts kept problem × IsBehind last problem)
      go (inl a) (inl b) = inl (a, b)
      go (inl a) (inr b) = inr (λ h. b h.1)
      go (inr a) _ = inr (λ h. a h.0)
