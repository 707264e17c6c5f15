-- A system has no fork, or a least one.
use Rattle.std.proofs.Common.{◌≡◌, ◌⊎◌, inl, inr, ℕ, ◌<◌, ◌≤◌, sym, ◌∙◌, arith}
use Rattle.std.proofs.lemmas.Bool.{cases_lt}
use Rattle.rg_theory.specs.System.{System, states, labels, HasArc, IsInRange, IsForkFree, IsLeastFork}
use Rattle.rg_theory.proofs.Arcs.{arc_in_range}
use Rattle.rg_theory.proofs.Deciding.{Decided, PairBefore, find_number, find_pair}
use Rattle.rg_theory.proofs.Growing.{has_arc}

module _ (lts : System) (fine : IsInRange lts) where
  -- the least target of label t at s, and the least one above it
  record TwoTargets (s t : ℕ) : Type 0 where
    pub one : ℕ
    pub two : ℕ
    pub to_one : HasArc lts s t one
    pub to_two : HasArc lts s t two
    pub above : one < two
    pub least : (to : ℕ) → HasArc lts s t to → one ≤ to
    pub next : (to : ℕ) → HasArc lts s t to → one < to → two ≤ to

  two_targets : (s t : ℕ) → TwoTargets s t ⊎ ((a b : ℕ) → HasArc lts s t a → HasArc lts s t b → a ≡ b)
  two_targets s t = by (find_number (λ to. HasArc lts s t to) (has_arc lts s t) (states lts))
    where
      above : (one to : ℕ) → Decided (HasArc lts s t to × (one < to))
      above one to = go (has_arc lts s t to) (cases_lt one to)
        where
          go : Decided (HasArc lts s t to) → (one < to) ⊎ (to ≤ one) → Decided (HasArc lts s t to × (one < to))
          go (inl has) (inl less) = inl (has, less)
          go (inl has) (inr more) = inr (λ h. (let l = h.1 in omega arith))
          go (inr lacks) _ = inr (λ h. lacks h.0)

      not_below : (to n : ℕ) (P : ℕ → Type 0) → P to → ((j : ℕ) → j < n → ¬ P j) → n ≤ to
      not_below to n P p before = go (cases_lt to n)
        where
          go : (to < n) ⊎ (n ≤ to) → n ≤ to
          go (inl less) = absurd (before to less p)
          go (inr more) = more

      one_only : (one : ℕ) → HasArc lts s t one → ((j : ℕ) → j < one → ¬ HasArc lts s t j) → ((to : ℕ) → to < states lts → ¬ (HasArc lts s t to × (one < to))) → (a : ℕ) → HasArc lts s t a → a ≡ one
      one_only one has before none a has' =
          let low = not_below a one (HasArc lts s t) has' before in
          go low (cases_lt one a)
        where
          go : one ≤ a → (one < a) ⊎ (a ≤ one) → a ≡ one
          go low (inl less) = absurd (none a (arc_in_range lts fine s t a has').2 (has', less))
          go low (inr more) = omega arith

      second : (one : ℕ) → HasArc lts s t one → ((j : ℕ) → j < one → ¬ HasArc lts s t j)
          → ((two : ℕ) × (two < states lts) × (HasArc lts s t two × (one < two)) × ((j : ℕ) → j < two → ¬ (HasArc lts s t j × (one < j))))
          ⊎ ((to : ℕ) → to < states lts → ¬ (HasArc lts s t to × (one < to))) → TwoTargets s t ⊎ ((a b : ℕ) → HasArc lts s t a → HasArc lts s t b → a ≡ b)
      second one has before (inl (two, lt, (has', less), before')) = inl (record {
        one = one;
        two = two;
        to_one = has;
        to_two = has';
        above = less;
        least = λ to h. not_below to one (HasArc lts s t) h before;
        next = λ to h more. not_below to two (λ j. HasArc lts s t j × (one < j)) (h, more) before';
      })
      second one has before (inr none) = inr (λ a b h h'. one_only one has before none a h ∙ sym (one_only one has before none b h'))

      by : ((one : ℕ) × (one < states lts) × HasArc lts s t one × ((j : ℕ) → j < one → ¬ HasArc lts s t j)) ⊎ ((to : ℕ) → to < states lts → ¬ HasArc lts s t to)
          → TwoTargets s t ⊎ ((a b : ℕ) → HasArc lts s t a → HasArc lts s t b → a ≡ b)
      by (inl (one, lt, has, before)) = second one has before (find_number (λ to. HasArc lts s t to × (one < to)) (above one) (states lts))
      by (inr none) = inr (λ a b h h'. absurd (none a (arc_in_range lts fine s t a h).2 h))

  targets_decided : (s t : ℕ) → Decided (TwoTargets s t)
  targets_decided s t = by (two_targets s t)
    where
      by : TwoTargets s t ⊎ ((a b : ℕ) → HasArc lts s t a → HasArc lts s t b → a ≡ b) → Decided (TwoTargets s t)
      by (inl two) = inl two
      by (inr one) = inr (λ h. (let e = one h.one h.two h.to_one h.to_two in let l = h.above in omega arith))

  targets_in_range : (s t : ℕ) → TwoTargets s t → (s < states lts) × (t < labels lts)
  targets_in_range s t h = let r = arc_in_range lts fine s t h.one h.to_one in (r.0, r.1)

  -- where it has no two targets, the label is no fork there
  no_fork_at : (s t : ℕ) → ¬ TwoTargets s t → (a b : ℕ) → HasArc lts s t a → HasArc lts s t b → a ≡ b
  no_fork_at s t none a b h h' = by (two_targets s t)
    where
      by : TwoTargets s t ⊎ ((a b : ℕ) → HasArc lts s t a → HasArc lts s t b → a ≡ b) → a ≡ b
      by (inl two) = absurd (none two)
      by (inr one) = one a b h h'

  pub record HasLeastFork : Type 0 where
    pub s : ℕ
    pub t : ℕ
    pub one : ℕ
    pub two : ℕ
    pub is : IsLeastFork lts s t one two

  pub fork_or_not : IsForkFree lts ⊎ HasLeastFork
  fork_or_not = by (find_pair TwoTargets targets_decided (states lts) (labels lts) targets_in_range)
    where
      by : ((s : ℕ) × (t : ℕ) × TwoTargets s t × ((q u : ℕ) → PairBefore q u s t → ¬ TwoTargets q u)) ⊎ ((s t : ℕ) → ¬ TwoTargets s t) → IsForkFree lts ⊎ HasLeastFork
      by (inl (s, t, h, before)) = inr (record {
        s = s;
        t = t;
        one = h.one;
        two = h.two;
        is = record {
          fork = (h.to_one, h.to_two, λ e. (let l = h.above in omega arith));
          in_order = h.above;
          first = λ q u q₁ q₂ less f. f.2 (no_fork_at q u (before q u less) q₁ q₂ f.0 f.1);
          least = h.least;
          next = h.next;
        };
      })
      by (inr none) = inl (record { one_target = λ s t a b h h'. no_fork_at s t (none s t) a b h h' })

pub some_fork : (lts : System) → IsInRange lts → IsForkFree lts ⊎ ((s t s₁ s₂ : ℕ) × IsLeastFork lts s t s₁ s₂)
some_fork lts fine = by (fork_or_not lts fine)
  where
    by : IsForkFree lts ⊎ HasLeastFork lts fine → IsForkFree lts ⊎ ((s t s₁ s₂ : ℕ) × IsLeastFork lts s t s₁ s₂)
    by (inl free) = inl free
    by (inr f) = inr (f.s, f.t, f.one, f.two, f.is)
