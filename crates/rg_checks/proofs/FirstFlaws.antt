-- A system has one first flaw, or is flawless.
use Rattle.std.proofs.Common.{◌≡◌, ◌⊎◌, inl, inr, ℕ, ◌<◌, ap}
use Rattle.std.proofs.lemmas.Bool.{cases_order}
use Rattle.rg_theory.specs.System.{System, IsInRange, IsAllReachable, IsLeastUnreachable, IsForkFree, IsLeastFork}
use Rattle.rg_theory.proofs.Arcs.{arc_in_range}
use Rattle.rg_theory.proofs.Reaching.{all_reached_or_not}
use Rattle.rg_theory.proofs.Forking.{some_fork}
use Rattle.rg_checks.specs.declared.fork.Fork.{Fork}
use Rattle.rg_checks.specs.declared.flaw.Flaw.{Flaw}
use Rattle.rg_checks.specs.declared.flaw.Flaw.TheVariants.{Unreachable, Fork as IsFork}
use Rattle.rg_checks.specs.Flaws.{IsFlawless, IsFirstFork, IsFirstFlaw, IsFlawInRange, fork_of}

-- a system has one least fork
abbrev pub OneFork : Type 0
OneFork = (lts : System) (s t p q s' t' p' q' : ℕ) → IsLeastFork lts s t p q → IsLeastFork lts s' t' p' q' → (s ≡ s') × (t ≡ t') × (p ≡ p') × (q ≡ q')

pub one_unreachable : (lts : System) (s r : ℕ) → IsLeastUnreachable lts s → IsLeastUnreachable lts r → s ≡ r
one_unreachable lts s r h k = by (cases_order s r)
  where
    by : (s ≡ r) ⊎ ((s < r) ⊎ (r < s)) → s ≡ r
    by (inl e) = e
    by (inr (inl l)) = absurd (h.unreachable (k.least s l))
    by (inr (inr l)) = absurd (k.unreachable (h.least r l))

pub not_reachable : (lts : System) (s : ℕ) → IsLeastUnreachable lts s → IsAllReachable lts → ⊥
not_reachable lts s h all = h.unreachable (all.each s h.state)

pub one_fork : OneFork → (lts : System) (f g : Fork) → IsFirstFork lts f → IsFirstFork lts g → f ≡ g
one_fork one lts f g h k =
    let (a, b, c, d) = one lts f.from f.label f.to f.other g.from g.label g.to g.other h k in
    λ i. record { from = a i; label = b i; to = c i; other = d i }

pub not_fork_free : (lts : System) (f : Fork) → IsFirstFork lts f → IsForkFree lts → ⊥
not_fork_free lts f h free = h.fork.2 (free.one_target f.from f.label f.to f.other h.fork.0 h.fork.1)

pub one_flaw : OneFork → (lts : System) (f g : Flaw) → IsFirstFlaw lts f → IsFirstFlaw lts g → f ≡ g
one_flaw one lts (Unreachable s) (Unreachable r) h k = ap Unreachable (one_unreachable lts s r h k)
one_flaw one lts (Unreachable s) (IsFork g) h (all, k) = absurd (not_reachable lts s h all)
one_flaw one lts (IsFork f) (Unreachable r) (all, h) k = absurd (not_reachable lts r k all)
one_flaw one lts (IsFork f) (IsFork g) (all, h) (all', k) = ap IsFork (one_fork one lts f g h k)

pub not_flawless : (lts : System) (f : Flaw) → IsFirstFlaw lts f → IsFlawless lts → ⊥
not_flawless lts (Unreachable s) h flawless = not_reachable lts s h flawless.reachable
not_flawless lts (IsFork f) (all, h) flawless = not_fork_free lts f h flawless.fork_free

pub flaw_in_range : (lts : System) (f : Flaw) → IsInRange lts → IsFirstFlaw lts f → IsFlawInRange lts f
flaw_in_range lts (Unreachable s) fine h = h.state
flaw_in_range lts (IsFork f) fine (all, h) =
    let r = arc_in_range lts fine f.from f.label f.to h.fork.0 in
    (r.0, r.1, r.2, (arc_in_range lts fine f.from f.label f.other h.fork.1).2)

pub some_flaw : (lts : System) → IsInRange lts → ((f : Flaw) × IsFirstFlaw lts f) ⊎ IsFlawless lts
some_flaw lts fine = by (all_reached_or_not lts fine) (some_fork lts fine)
  where
    by : IsAllReachable lts ⊎ ((s : ℕ) × IsLeastUnreachable lts s) → IsForkFree lts ⊎ ((s t s₁ s₂ : ℕ) × IsLeastFork lts s t s₁ s₂)
        → ((f : Flaw) × IsFirstFlaw lts f) ⊎ IsFlawless lts
    by (inr (s, least)) _ = inl (Unreachable s, least)
    by (inl all) (inr (s, t, s₁, s₂, least)) = inl (IsFork (fork_of s t s₁ s₂), (all, least))
    by (inl all) (inl free) = inr (record { reachable = all; fork_free = free })
