-- Flaws: what no reachability graph of a net has.
use Rattle.std.specs.Prelude.{ℕ, ◌<◌, Bool}
use Rattle.rg_theory.specs.System.{System, states, labels, IsAllReachable, IsLeastUnreachable, IsClosedWithout, IsForkFree, IsLeastFork}
use Rattle.rg_checks.specs.declared.fork.Fork.{Fork}
use Rattle.rg_checks.specs.declared.flaw.Flaw.{Flaw}
use Rattle.rg_checks.specs.declared.flaw.Flaw.TheVariants.{Unreachable, Fork as IsFork}

-- all states can be reached, and there is no fork
pub record IsFlawless (lts : System) : Type 0 where
  pub reachable : IsAllReachable lts
  pub fork_free : IsForkFree lts

-- label t leads from s to s₁ and s₂
abbrev pub fork_of : ℕ → ℕ → ℕ → ℕ → Fork
fork_of s t s₁ s₂ = record { from = s; label = t; to = s₁; other = s₂ }

-- no fork comes before this one
abbrev pub IsFirstFork : System → Fork → Type 0
IsFirstFork lts f = IsLeastFork lts f.from f.label f.to f.other

-- the least state that can't be reached; or the first fork, where all can
abbrev pub IsFirstFlaw : System → Flaw → Type 0
IsFirstFlaw lts (Unreachable s) = IsLeastUnreachable lts s
IsFirstFlaw lts (IsFork f) = IsAllReachable lts × IsFirstFork lts f

-- some set of states that is closed under arcs has the initial state, and not the one that can't be reached
abbrev pub IsShown : System → Flaw → Type 0
IsShown lts (Unreachable s) = (inside : ℕ → Bool) × IsClosedWithout lts s inside
IsShown lts (IsFork f) = Unit {0}

-- the states and the label of the flaw are the system's
abbrev pub IsFlawInRange : System → Flaw → Type 0
IsFlawInRange lts (Unreachable s) = s < states lts
IsFlawInRange lts (IsFork f) = (f.from < states lts) × (f.label < labels lts) × (f.to < states lts) × (f.other < states lts)
