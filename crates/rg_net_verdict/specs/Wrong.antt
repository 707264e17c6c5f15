-- The first label at a state at which a net and a system differ, where each state has its marking.
use Rattle.std.specs.Prelude.{◌≡◌, ℕ, ◌<◌}
use Rattle.rg_theory.specs.System.{System, states, labels, HasArc}
use Rattle.rg_theory.specs.Net.{Net, Marking, IsEnabled, Fires}
use Rattle.rg_net_verdict.specs.declared.verdict.NetNo.{NetNo}
use Rattle.rg_net_verdict.specs.declared.verdict.NetNo.TheVariants.{NotEnabled, Enabled, WrongStep}
use Rattle.rg_net_verdict.specs.Verdict.{AreRightBefore}

-- what is wrong with label t at state s
abbrev pub IsWrongAt : System → Net → (ℕ → Marking) → ℕ → ℕ → NetNo → Type 0
IsWrongAt lts net h s t (NotEnabled r u) = (r ≡ s) × (u ≡ t) × ((s' : ℕ) × HasArc lts s t s') × ¬ IsEnabled net (h s) t
IsWrongAt lts net h s t (Enabled r u) = (r ≡ s) × (u ≡ t) × ((s' : ℕ) → ¬ HasArc lts s t s') × IsEnabled net (h s) t
IsWrongAt lts net h s t (WrongStep r u) = (r ≡ s) × (u ≡ t) × IsEnabled net (h s) t × ((s' : ℕ) × HasArc lts s t s' × ¬ Fires net (h s) t (h s'))
IsWrongAt lts net h s t _ = ⊥

-- a label that is wrong, while all before it are right
pub record IsFirstWrong (lts : System) (net : Net) (h : ℕ → Marking) (n : NetNo) : Type 0 where
  pub s : ℕ
  pub t : ℕ
  pub state : s < states lts
  pub label : t < labels lts
  pub before : AreRightBefore lts net h s t
  pub wrong : IsWrongAt lts net h s t n
