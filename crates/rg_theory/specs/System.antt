-- Labelled transition systems.
use Rattle.std.specs.Prelude.{◌≡◌, ◌≢◌, ℕ, ◌<◌, ◌≤◌, ◌⊎◌, Bool, IsTrue, IsFalse, List, [], ◌∷◌, length, All, Contains}
pub use Rattle.rg_theory.specs.declared.Arc.{Arc}

-- label t leads from s to s'
abbrev pub arc : ℕ → ℕ → ℕ → Arc
arc s t s' = record { from = s; label = t; to = s' }

-- a labelled transition system; states and labels are numbered from 0, in the order of their names
pub record System : Type 0 where
  pub state_names : List (List ℕ)
  pub label_names : List (List ℕ)
  pub arcs : List Arc
  pub initial : ℕ

-- how many states there are
abbrev pub states : System → ℕ
states lts = length lts.state_names

-- how many labels there are
abbrev pub labels : System → ℕ
labels lts = length lts.label_names

-- (s, t, s') is an arc
abbrev pub HasArc : System → ℕ → ℕ → ℕ → Type 0
HasArc lts s t s' = Contains lts.arcs (arc s t s')

-- the numbers of the arc name states and a label
abbrev pub IsArcInRange : System → Arc → Type 0
IsArcInRange lts a = (a.from < states lts) × (a.label < labels lts) × (a.to < states lts)

-- every number names a state or a label
pub record IsInRange (lts : System) : Type 0 where
  pub initial : lts.initial < states lts
  pub arcs : All (IsArcInRange lts) lts.arcs

-- the labels lead, arc by arc, from state s to state s'
abbrev pub Leads : System → ℕ → List ℕ → ℕ → Type 0
Leads lts s [] s' = s ≡ s'
Leads lts s (t ∷ ts) s' = (mid : ℕ) × HasArc lts s t mid × Leads lts mid ts s'

-- some labels lead from the initial state to s
abbrev pub IsReachable : System → ℕ → Type 0
IsReachable lts s = (ts : List ℕ) × Leads lts lts.initial ts s

-- every state can be reached
pub record IsAllReachable (lts : System) : Type 0 where
  pub each : (s : ℕ) → s < states lts → IsReachable lts s

-- the state is the least that can't be reached
pub record IsLeastUnreachable (lts : System) (s : ℕ) : Type 0 where
  pub state : s < states lts
  pub unreachable : ¬ IsReachable lts s
  pub least : (earlier : ℕ) → earlier < s → IsReachable lts earlier

-- a set of states that has the initial state and is closed under arcs, without s
pub record IsClosedWithout (lts : System) (s : ℕ) (inside : ℕ → Bool) : Type 0 where
  pub initial : IsTrue (inside lts.initial)
  pub closed : (q t q' : ℕ) → HasArc lts q t q' → IsTrue (inside q) → IsTrue (inside q')
  pub without : IsFalse (inside s)

-- label t leads from s to two different states
abbrev pub IsFork : System → ℕ → ℕ → ℕ → ℕ → Type 0
IsFork lts s t s₁ s₂ = HasArc lts s t s₁ × HasArc lts s t s₂ × (s₁ ≢ s₂)

-- a label leads from a state to one state at most
pub record IsForkFree (lts : System) : Type 0 where
  pub one_target : (s t s₁ s₂ : ℕ) → HasArc lts s t s₁ → HasArc lts s t s₂ → s₁ ≡ s₂

-- the first fork, by state and then label, with its two least targets
pub record IsLeastFork (lts : System) (s t s₁ s₂ : ℕ) : Type 0 where
  pub fork : IsFork lts s t s₁ s₂
  pub in_order : s₁ < s₂
  pub first : (q u q₁ q₂ : ℕ) → (q < s) ⊎ ((q ≡ s) × (u < t)) → ¬ IsFork lts q u q₁ q₂
  pub least : (to : ℕ) → HasArc lts s t to → s₁ ≤ to
  pub next : (to : ℕ) → HasArc lts s t to → s₁ < to → s₂ ≤ to

-- no arc has the label
abbrev pub IsDead : System → ℕ → Type 0
IsDead lts t = (s s' : ℕ) → ¬ HasArc lts s t s'

-- arcs are ordered by the state that they leave, then by label, then by the state that they enter
abbrev pub IsArcBefore : Arc → Arc → Type 0
IsArcBefore a b =
    (a.from < b.from)
    ⊎ ((a.from ≡ b.from) × ((a.label < b.label) ⊎ ((a.label ≡ b.label) × (a.to < b.to))))
