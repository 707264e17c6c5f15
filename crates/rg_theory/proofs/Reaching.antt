-- Whether a state can be reached is decided: the tree has it, or hasn't.
use Rattle.std.proofs.Common.{◌⊎◌, inl, inr, ℕ, ◌<◌, List, [], ◌∷◌, Contains}
use Rattle.std.proofs.lemmas.Bool.{cases_eq}
use Rattle.rg_theory.specs.declared.Arc.{Arc}
use Rattle.rg_theory.specs.System.{System, states, Leads, IsInRange, IsReachable, IsAllReachable, IsLeastUnreachable}
use Rattle.rg_theory.specs.Tree.{IsTree, tree_order}
use Rattle.rg_theory.proofs.Trees.{reachable_is_met, met_is_reachable}
use Rattle.rg_theory.proofs.Deciding.{Decided, not_decided, holds, there_or_not, find_number}
use Rattle.rg_theory.proofs.Growing.{some_tree}

pub reached_or_not : (lts : System) → IsInRange lts → (s : ℕ) → Decided (IsReachable lts s)
reached_or_not lts fine s = let (tree, is) = some_tree lts fine in by tree is (there_or_not cases_eq (tree_order lts tree) s)
  where
    by : (tree : List Arc) → IsTree lts tree → Decided (Contains (tree_order lts tree) s) → Decided (IsReachable lts s)
    by tree is (inl has) = inl (met_is_reachable lts tree s is has)
    by tree is (inr lacks) = inr (λ r. lacks (reachable_is_met lts tree s is r))

pub all_reached_or_not : (lts : System) → IsInRange lts → IsAllReachable lts ⊎ ((s : ℕ) × IsLeastUnreachable lts s)
all_reached_or_not lts fine = by (find_number (λ s. ¬ IsReachable lts s) (λ s. not_decided (IsReachable lts s) (reached_or_not lts fine s)) (states lts))
  where
    reached : (s : ℕ) → ¬ ¬ IsReachable lts s → IsReachable lts s
    reached s = holds (IsReachable lts s) (reached_or_not lts fine s)

    by : ((s : ℕ) × (s < states lts) × (¬ IsReachable lts s) × ((j : ℕ) → j < s → ¬ ¬ IsReachable lts j)) ⊎ ((s : ℕ) → s < states lts → ¬ ¬ IsReachable lts s)
        → IsAllReachable lts ⊎ ((s : ℕ) × IsLeastUnreachable lts s)
    by (inl (s, lt, lacks, before)) = inr (s, record { state = lt; unreachable = lacks; least = λ j less. reached j (before j less) })
    by (inr none) = inl (record { each = λ s lt. reached s (none s lt) })

-- ---- from any state

-- the system begins at the state
abbrev pub begun_at : System → ℕ → System
begun_at lts s = record lts { initial = s }

led_from : (lts : System) (start s : ℕ) (ts : List ℕ) (s' : ℕ) → Leads lts s ts s' → Leads (begun_at lts start) s ts s'
led_from lts start s [] s' e = e
led_from lts start s (t ∷ ts) s' (mid, has, rest) = (mid, has, led_from lts start mid ts s' rest)

led_back : (lts : System) (start s : ℕ) (ts : List ℕ) (s' : ℕ) → Leads (begun_at lts start) s ts s' → Leads lts s ts s'
led_back lts start s [] s' e = e
led_back lts start s (t ∷ ts) s' (mid, has, rest) = (mid, has, led_back lts start mid ts s' rest)

-- from a state some labels lead to another, or none
pub leads_or_not : (lts : System) → IsInRange lts → (s s' : ℕ) → s < states lts → Decided ((ts : List ℕ) × Leads lts s ts s')
leads_or_not lts fine s s' lt = by (reached_or_not (begun_at lts s) (record { initial = lt; arcs = fine.arcs }) s')
  where
    by : Decided (IsReachable (begun_at lts s) s') → Decided ((ts : List ℕ) × Leads lts s ts s')
    by (inl (ts, path)) = inl (ts, led_back lts s s ts s' path)
    by (inr none) = inr (λ (ts, path). none (ts, led_from lts s s ts s' path))
