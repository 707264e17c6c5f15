-- What can be reached, and sets of states that no arc leaves.
use Rattle.std.proofs.Common.{ℕ, Bool, List, [], ◌∷◌, ◌++◌, IsTrue, subst}
use Rattle.rg_theory.specs.System.{System, HasArc, Leads, IsReachable}
use Rattle.rg_theory.proofs.Trees.{leads_more}

-- arcs don't lead out of a closed set
pub stays_inside : (lts : System) (inside : ℕ → Bool) → ((q t q' : ℕ) → HasArc lts q t q' → IsTrue (inside q) → IsTrue (inside q'))
    → (q : ℕ) (ts : List ℕ) (q' : ℕ) → Leads lts q ts q' → IsTrue (inside q)
    → IsTrue (inside q')
stays_inside lts inside closed q [] q' e is = subst (λ k. IsTrue (inside k)) e is
stays_inside lts inside closed q (t ∷ ts) q' (mid, has, rest) is = stays_inside lts inside closed mid ts q' rest (closed q t mid has is)

-- an arc leads from a state that can be reached to one that can
pub reached_more : (lts : System) (q t q' : ℕ) → IsReachable lts q → HasArc lts q t q' → IsReachable lts q'
reached_more lts q t q' reached has = (reached.0 ++ t ∷ [], leads_more lts lts.initial reached.0 q t q' reached.1 has)
