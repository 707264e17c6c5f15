-- Every system has an answer: whether all its states can be reached and whether it has a fork is decided, and it has a tree.
use Rattle.std.proofs.Common.{◌⊎◌, inl, inr, ℕ, List}
use Rattle.rg_theory.specs.declared.Arc.{Arc}
use Rattle.rg_theory.specs.System.{System, IsInRange, IsAllReachable, IsForkFree, IsLeastUnreachable, IsLeastFork}
use Rattle.rg_theory.specs.declared.Class.{Class}
use Rattle.rg_theory.specs.ClassWords.{HasNumbersInRange}
use Rattle.rg_theory.specs.Tree.{IsTree}
use Rattle.rg_theory.proofs.Growing.{some_tree}
use Rattle.rg_theory.proofs.Reaching.{all_reached_or_not}
use Rattle.rg_theory.proofs.Forking.{some_fork}
use Rattle.rg_cert_meaning.specs.Refutes.{Reason.unreachable, Reason.fork}
use Rattle.rg_outcome.specs.Outcome.{Answer, Answer.unsolvable, Out, Out.a_state, Out.a_fork}
use Rattle.rg_outcome.proofs.SearchResults.{some_answer}

pub always_answered : (lts : System) (class : Class) → IsInRange lts → HasNumbersInRange class → (a : Answer) × Out lts class a
always_answered lts class fine numbers = let (tree, is) = some_tree lts fine in by tree is (all_reached_or_not lts fine) (some_fork lts fine)
  where
    by : (tree : List Arc) → IsTree lts tree → IsAllReachable lts ⊎ ((s : ℕ) × IsLeastUnreachable lts s)
        → IsForkFree lts ⊎ ((s t s₁ s₂ : ℕ) × IsLeastFork lts s t s₁ s₂) → (a : Answer) × Out lts class a
    by tree is (inr (s, least)) _ = (unsolvable (unreachable s), a_state s least)
    by tree is (inl reachable) (inr (s, t, s₁, s₂, least)) = (unsolvable (fork s t s₁ s₂), a_fork s t s₁ s₂ reachable least)
    by tree is (inl reachable) (inl free) = some_answer lts tree class fine numbers reachable free is
