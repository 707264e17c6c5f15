-- Among all nets a refuted problem that is the answer has a tree of one leaf, and the leaf refutes.
use Rattle.std.proofs.Common.{◌≡◌, inl, inr, ℕ, ◌<◌, List, [], ◌∷◌, length, ℤ, Ok, refl, sym, ap, subst, ◌∙◌, arith}
use Rattle.std.specs.Prelude.{slice_get, Some}
use Rattle.rg_theory.specs.declared.Arc.{Arc}
use Rattle.rg_theory.specs.System.{System, IsAllReachable}
use Rattle.rg_theory.specs.Net.{Place}
use Rattle.rg_theory.specs.declared.Problem.{Problem}
use Rattle.rg_theory.specs.declared.Problem.TheVariants.{Event, States}
use Rattle.rg_theory.specs.ClassWords.{no_condition}
use Rattle.rg_theory.specs.Problem.{IsProblem}
use Rattle.rg_lts.specs.WellFormed.{IsWellFormed}
use Rattle.rg_branch_trees.specs.Trees.{Tree.leaf}
use Rattle.rg_cert_meaning.specs.Refutes.{NamedRow, Tree, Reason.unreachable as of_state, Reason.fork, Reason.refuted as of_trees}
use Rattle.rg_linear.specs.System.{LinearSystem, AreFarkasMultipliers}
use Rattle.rg_linear.specs.Cycle.{CycleBasis}
use Rattle.rg_linear.specs.Descent.{multiplier_of}
use Rattle.rg_linear.specs.Branching.{Form, SplitTree, BranchFrom, BranchFrom.passes as branch_passes, BranchFrom.refutes as branch_refutes, BranchFrom.whole, BranchFrom.low_ends}
use Rattle.rg_linear.specs.Branching.{BranchFrom.high_ends, BranchFrom.both_refuted, BranchOutcome, BranchOutcome.tree, SplitSide, IsEnd, weights_from, node_system}
use Rattle.rg_linear.proofs.Refuting.{refuted_is_sound}
use Rattle.rg_case_folds.specs.Setting.{case_at}
use Rattle.rg_case_folds.specs.Rewriting.{CaseSystem, rows_of, system_fold}
use Rattle.rg_case_folds.specs.Spreading.{spread_fold}
use Rattle.rg_case_folds.specs.Shown.{Shown, IsLive}
use Rattle.rg_outcome.specs.Casing.{CaseResult, spread_tree, CaseComes, CaseComes.row_passes, CaseComes.pivot_passes, CaseComes.place_passes, CaseComes.place_is_made, CaseComes.leaf_passes, CaseComes.is_refuted}
use Rattle.rg_outcome.specs.Solving.{Solved, Solved.refuted, CasesCome, CasesCome.first_place, CasesCome.all_refuted, CasesCome.first_term, ProblemComes}
use Rattle.rg_outcome.specs.Coming.{Separation, Separation.places as of_places, Separation.unsolvable as of_problem, Separation.too_wide as of_term, Says}
use Rattle.rg_outcome.specs.Outcome.{Answer, Answer.unsolvable, Gives, Searched, SearchedFrom.a_cycle, SearchedFrom.all_problems, Out, Out.a_state, Out.a_fork, Out.a_search}
use Rattle.rg_outcome.proofs.Inseparable.{asked, placed_or_refuted, passed_or_refuted, same_refuted as same_trees}
use Rattle.rg_outcome.proofs.Placed.{refuted_stay}
use Rattle.rg_outcome.proofs.Saying.{says}
use Rattle.rg_outcome.proofs.Solvings.{same_solved}
use Rattle.rg_synth.proofs.Answers.{no_numbers}
use Rattle.rg_split.proofs.Counting.{RefutesFirst}
use Rattle.rg_split.proofs.Held.{of_all, leaf_holds}

-- ---- a branching without forms

-- one leaf, of multipliers that refute
record IsLeafOf (system : LinearSystem) (t : SplitTree) : Type 0 where
  pub multiplier : ℕ → ℤ
  pub farkas : AreFarkasMultipliers system multiplier
  pub is : t ≡ leaf (weights_from multiplier 0 (length system.rows))

same_split_tree : (t u : SplitTree) → tree t ≡ tree u → t ≡ u
same_split_tree t u e = cc

tree_not_end : (o : BranchOutcome) (t : SplitTree) → o ≡ tree t → IsEnd o → ⊥
tree_not_end o t e is = subst IsEnd e is

branch_leaf : (system : LinearSystem) (forms : List Form) (above : List SplitSide) (o : BranchOutcome) (t : SplitTree) → forms ≡ []
    → BranchFrom system forms above o → o ≡ tree t → IsLeafOf (node_system system forms above) t
branch_leaf system forms above o t none (branch_passes w d) e = absurd cc
branch_leaf system forms above o t none (branch_refutes members fixed i k d row) e = record {
  multiplier = multiplier_of (node_system system forms above) k i;
  farkas = refuted_is_sound (node_system system forms above) members fixed i k d row;
  is = sym (same_split_tree _ t e);
}
branch_leaf system forms above o t none (whole members d all) e = absurd cc
branch_leaf system forms above o t none (low_ends members f u d first b end) e = absurd (tree_not_end o t e end)
branch_leaf system forms above o t none (high_ends members f u low d first b b' end) e = absurd (tree_not_end o t e end)
branch_leaf system forms above o t none (both_refuted members f u low high d first b b') e =
    let lt = subst (λ fs. f < length fs) none first.within in
    absurd (omega arith)

-- ---- a case

-- the tree of the first case is one leaf, spread from multipliers that refute
record IsSpread (lts : System) (arcs : List Arc) (basis : CycleBasis) (problem : Problem) (t : Tree) : Type 0 where
  pub case : CaseSystem
  pub made : system_fold (case_at (of_all lts arcs basis) problem 0) (Ok case)
  pub multiplier : ℕ → ℤ
  pub farkas : AreFarkasMultipliers (node_system (rows_of case) case.forms []) multiplier
  pub rows : List NamedRow
  pub spread : spread_fold (case_at (of_all lts arcs basis) problem 0) case [] [] (weights_from multiplier 0 (length (node_system (rows_of case) case.forms []).rows)) (Ok rows)
  pub is : t ≡ leaf rows

no_forms : (lts : System) (arcs : List Arc) (basis : CycleBasis) (problem : Problem) (case : CaseSystem) → system_fold (case_at (of_all lts arcs basis) problem 0) (Ok case) → case.forms ≡ []
no_forms lts arcs basis (Event s t) case (all, made, (forms, none, (columns, keeps, same))) = same ∙ none
no_forms lts arcs basis (States s s') case (all, made, (forms, none, (columns, keeps, same))) = same ∙ none

one_leaf : (lts : System) (arcs : List Arc) (basis : CycleBasis) (problem : Problem) (case : CaseSystem) (multipliers : SplitTree) (t : Tree)
    → system_fold (case_at (of_all lts arcs basis) problem 0) (Ok case) → IsLeafOf (node_system (rows_of case) case.forms []) multipliers
    → spread_tree (case_at (of_all lts arcs basis) problem 0) case [] multipliers (Ok t) → IsSpread lts arcs basis problem t
one_leaf lts arcs basis problem case multipliers t made leaf_is spread =
    let (rows, fold, e) = subst (λ m. spread_tree (case_at (of_all lts arcs basis) problem 0) case [] m (Ok t)) leaf_is.is spread in
    record { case = case; made = made; multiplier = leaf_is.multiplier; farkas = leaf_is.farkas; rows = rows; spread = fold; is = e }

makes_or_refutes : (p : Place) (t : Tree) → CaseResult.makes p ≡ CaseResult.refutes t → ⊥
makes_or_refutes p t e = cc

passes_or_refutes : (w : Shown) (t : Tree) → CaseResult.passes w ≡ CaseResult.refutes t → ⊥
passes_or_refutes w t e = cc

same_tree : (t u : Tree) → CaseResult.refutes t ≡ CaseResult.refutes u → t ≡ u
same_tree t u e = cc

case_leaf : (lts : System) (arcs : List Arc) (basis : CycleBasis) (problem : Problem) (r : CaseResult) (t : Tree)
    → CaseComes (case_at (of_all lts arcs basis) problem 0) r → r ≡ CaseResult.refutes t → IsSpread lts arcs basis problem t
case_leaf lts arcs basis problem r t (row_passes w is) e = absurd (passes_or_refutes _ t e)
case_leaf lts arcs basis problem r t (pivot_passes case sides at made b) e = absurd (passes_or_refutes _ t e)
case_leaf lts arcs basis problem r t (place_passes case members sides start value w made b point is) e = absurd (passes_or_refutes _ t e)
case_leaf lts arcs basis problem r t (place_is_made case members sides start value p made b point is) e = absurd (makes_or_refutes p t e)
case_leaf lts arcs basis problem r t (leaf_passes case multipliers at made b is) e = absurd (passes_or_refutes _ t e)
case_leaf lts arcs basis problem r t (is_refuted case multipliers t' made b spread) e =
    let found = branch_leaf (rows_of case) case.forms [] (tree multipliers) multipliers (no_forms lts arcs basis problem case made) b refl in
    subst (IsSpread lts arcs basis problem) (same_tree t' t e) (one_leaf lts arcs basis problem case multipliers t' made found spread)

-- ---- a problem

-- the first of the trees
record Begin (lts : System) (arcs : List Arc) (basis : CycleBasis) (problem : Problem) (trees : List Tree) : Type 0 where
  pub first : Tree
  pub more : List Tree
  pub are : trees ≡ first ∷ more
  pub spread : IsSpread lts arcs basis problem first
  pub live : IsLive lts problem

cases_leaf : (lts : System) (arcs : List Arc) (basis : CycleBasis) (problem : Problem) (n : ℕ) (r : Solved) (trees : List Tree) → IsLive lts problem → 0 < n
    → CasesCome (λ i. CaseComes (case_at (of_all lts arcs basis) problem i)) n r → r ≡ refuted trees → Begin lts arcs basis problem trees
cases_leaf lts arcs basis problem n r trees live some (first_place i p lt has none) e = absurd (placed_or_refuted p trees e)
cases_leaf lts arcs basis problem n r trees live some (first_term i w lt has none makes_none) e = absurd (passed_or_refuted w trees e)
cases_leaf lts arcs basis problem n r trees live some (all_refuted trees' long each) e = subst (Begin lts arcs basis problem) (same_trees trees' trees e) (begins trees' long each)
  where
    begins : (ts : List Tree) → length ts ≡ n → ((i : ℕ) (t : Tree) → slice_get ts i ≡ Some t
        → CaseComes (case_at (of_all lts arcs basis) problem i) (CaseResult.refutes t)) → Begin lts arcs basis problem ts
    begins [] long each = absurd (omega arith)
    begins (t ∷ more) long each = record { first = t; more = more; are = refl; spread = case_leaf lts arcs basis problem (CaseResult.refutes t) t (each 0 t refl) refl; live = live }

problem_leaf : (lts : System) (arcs : List Arc) (basis : CycleBasis) (problem : Problem) (trees : List Tree)
    → ProblemComes (of_all lts arcs basis) problem (refuted trees) → Begin lts arcs basis problem trees
problem_leaf lts arcs basis (Event s t) trees (inl (dead, e)) = absurd (placed_or_refuted _ trees (sym e))
problem_leaf lts arcs basis (Event s t) trees (inr (live, c)) = cases_leaf lts arcs basis (Event s t) 1 (refuted trees) trees live (omega arith) c refl
problem_leaf lts arcs basis (States s s') trees c = cases_leaf lts arcs basis (States s s') 2 (refuted trees) trees tt (omega arith) c refl

-- ---- an answer

-- the system has the problem, and its first tree is a leaf that refutes
pub record HasLeaf (lts : System) (problem : Problem) (trees : List Tree) : Type 0 where
  pub problem_is : IsProblem lts problem
  pub rows : List NamedRow
  pub more : List Tree
  pub are : trees ≡ leaf rows ∷ more
  pub refutes : RefutesFirst lts problem rows

same_problem : (p q : Problem) (ts us : List Tree) → of_trees p ts ≡ of_trees q us → p ≡ q
same_problem p q ts us e = cc

same_list : (p q : Problem) (ts us : List Tree) → of_trees p ts ≡ of_trees q us → ts ≡ us
same_list p q ts us e = cc

searched_leaf : (lts : System) (o : Separation) (problem : Problem) (trees : List Tree) → IsWellFormed lts → IsAllReachable lts
    → Searched lts no_condition o → Gives lts o (unsolvable (of_trees problem trees)) → HasLeaf lts problem trees
searched_leaf lts o problem trees well reachable (a_cycle w stage h) g = absurd g
searched_leaf lts o problem trees well reachable (all_problems arcs basis _ is_tree is_basis d) g =
    by o (says lts (ProblemComes (of_all lts arcs basis)) (same_solved (of_all lts arcs basis)) (refuted_stay (of_all lts arcs basis) well.in_range no_numbers reachable is_tree is_basis) o d) g
  where
    held : (other : Problem) (trees' : List Tree) → IsProblem lts other → Begin lts arcs basis other trees' → HasLeaf lts other trees'
    held other trees' is b = record {
      problem_is = is;
      rows = b.spread.rows;
      more = b.more;
      are = b.are ∙ ap (λ t. t ∷ b.more) b.spread.is;
      refutes = leaf_holds lts well reachable arcs basis is_tree is_basis other
          (asked lts other is) b.live b.spread.case b.spread.made b.spread.multiplier b.spread.farkas b.spread.rows b.spread.spread;
    }

    by : (o : Separation) → Says lts (ProblemComes (of_all lts arcs basis)) o → Gives lts o (unsolvable (of_trees problem trees)) → HasLeaf lts problem trees
    by (of_places kept) h g = absurd g
    by (of_term w) h g = absurd g
    by (of_problem other trees') h g =
        subst (λ p. HasLeaf lts p trees) (sym (same_problem problem other trees trees' g))
        (subst (HasLeaf lts other) (sym (same_list problem other trees trees' g)) (held other trees' h.first.0.0 (problem_leaf lts arcs basis other trees' h.has)))

state_or_problem : (s : ℕ) (problem : Problem) (trees : List Tree) → unsolvable (of_state s) ≡ unsolvable (of_trees problem trees) → ⊥
state_or_problem s problem trees e = cc

fork_or_problem : (s t a b : ℕ) (problem : Problem) (trees : List Tree) → unsolvable (fork s t a b) ≡ unsolvable (of_trees problem trees) → ⊥
fork_or_problem s t a b problem trees e = cc

answer_leaf : (lts : System) (a : Answer) (problem : Problem) (trees : List Tree) → IsWellFormed lts → Out lts no_condition a → a ≡ unsolvable (of_trees problem trees) → HasLeaf lts problem trees
answer_leaf lts a problem trees well (a_state s h) e = absurd (state_or_problem s problem trees e)
answer_leaf lts a problem trees well (a_fork s t s₁ s₂ reachable h) e = absurd (fork_or_problem s t s₁ s₂ problem trees e)
answer_leaf lts a problem trees well (a_search o _ reachable free searched g) e = searched_leaf lts o problem trees well reachable searched (subst (Gives lts o) e g)

-- a refuted problem that is the answer among all nets is one of the system, and its first tree is a leaf that refutes
pub out_has_leaf : (lts : System) (problem : Problem) (trees : List Tree) → IsWellFormed lts → Out lts no_condition (unsolvable (of_trees problem trees)) → HasLeaf lts problem trees
out_has_leaf lts problem trees well out = answer_leaf lts (unsolvable (of_trees problem trees)) problem trees well out refl
