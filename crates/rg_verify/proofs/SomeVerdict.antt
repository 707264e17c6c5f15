-- Each claim with its numbers in range has a verdict.
use Rattle.std.proofs.Common.{◌≡◌, ◌⊎◌, inl, inr, ℕ, zero, suc, ◌+◌, ◌<◌, ◌≤◌, Bool, true, false, true≢false}
use Rattle.std.proofs.Common.{IsTrue, IsFalse, List, [], ◌∷◌, ◌++◌, length, Some, slice_get, All, refl, sym, subst, ◌∙◌, arith}
use Rattle.std.proofs.lemmas.Bool.{cases_eq, cases_lt}
use Rattle.std.proofs.lemmas.List.Elements.{All-nil, All-cons, All-head, All-tail, All-append, All-push}
use Rattle.std.proofs.lemmas.Option.{none-some, same_Some}
use Rattle.rg_theory.specs.System.{System, HasArc, IsInRange, IsReachable, IsFork, IsClosedWithout}
use Rattle.rg_theory.specs.declared.Class.{Class}
use Rattle.rg_theory.specs.declared.Problem.{Problem}
use Rattle.rg_theory.specs.declared.Problem.TheVariants.{Event, States}
use Rattle.rg_theory.proofs.Arcs.{find_arc}
use Rattle.rg_theory.proofs.Closed.{stays_inside, reached_more}
use Rattle.rg_theory.proofs.Deciding.{Decided, both_decided}
use Rattle.rg_theory.proofs.Growing.{has_arc}
use Rattle.rg_theory.proofs.Reaching.{reached_or_not}
use Rattle.rg_cert_meaning.specs.Row.{FormStands, RowStands, row_expression, cases_of, Side}
use Rattle.rg_branch_trees.specs.Trees.{Tree.leaf, Tree.split, TreeNode.leaf_node, TreeNode.split_node, preorder, low_side, high_side, placed_nodes}
use Rattle.rg_cert_meaning.specs.Refutes.{NamedRow, Tree, TreeRefutes, IsSeparationProblem, IsRefuted, Accepts}
use Rattle.rg_cert_meaning.specs.Refutes as refutes
use Rattle.rg_cert_data.specs.Trees.{TreeNode}
use Rattle.rg_cert_data.specs.Certificates.{Claim, IsFormOf, IsNodeOf, IsTreeOf, IsReasonOf, IsClaimOf}
use Rattle.rg_cert_data.proofs.Within.{row_within}
use Rattle.rg_verify.specs.declared.verdict.Defect.{Defect}
use Rattle.rg_verify.specs.declared.verdict.Defect.TheVariants.{WrongForm, CaseMissing, NotSo}
use Rattle.rg_verify.specs.declared.verdict.Verdict.{Verdict}
use Rattle.rg_verify.specs.declared.verdict.Verdict.TheVariants.{Accepted, Refused}
use Rattle.rg_verify.specs.Judged.{IsReached, PlacedNode, NodeHolds, IsNodeDefect, IsDefectIn, HasAllCases, JudgesTrees, Judges}
use Rattle.rg_verify.proofs.Walking.{both_parts, tree_refutes}
use Rattle.rg_verify.proofs.Verdicts.{defect_for}
use Rattle.rg_verify.proofs.StandingOrNot.{form_decided, stands_decided}
use Rattle.rg_verify.proofs.LeafOrDefect.{first_failing, leaf_or_defect}

-- ---- nodes

-- the forms of the sides above, and the numbers of the node, are the system's
record IsPlacedOf (lts : System) (v : PlacedNode) : Type 0 where
  pub above : All (λ s. IsFormOf lts s.form) v.above
  pub node : IsNodeOf lts v.node

placed_in_range : (lts : System) (above : List Side) (tree : Tree) → All (λ s. IsFormOf lts s.form) above → All (IsNodeOf lts) (preorder tree) → All (IsPlacedOf lts) (placed_nodes above tree)
placed_in_range lts above (leaf rows) sides each =
    All-cons (IsPlacedOf lts) (record { above = above; node = leaf_node rows }) [] (record { above = sides; node = All-head (IsNodeOf lts) (leaf_node rows) [] each }) (All-nil (IsPlacedOf lts))
placed_in_range lts above (split form at low high) sides each =
    let here : IsNodeOf lts (split_node form at) = All-head (IsNodeOf lts) (split_node form at) (preorder low ++ preorder high) each in
    let (left, right) = both_parts (IsNodeOf lts) (preorder low) (preorder high) (All-tail (IsNodeOf lts) (split_node form at) (preorder low ++ preorder high) each) in
    All-cons (IsPlacedOf lts) (record { above = above; node = split_node form at })
    (placed_nodes (above ++ low_side form at ∷ []) low ++ placed_nodes (above ++ high_side form at ∷ []) high)
    (record { above = sides; node = here })
    (All-append (IsPlacedOf lts) (placed_nodes (above ++ low_side form at ∷ []) low) (placed_nodes (above ++ high_side form at ∷ []) high)
    (placed_in_range lts (above ++ low_side form at ∷ []) low (All-push (λ s. IsFormOf lts s.form) above (low_side form at) sides here.0) left)
    (placed_in_range lts (above ++ high_side form at ∷ []) high (All-push (λ s. IsFormOf lts s.form) above (high_side form at) sides here.0) right))

-- ---- a problem that is asked

module _ (lts : System) (fine : IsInRange lts) (class : Class) (problem : Problem) (asked : IsSeparationProblem lts problem) where
  abbrev HasDefect : ℕ → PlacedNode → Type 0
  HasDefect number v = (d : Defect) × IsNodeDefect lts class problem number v.above v.node d

  node_or_defect : (number : ℕ) (above : List Side) (node : TreeNode) → All (λ s. IsFormOf lts s.form) above → IsNodeOf lts node
      → NodeHolds lts class problem number (record { above = above; node = node }) ⊎ HasDefect number (record { above = above; node = node })
  node_or_defect number above (leaf_node rows) sides each =
      leaf_or_defect lts (RowStands lts class problem number above) (row_expression lts class problem number above) rows (stands_decided lts class above problem number) each
      (λ k d lt. row_within lts fine.initial class above sides problem number asked _ (each k d lt).name)
  node_or_defect number above (split_node form at) sides each = by (form_decided class form)
    where
      by : Decided (FormStands class form) → FormStands class form ⊎ HasDefect number (record { above = above; node = split_node form at })
      by (inl stands) = inl stands
      by (inr none) = inr (WrongForm, (refl, none))

  -- a tree refutes or has a first defect
  abbrev TreeFails : ℕ → Tree → Type 0
  TreeFails number tree = (node : ℕ) × (d : Defect) × IsDefectIn lts class problem number tree node d

  tree_or_defect : (number : ℕ) (tree : Tree) → IsTreeOf lts tree → TreeRefutes lts class problem number [] tree ⊎ TreeFails number tree
  tree_or_defect number tree each = by (first_failing (IsPlacedOf lts) (NodeHolds lts class problem number) (HasDefect number)
      (λ v is. node_or_defect number v.above v.node is.above is.node) (placed_nodes [] tree) (placed_in_range lts [] tree (All-nil (λ s. IsFormOf lts s.form)) each))
    where
      by : All (NodeHolds lts class problem number) (placed_nodes [] tree)
          ⊎ ((place : ℕ) × (v : PlacedNode) × IsReached (NodeHolds lts class problem number) (placed_nodes [] tree) place v × HasDefect number v)
          → TreeRefutes lts class problem number [] tree ⊎ TreeFails number tree
      by (inl all) = inl (tree_refutes lts class problem number [] tree all)
      by (inr (place, v, reached, (d, defect))) = inr (place, d, (v, reached, defect))

  -- ---- trees

  -- the trees refute from this number on, or one is the first that doesn't
  abbrev AllRefute : ℕ → List Tree → Type 0
  AllRefute from trees = (i : ℕ) (tree : Tree) → slice_get trees i ≡ Some tree → TreeRefutes lts class problem (from + i) [] tree

  record FirstFails (from : ℕ) (trees : List Tree) : Type 0 where
    pub place : ℕ
    pub tree : Tree
    pub here : slice_get trees place ≡ Some tree
    pub before : (i : ℕ) (earlier : Tree) → i < place → slice_get trees i ≡ Some earlier → TreeRefutes lts class problem (from + i) [] earlier
    pub fails : TreeFails (from + place) tree

  trees_or_defect : (from : ℕ) (trees : List Tree) → All (IsTreeOf lts) trees → AllRefute from trees ⊎ FirstFails from trees
  trees_or_defect from [] each = inl (λ i tree at. absurd (none-some tree at))
  trees_or_defect from (tree ∷ trees) each = by (tree_or_defect (from + 0) tree (All-head (IsTreeOf lts) tree trees each)) (trees_or_defect (suc from) trees (All-tail (IsTreeOf lts) tree trees each))
    where
      shifted : (i : ℕ) (t : Tree) → TreeRefutes lts class problem (suc from + i) [] t → TreeRefutes lts class problem (from + suc i) [] t
      shifted i t refuted = let same : suc from + i ≡ from + suc i = omega arith in subst (λ n. TreeRefutes lts class problem n [] t) same refuted

      all : TreeRefutes lts class problem (from + 0) [] tree → AllRefute (suc from) trees → AllRefute from (tree ∷ trees)
      all here rest zero t at = subst (TreeRefutes lts class problem (from + 0) []) (same_Some tree t at) here
      all here rest (suc i) t at = shifted i t (rest i t at)

      earlier_too : TreeRefutes lts class problem (from + 0) [] tree → (f : FirstFails (suc from) trees) → (i : ℕ) (t : Tree) → i < suc f.place → slice_get (tree ∷ trees) i ≡ Some t
          → TreeRefutes lts class problem (from + i) [] t
      earlier_too here f zero t less at = subst (TreeRefutes lts class problem (from + 0) []) (same_Some tree t at) here
      earlier_too here f (suc i) t less at = shifted i t (f.before i t (omega arith) at)

      by : TreeRefutes lts class problem (from + 0) [] tree ⊎ TreeFails (from + 0) tree → AllRefute (suc from) trees ⊎ FirstFails (suc from) trees
          → AllRefute from (tree ∷ trees) ⊎ FirstFails from (tree ∷ trees)
      by (inr fails) _ = inr (record { place = 0; tree = tree; here = refl; before = λ i t less at. absurd (omega arith); fails = fails })
      by (inl here) (inl rest) = inl (all here rest)
      by (inl here) (inr f) = inr (record {
        place = suc f.place;
        tree = f.tree;
        here = f.here;
        before = earlier_too here f;
        fails = (let same : suc from + f.place ≡ from + suc f.place = omega arith in subst (λ n. TreeFails n f.tree) same f.fails);
      })

  trees_judged : (trees : List Tree) → All (IsTreeOf lts) trees → HasAllCases lts class problem trees → (v : Verdict) × JudgesTrees lts class problem trees v
  trees_judged trees each cases = by (trees_or_defect 0 trees each)
    where
      plain : (n : ℕ) → 0 + n ≡ n
      plain n = omega arith

      by : AllRefute 0 trees ⊎ FirstFails 0 trees → (v : Verdict) × JudgesTrees lts class problem trees v
      by (inl all) = (
        Accepted,
        record {
          asked = asked;
          cases = cases.0;
          some = cases.1;
          each = λ number tree at. subst (λ n. TreeRefutes lts class problem n [] tree) (plain number) (all number tree at);
        },
      )
      by (inr f) =
          let (node, d, defect) = f.fails in (
            Refused f.place node d,
            defect_for lts class problem trees f.place node d (record {
              asked = asked;
              cases = cases;
              tree = f.tree;
              here = f.here;
              before = λ number earlier less at. subst (λ n. TreeRefutes lts class problem n [] earlier) (plain number) (f.before number earlier less at);
              found = subst (λ n. IsDefectIn lts class problem n f.tree node d) (plain f.place) defect;
            }),
          )

-- ---- all reasons

cases_decided : (lts : System) (class : Class) (problem : Problem) (trees : List Tree) → Decided (HasAllCases lts class problem trees)
cases_decided lts class problem trees =
    both_decided (length trees ≡ cases_of lts class problem) (0 < length trees) (cases_eq (length trees) (cases_of lts class problem)) (some (cases_lt 0 (length trees)))
  where
    some : (0 < length trees) ⊎ (length trees ≤ 0) → Decided (0 < length trees)
    some (inl less) = inl less
    some (inr none) = inr (λ less. (omega arith))

-- where the numbers are in range, whether the problem is asked is decided
asked_decided : (lts : System) (problem : Problem) (trees : List Tree) → IsReasonOf lts (refutes.refuted problem trees) → Decided (IsSeparationProblem lts problem) × All (IsTreeOf lts) trees
asked_decided lts (Event s t) trees (state, label, one, each) = (by (find_arc lts s t), each)
  where
    by : ((s' : ℕ) × HasArc lts s t s') ⊎ ((s' : ℕ) → HasArc lts s t s' → ⊥) → Decided (IsSeparationProblem lts (Event s t))
    by (inl (s', has)) = inr (λ is. is.2 s' has)
    by (inr none) = inl (state, label, none)
asked_decided lts (States s s') trees (state, other, each) = (by (cases_eq s s'), each)
  where
    by : (s ≡ s') ⊎ (s ≡ s' → ⊥) → Decided (IsSeparationProblem lts (States s s'))
    by (inl same) = inr (λ is. is.2 same)
    by (inr differ) = inl (state, other, differ)

refuted_judged : (lts : System) → IsInRange lts → (class : Class) (problem : Problem) (trees : List Tree) → IsReasonOf lts (refutes.refuted problem trees)
    → (v : Verdict) × JudgesTrees lts class problem trees v
refuted_judged lts fine class problem trees ranged = let (asked, each) = asked_decided lts problem trees ranged in by asked each (cases_decided lts class problem trees)
  where
    by : Decided (IsSeparationProblem lts problem) → All (IsTreeOf lts) trees → Decided (HasAllCases lts class problem trees) → (v : Verdict) × JudgesTrees lts class problem trees v
    by (inr none) each _ = (Refused 0 0 NotSo, (refl, refl, none))
    by (inl asked) each (inr few) = (Refused 0 0 CaseMissing, (refl, refl, asked, few))
    by (inl asked) each (inl cases) = trees_judged lts fine class problem asked trees each cases

-- whether the state can be reached, as a set of states
abbrev said : {P : Type 0} → Decided P → Bool
said (inl p) = true
said (inr lacks) = false

said_true : {P : Type 0} (d : Decided P) → P → IsTrue (said d)
said_true (inl p) _ = refl
said_true (inr lacks) p = absurd (lacks p)

true_said : {P : Type 0} (d : Decided P) → IsTrue (said d) → P
true_said (inl p) _ = p
true_said (inr lacks) e = absurd (true≢false (sym e))

said_false : {P : Type 0} (d : Decided P) → ¬ P → IsFalse (said d)
said_false (inl p) lacks = absurd (lacks p)
said_false (inr _) lacks = refl

shut_out : (lts : System) → IsInRange lts → (s : ℕ) → Decided ((inside : ℕ → Bool) × IsClosedWithout lts s inside)
shut_out lts fine s = by (reached_or_not lts fine s)
  where
    met : ℕ → Bool
    met q = said (reached_or_not lts fine q)

    by : Decided (IsReachable lts s) → Decided ((inside : ℕ → Bool) × IsClosedWithout lts s inside)
    by (inl (ts, path)) = inr (λ (inside, is). true≢false (sym (stays_inside lts inside is.closed lts.initial ts s path is.initial) ∙ is.without))
    by (inr lacks) = inl (
      met,
      record {
        initial = said_true (reached_or_not lts fine lts.initial) ([], refl);
        closed = λ q t q' has inside. said_true (reached_or_not lts fine q') (reached_more lts q t q' (true_said (reached_or_not lts fine q) inside) has);
        without = said_false (reached_or_not lts fine s) lacks;
      },
    )

fork_decided : (lts : System) (s t s₁ s₂ : ℕ) → Decided (IsFork lts s t s₁ s₂)
fork_decided lts s t s₁ s₂ = by (has_arc lts s t s₁) (has_arc lts s t s₂) (cases_eq s₁ s₂)
  where
    by : Decided (HasArc lts s t s₁) → Decided (HasArc lts s t s₂) → Decided (s₁ ≡ s₂) → Decided (IsFork lts s t s₁ s₂)
    by (inl a) (inl b) (inr differ) = inl (a, b, differ)
    by (inl a) (inl b) (inl same) = inr (λ f. f.2 same)
    by (inl a) (inr none) _ = inr (λ f. none f.1)
    by (inr none) _ _ = inr (λ f. none f.0)

-- the verdict on a reason
reason_judged : (lts : System) → IsInRange lts → (class : Class) (reason : refutes.Reason) → IsReasonOf lts reason → (v : Verdict) × Judges lts (record { class = class; reason = reason }) v
reason_judged lts fine class (refutes.unreachable s) ranged = by (shut_out lts fine s)
  where
    by : Decided ((inside : ℕ → Bool) × IsClosedWithout lts s inside) → (v : Verdict) × Judges lts (record { class = class; reason = refutes.unreachable s }) v
    by (inl closed) = (Accepted, (ranged, closed))
    by (inr none) = (Refused 0 0 NotSo, (refl, refl, refl, λ h. none h.1))
reason_judged lts fine class (refutes.fork s t s₁ s₂) ranged = by (fork_decided lts s t s₁ s₂)
  where
    by : Decided (IsFork lts s t s₁ s₂) → (v : Verdict) × Judges lts (record { class = class; reason = refutes.fork s t s₁ s₂ }) v
    by (inl fork) = (Accepted, fork)
    by (inr none) = (Refused 0 0 NotSo, (refl, refl, refl, none))
reason_judged lts fine class (refutes.refuted problem trees) ranged = by (refuted_judged lts fine class problem trees ranged)
  where
    by : (v : Verdict) × JudgesTrees lts class problem trees v → (v : Verdict) × Judges lts (record { class = class; reason = refutes.refuted problem trees }) v
    by (Accepted, refuted) = (Accepted, refuted)
    by (Refused case node defect, is) = (Refused case node defect, is)

pub some_verdict : (lts : System) (claim : Claim) → IsInRange lts → IsClaimOf lts claim → (v : Verdict) × Judges lts claim v
some_verdict lts claim fine ranged = reason_judged lts fine claim.class claim.reason ranged.reason
