-- What one case of a problem comes to.
use Rattle.std.specs.Prelude.{◌≡◌, ◌⊎◌, ℕ, List, [], ◌∷◌, ◌++◌, Some, Result, Ok, Err}
use Rattle.rg_theory.specs.Net.{Place}
use Rattle.rg_theory.specs.declared.Problem.{Problem}
use Rattle.rg_cert_meaning.specs.Row.{Side}
use Rattle.rg_branch_trees.specs.Trees.{Tree.leaf, Tree.split, low_side, high_side}
use Rattle.rg_cert_meaning.specs.Refutes.{NamedRow, Tree}
use Rattle.rg_integers.specs.declared.term.Wide.{Wide}
use Rattle.rg_linear.specs.Descent.{WideAt}
use Rattle.rg_linear.specs.Branching.{SplitTree, SplitSide, node_system, Branching, BranchOutcome.found, BranchOutcome.tree, BranchOutcome.stopped}
use Rattle.rg_case_folds.specs.Setting.{CaseSetting}
use Rattle.rg_folds.specs.Fold.{Ratio}
use Rattle.rg_case_folds.specs.Rewriting.{CaseSystem, rows_of, system_fold}
use Rattle.rg_case_folds.specs.Placing.{place_fold}
use Rattle.rg_case_folds.specs.Spreading.{spread_fold}
use Rattle.rg_case_folds.specs.Shown.{Stage, Shown, PointOf, named_side, named_sides}

-- a place, a tree that refutes the case, or the first term out of range
pub data CaseResult : Type 0 where
  makes : Place → CaseResult
  refutes : Tree → CaseResult
  passes : Shown → CaseResult

-- ---- the leaves of a tree, in order

-- a step out of range, and the splits above its leaf
pub record LeafWide : Type 0 where
  pub above : List SplitSide
  pub wide : Wide

-- the tree of the leaves of all the multipliers, or the first step out of range, the low side before the high one
abbrev pub spread_tree : CaseSetting → CaseSystem → List SplitSide → SplitTree → Result Tree LeafWide → Type 0
spread_tree s case above (leaf weights) (Ok t) = (rows : List NamedRow) × spread_fold s case above (named_sides s.lts s.class s.problem above) weights (Ok rows) × (t ≡ leaf rows)
spread_tree s case above (leaf weights) (Err at) = (at.above ≡ above) × spread_fold s case above (named_sides s.lts s.class s.problem above) weights (Err at.wide)
spread_tree s case above (split f u low high) (Ok t) =
    (l h : Tree) × spread_tree s case (above ++ low_side f u ∷ []) low (Ok l)
    × spread_tree s case (above ++ high_side f u ∷ []) high (Ok h)
    × (t ≡ split (named_side s.lts s.class s.problem (low_side f u)).form u l h)
spread_tree s case above (split f u low high) (Err at) =
    spread_tree s case (above ++ low_side f u ∷ []) low (Err at)
    ⊎ ((l : Tree) × spread_tree s case (above ++ low_side f u ∷ []) low (Ok l) × spread_tree s case (above ++ high_side f u ∷ []) high (Err at))

-- ---- what is shown

-- a step of a fold that is out of range, in this stage of a case, below these splits
abbrev pub step_at : Stage → Problem → ℕ → List Side → Wide → Shown
step_at stage problem number above w = record {
  stage = stage;
  problem = Some problem;
  case_number = number;
  above = above;
  members = [];
  pivot_variable = 0;
  leaves = 0;
  target = 0;
  entry = 0;
  wide = w;
}

-- a term of a descent that is out of range, below these splits
abbrev pub term_at : Problem → ℕ → List Side → WideAt → Shown
term_at problem number above at = record {
  stage = Stage.pivot;
  problem = Some problem;
  case_number = number;
  above = above;
  members = at.members;
  pivot_variable = at.pivot;
  leaves = at.leaves;
  target = at.target;
  entry = at.entry;
  wide = at.term;
}

-- what a case comes to, over the tree of the system and the basis of its chords: its rows, the branching on them, and then the
-- place of the point or the leaves of the multipliers
pub data CaseComes (s : CaseSetting) : CaseResult → Type 0 where
  row_passes : (w : Wide) → system_fold s (Err w)
      → CaseComes s (passes (step_at Stage.row s.problem s.number [] w))
  pivot_passes : (case : CaseSystem) (sides : List SplitSide) (at : WideAt) → system_fold s (Ok case)
      → Branching (rows_of case) case.forms (stopped sides at)
      → CaseComes s (passes (term_at s.problem s.number (named_sides s.lts s.class s.problem sides) at))
  place_passes : (case : CaseSystem) (members : List ℕ) (sides : List SplitSide) (start : Ratio) (value : ℕ → Ratio) (w : Wide)
      → system_fold s (Ok case) → Branching (rows_of case) case.forms (found members sides)
      → PointOf s.lts s.basis s.class (node_system (rows_of case) case.forms sides) members start value
      → place_fold s.setting s.problem start value (Err w)
      → CaseComes s (passes (step_at Stage.place s.problem s.number (named_sides s.lts s.class s.problem sides) w))
  place_is_made : (case : CaseSystem) (members : List ℕ) (sides : List SplitSide) (start : Ratio) (value : ℕ → Ratio) (p : Place)
      → system_fold s (Ok case) → Branching (rows_of case) case.forms (found members sides)
      → PointOf s.lts s.basis s.class (node_system (rows_of case) case.forms sides) members start value
      → place_fold s.setting s.problem start value (Ok p)
      → CaseComes s (makes p)
  leaf_passes : (case : CaseSystem) (multipliers : SplitTree) (at : LeafWide) → system_fold s (Ok case)
      → Branching (rows_of case) case.forms (tree multipliers) → spread_tree s case [] multipliers (Err at)
      → CaseComes s (passes (step_at Stage.spread s.problem s.number (named_sides s.lts s.class s.problem at.above) at.wide))
  is_refuted : (case : CaseSystem) (multipliers : SplitTree) (t : Tree) → system_fold s (Ok case)
      → Branching (rows_of case) case.forms (tree multipliers) → spread_tree s case [] multipliers (Ok t)
      → CaseComes s (refutes t)
