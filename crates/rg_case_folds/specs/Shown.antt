-- The term out of range that an answer shows: at each stage its four numbers are fixed by the input.
use Rattle.std.specs.Prelude.{◌≡◌, ◌⊎◌, ℕ, ◌+◌, ◌<◌, if◌then◌else◌, List, [], ◌∷◌, ◌++◌, map, length, slice_index_or, Contains, pos, Option, Some, None, Ok, Err, IsTrue, IsFalse}
use Rattle.rg_theory.specs.declared.Arc.{Arc}
use Rattle.rg_theory.specs.System.{System, IsDead}
use Rattle.rg_theory.specs.declared.Class.{Class}
use Rattle.rg_theory.specs.declared.Problem.{Problem}
use Rattle.rg_theory.specs.declared.Problem.TheVariants.{Event, States}
use Rattle.rg_theory.specs.Problem.{IsProblem}
use Rattle.rg_cert_meaning.specs.Row.{cases_of, Side}
use Rattle.rg_linear.specs.System.{LinearSystem}
use Rattle.rg_linear.specs.Dictionary.{Relation, DictionaryRow}
use Rattle.rg_linear.specs.Descent.{WideAt}
use Rattle.rg_linear.specs.Cycle.{CycleWalk, CycleOutcome.too_wide, CycleBasis}
use Rattle.rg_branch_trees.specs.Trees.{Tree.leaf, Tree.split, low_side, high_side}
use Rattle.rg_linear.specs.Branching.{Weight, SplitTree, node_system, Branching, BranchOutcome.found, BranchOutcome.tree, BranchOutcome.stopped, SplitSide}
use Rattle.rg_integers.specs.declared.term.Wide.{Wide}
use Rattle.rg_folds.specs.Fold.{Ratio, whole, IsRatio}
use Rattle.rg_theory.specs.Tree.{IsTree}
use Rattle.rg_case_folds.specs.Chords.{KeepsChords, chord_system, IsBasis}
use Rattle.rg_case_folds.specs.Setting.{setting_at, case_at}
use Rattle.rg_case_folds.specs.Rewriting.{has_start, free_columns, split_forms, CaseSystem, rows_of, system_fold}
use Rattle.rg_case_folds.specs.Placing.{place_fold}
use Rattle.rg_case_folds.specs.Spreading.{spread_fold}
use Rattle.rg_cert_meaning.specs.declared.Form.TheVariants as split_form

pub data Stage : Type 0 where
  cycle : Stage
  row : Stage
  pivot : Stage
  place : Stage
  spread : Stage

-- a term out of range and its place; a field that a stage does not use is 0, an empty list or None
pub record Shown : Type 0 where
  pub stage : Stage
  pub problem : Option Problem
  pub case_number : ℕ
  pub above : List Side
  pub members : List ℕ
  pub pivot_variable : ℕ
  pub leaves : ℕ
  pub target : ℕ
  pub entry : ℕ
  pub wide : Wide

-- its place is where the walk or the descent stopped
pub record StandsAt (w : Shown) (at : WideAt) : Type 0 where
  pub members : w.members ≡ at.members
  pub pivot : w.pivot_variable ≡ at.pivot
  pub leaves : w.leaves ≡ at.leaves
  pub target : w.target ≡ at.target
  pub entry : w.entry ≡ at.entry
  pub wide : w.wide ≡ at.term

-- its place is at no exchange
pub record StandsNowhere (w : Shown) : Type 0 where
  pub members : w.members ≡ []
  pub pivot : w.pivot_variable ≡ 0
  pub leaves : w.leaves ≡ 0
  pub target : w.target ≡ 0
  pub entry : w.entry ≡ 0

-- the event's label has an arc
abbrev pub IsLive : System → Problem → Type 0
IsLive lts (Event s t) = ¬ IsDead lts t
IsLive lts (States s s') = Unit {0}

-- its place is in this case of a problem of the system
pub record StandsIn (lts : System) (class : Class) (w : Shown) (problem : Problem) : Type 0 where
  pub problem_is : w.problem ≡ Some problem
  pub has : IsProblem lts problem
  pub live : IsLive lts problem
  pub case_below : w.case_number < cases_of lts class problem

-- the sides of the splits, their forms by name
abbrev pub named_side : System → Class → Problem → SplitSide → Side
named_side lts class problem side = record { form = slice_index_or (split_forms lts class problem) side.form (split_form.Tokens 0); at = side.at; high = side.high }

abbrev pub named_sides : System → Class → Problem → List SplitSide → List Side
named_sides lts class problem sides = map (named_side lts class problem) sides

-- f is the value of variable j where every member is 0
abbrev pub IsValueAt : LinearSystem → List ℕ → ℕ → Ratio → Type 0
IsValueAt system members j f = (Contains members j × (f ≡ whole (pos 0))) ⊎ ((k : Relation) × DictionaryRow system members j k × IsRatio f k.constant k.d)

-- Start and the values of the free labels, from the columns' values at a set
pub record PointOf (lts : System) (basis : CycleBasis) (class : Class) (system : LinearSystem) (members : List ℕ) (start : Ratio) (value : ℕ → Ratio) : Type 0 where
  pub start_is : IsTrue (has_start class) → IsValueAt system members 0 start
  pub no_start : IsFalse (has_start class) → start ≡ whole (pos 0)
  pub values : (i f : ℕ) → i < length (free_columns lts basis) → slice_index_or (free_columns lts basis) i 0 ≡ f → IsValueAt system members ((if has_start class then 1 else 0) + i) (value f)

-- the tree has a leaf with these weights below these splits
abbrev pub HasLeaf : List SplitSide → SplitTree → List SplitSide → List Weight → Type 0
HasLeaf above (leaf weights) sides out = (sides ≡ above) × (out ≡ weights)
HasLeaf above (split f u low high) sides out = HasLeaf (above ++ low_side f u ∷ []) low sides out ⊎ HasLeaf (above ++ high_side f u ∷ []) high sides out

-- the system of the case, over the tree and its basis
pub record CaseOf (lts : System) (class : Class) (w : Shown) (case : CaseSystem) : Type 0 where
  pub arcs : List Arc
  pub basis : CycleBasis
  pub problem : Problem
  pub is_tree : IsTree lts arcs
  pub is_basis : IsBasis lts arcs basis
  pub stands : StandsIn lts class w problem
  pub is_case : system_fold (case_at (setting_at lts arcs basis class) problem w.case_number) (Ok case)

-- the term of the walk over the chords
pub record CycleShown (lts : System) (w : Shown) : Type 0 where
  pub arcs : List Arc
  pub kept : List ℕ
  pub at : WideAt
  pub is_tree : IsTree lts arcs
  pub chords : KeepsChords lts arcs kept
  pub stops : CycleWalk (chord_system lts arcs kept) (too_wide at)
  pub stands : StandsAt w at
  pub no_problem : w.problem ≡ None
  pub no_case : w.case_number ≡ 0
  pub no_split : w.above ≡ []

-- the first step out of range of the rows of a case
pub record RowShown (lts : System) (class : Class) (w : Shown) : Type 0 where
  pub arcs : List Arc
  pub basis : CycleBasis
  pub problem : Problem
  pub is_tree : IsTree lts arcs
  pub is_basis : IsBasis lts arcs basis
  pub stands : StandsIn lts class w problem
  pub nowhere : StandsNowhere w
  pub no_split : w.above ≡ []
  pub passes : system_fold (case_at (setting_at lts arcs basis class) problem w.case_number) (Err w.wide)

-- the term of the first descent that has one
pub record PivotShown (lts : System) (class : Class) (w : Shown) : Type 0 where
  pub case : CaseSystem
  pub of_case : CaseOf lts class w case
  pub sides : List SplitSide
  pub at : WideAt
  pub stops : Branching (rows_of case) case.forms (stopped sides at)
  pub above_is : w.above ≡ named_sides lts class of_case.problem sides
  pub stands : StandsAt w at

-- the first step out of range of the place that the point makes
pub record PlaceShown (lts : System) (class : Class) (w : Shown) : Type 0 where
  pub case : CaseSystem
  pub of_case : CaseOf lts class w case
  pub sides : List SplitSide
  pub set : List ℕ
  pub start : Ratio
  pub value : ℕ → Ratio
  pub finds : Branching (rows_of case) case.forms (found set sides)
  pub above_is : w.above ≡ named_sides lts class of_case.problem sides
  pub nowhere : StandsNowhere w
  pub point : PointOf lts of_case.basis class (node_system (rows_of case) case.forms sides) set start value
  pub passes : place_fold (setting_at lts of_case.arcs of_case.basis class) of_case.problem start value (Err w.wide)

-- the first step out of range of a leaf's multipliers
pub record SpreadShown (lts : System) (class : Class) (w : Shown) : Type 0 where
  pub case : CaseSystem
  pub of_case : CaseOf lts class w case
  pub refuting : SplitTree
  pub sides : List SplitSide
  pub weights : List Weight
  pub refutes : Branching (rows_of case) case.forms (tree refuting)
  pub has_leaf : HasLeaf [] refuting sides weights
  pub above_is : w.above ≡ named_sides lts class of_case.problem sides
  pub nowhere : StandsNowhere w
  pub passes : spread_fold (case_at (setting_at lts of_case.arcs of_case.basis class) of_case.problem w.case_number) case sides (named_sides lts class of_case.problem sides) weights (Err w.wide)

abbrev pub ShownAt : Stage → System → Class → Shown → Type 0
ShownAt cycle lts class w = CycleShown lts w
ShownAt row lts class w = RowShown lts class w
ShownAt pivot lts class w = PivotShown lts class w
ShownAt place lts class w = PlaceShown lts class w
ShownAt spread lts class w = SpreadShown lts class w

-- the term shown is fixed by the system and the class
abbrev pub ShownWide : System → Class → Shown → Type 0
ShownWide lts class w = ShownAt w.stage lts class w
