-- Points at which forms are whole, by splitting on a form that is not.
use Rattle.std.specs.Prelude.{◌≡◌, ℕ, zero, suc, ◌<◌, Bool, true, false, ◌==◌, if◌then◌else◌, List, [], ◌∷◌, ◌++◌, length, map, slice_index_or, ℤ, pos, neg_ℤ, ◌+ℤ◌, ◌-ℤ◌, ◌*ℤ◌, ◌≤ℤ◌, ◌<ℤ◌, int_lt, ◌||◌}
use Rattle.rg_linear.specs.System.{LinearRow, LinearSystem, row_variable, IsPoint, MeetsRows, AreFarkasMultipliers}
use Rattle.rg_integers.specs.Sum.{sum_below}
use Rattle.rg_branch_trees.specs.declared.Side.{Side}
use Rattle.rg_branch_trees.specs.Trees as splits
use Rattle.rg_branch_trees.specs.Trees.{Tree.leaf, Tree.split, low_side, high_side}
use Rattle.rg_linear.specs.Dictionary.{Relation, DictionaryRow}
use Rattle.rg_linear.specs.Descent.{WideAt, DescentFromStart, IsAtZero, multiplier_of}
use Rattle.rg_linear.specs.Descent.Outcome.{point, refuted, wide}

-- scale times the form is coeffs . x, and the form lies between low and high
pub record Form : Type 0 where
  pub scale : ℤ
  pub coeffs : List ℤ
  pub low : ℤ
  pub high : ℤ

abbrev pub form_at : List Form → ℕ → Form
form_at forms f = slice_index_or forms f (record { scale = pos 1; coeffs = []; low = pos 0; high = pos 0 })

-- scale times the value of the form where the columns are x
abbrev pub scaled_value : LinearSystem → Form → (ℕ → ℤ) → ℤ
scaled_value system form x = sum_below system.columns (λ j. slice_index_or form.coeffs j (pos 0) *ℤ x j)

-- one side of a split: form number f is at most the number, or above it
abbrev pub SplitSide : Type 0
SplitSide = Side ℕ

-- scale * at - coeffs on the low side, coeffs - scale * at - scale on the high side
abbrev pub side_row : List Form → SplitSide → LinearRow
side_row forms side =
    if side.high
    then record { coeffs = (form_at forms side.form).coeffs; constant = neg_ℤ ((form_at forms side.form).scale *ℤ side.at) -ℤ (form_at forms side.form).scale }
    else record { coeffs = map neg_ℤ (form_at forms side.form).coeffs; constant = (form_at forms side.form).scale *ℤ side.at }

-- the system of a node: the rows of the splits above it come last, the outermost first
abbrev pub node_system : LinearSystem → List Form → List SplitSide → LinearSystem
node_system system forms above = record { columns = system.columns; rows = system.rows ++ map (side_row forms) above }

-- the form is a whole number at the point v over scale
abbrev pub IsWholeAt : LinearSystem → Form → ℤ → (ℕ → ℤ) → Type 0
IsWholeAt system form scale v = (u : ℤ) × (scaled_value system form v ≡ u *ℤ (form.scale *ℤ scale))

-- every form is whole where every member is 0
pub record AllWhole (system : LinearSystem) (forms : List Form) (above : List SplitSide) (members : List ℕ) : Type 0 where
  pub scale : ℤ
  pub v : ℕ → ℤ
  pub point : IsPoint (node_system system forms above) scale v
  pub zeros : IsAtZero members v
  pub whole : (g : ℕ) → g < length forms → IsWholeAt system (form_at forms g) scale v

-- form f is the first that is not whole where every member is 0, and u is its floor there
pub record FirstFraction (system : LinearSystem) (forms : List Form) (above : List SplitSide) (members : List ℕ) (f : ℕ) (u : ℤ) : Type 0 where
  pub scale : ℤ
  pub v : ℕ → ℤ
  pub point : IsPoint (node_system system forms above) scale v
  pub zeros : IsAtZero members v
  pub within : f < length forms
  pub before : (g : ℕ) → g < f → IsWholeAt system (form_at forms g) scale v
  pub low : (u *ℤ ((form_at forms f).scale *ℤ scale)) <ℤ scaled_value system (form_at forms f) v
  pub high : scaled_value system (form_at forms f) v <ℤ ((u +ℤ pos 1) *ℤ ((form_at forms f).scale *ℤ scale))

-- a row of a node's system, times a number
pub record Weight : Type 0 where
  pub row : ℕ
  pub multiplier : ℤ

-- a tree of splits, with weights at its leaves
abbrev pub SplitTree : Type 0
SplitTree = splits.Tree (List Weight) ℕ

-- the multipliers of the n rows from the first one on, in order, but those that are 0
abbrev pub weights_from : (ℕ → ℤ) → ℕ → ℕ → List Weight
weights_from multiplier first zero = []
weights_from multiplier first (suc n) =
    if int_lt (multiplier first) (pos 0) || int_lt (pos 0) (multiplier first)
    then (record { row = first; multiplier = multiplier first } ∷ weights_from multiplier (suc first) n)
    else weights_from multiplier (suc first) n

pub data BranchOutcome : Type 0 where
  found : List ℕ → List SplitSide → BranchOutcome
  tree : SplitTree → BranchOutcome
  stopped : List SplitSide → WideAt → BranchOutcome

-- anything but a tree
abbrev pub IsEnd : BranchOutcome → Type 0
IsEnd (found members above) = Unit {0}
IsEnd (tree t) = ⊥
IsEnd (stopped above w) = Unit {0}

-- what the node below the splits comes to
pub data BranchFrom (system : LinearSystem) (forms : List Form) : List SplitSide → BranchOutcome → Type 0 where
  passes : {above : List SplitSide} (w : WideAt) → DescentFromStart (node_system system forms above) (wide w)
      → BranchFrom system forms above (stopped above w)
  refutes : {above : List SplitSide} (members fixed : List ℕ) (i : ℕ) (k : Relation)
      → DescentFromStart (node_system system forms above) (refuted members i fixed)
      → DictionaryRow (node_system system forms above) members (row_variable (node_system system forms above) i) k
      → BranchFrom system forms above (tree (leaf (weights_from (multiplier_of (node_system system forms above) k i) 0 (length (node_system system forms above).rows))))
  whole : {above : List SplitSide} (members : List ℕ) → DescentFromStart (node_system system forms above) (point members)
      → AllWhole system forms above members → BranchFrom system forms above (found members above)
  low_ends : {above : List SplitSide} {o : BranchOutcome} (members : List ℕ) (f : ℕ) (u : ℤ)
      → DescentFromStart (node_system system forms above) (point members) → FirstFraction system forms above members f u
      → BranchFrom system forms (above ++ low_side f u ∷ []) o → IsEnd o → BranchFrom system forms above o
  high_ends : {above : List SplitSide} {o : BranchOutcome} (members : List ℕ) (f : ℕ) (u : ℤ) (low : SplitTree)
      → DescentFromStart (node_system system forms above) (point members) → FirstFraction system forms above members f u
      → BranchFrom system forms (above ++ low_side f u ∷ []) (tree low)
      → BranchFrom system forms (above ++ high_side f u ∷ []) o → IsEnd o → BranchFrom system forms above o
  both_refuted : {above : List SplitSide} (members : List ℕ) (f : ℕ) (u : ℤ) (low high : SplitTree)
      → DescentFromStart (node_system system forms above) (point members) → FirstFraction system forms above members f u
      → BranchFrom system forms (above ++ low_side f u ∷ []) (tree low)
      → BranchFrom system forms (above ++ high_side f u ∷ []) (tree high)
      → BranchFrom system forms above (tree (split f u low high))

abbrev pub Branching : LinearSystem → List Form → BranchOutcome → Type 0
Branching system forms o = BranchFrom system forms [] o

-- the multiplier that weights give to a row
abbrev pub multiplier_in : List Weight → ℕ → ℤ
multiplier_in [] row = pos 0
multiplier_in (w ∷ weights) row = if w.row == row then w.multiplier else multiplier_in weights row

-- each leaf refutes the rows with those of the splits above it
abbrev pub SplitTreeRefutes : LinearSystem → List Form → List SplitSide → SplitTree → Type 0
SplitTreeRefutes system forms above (leaf weights) = AreFarkasMultipliers (node_system system forms above) (multiplier_in weights)
SplitTreeRefutes system forms above (split f u low high) = SplitTreeRefutes system forms (above ++ low_side f u ∷ []) low × SplitTreeRefutes system forms (above ++ high_side f u ∷ []) high

-- every scale is positive
abbrev pub ArePositive : List Form → Type 0
ArePositive forms = (f : ℕ) → f < length forms → pos 0 <ℤ (form_at forms f).scale

-- each split is on one of the forms
abbrev pub SplitsForms : List Form → SplitTree → Type 0
SplitsForms forms (leaf weights) = Unit {0}
SplitsForms forms (split f u low high) = (f < length forms) × SplitsForms forms low × SplitsForms forms high

-- the forms are whole where the columns have the values x
abbrev pub FormsWhole : LinearSystem → List Form → ℤ → (ℕ → ℤ) → Type 0
FormsWhole system forms scale x = (f : ℕ) → f < length forms → IsWholeAt system (form_at forms f) scale x

-- every form has a positive scale, and lies between its bounds wherever the rows are met
pub record AreBounded (system : LinearSystem) (forms : List Form) : Type 0 where
  pub positive : ArePositive forms
  pub between : (f : ℕ) (scale : ℤ) (x : ℕ → ℤ) → f < length forms → IsPoint system scale x → MeetsRows system x
      → (((form_at forms f).low *ℤ ((form_at forms f).scale *ℤ scale)) ≤ℤ scaled_value system (form_at forms f) x)
      × (scaled_value system (form_at forms f) x ≤ℤ ((form_at forms f).high *ℤ ((form_at forms f).scale *ℤ scale)))

-- the least and the greatest number that the splits leave to form f, from low and high on
abbrev pub low_end : ℤ → ℕ → List SplitSide → ℤ
low_end low f [] = low
low_end low f (side ∷ above) = low_end (if side.form == f then (if side.high then side.at +ℤ pos 1 else low) else low) f above

abbrev pub high_end : ℤ → ℕ → List SplitSide → ℤ
high_end high f [] = high
high_end high f (side ∷ above) = high_end (if side.form == f then (if side.high then high else side.at) else high) f above

abbrev pub low_at : List Form → List SplitSide → ℕ → ℤ
low_at forms above f = low_end (form_at forms f).low f above

abbrev pub high_at : List Form → List SplitSide → ℕ → ℤ
high_at forms above f = high_end (form_at forms f).high f above

-- the number of a split is in the interval that the splits above it leave to its form, and below the interval's high end
abbrev pub IsInInterval : List Form → List SplitSide → ℕ → ℤ → Type 0
IsInInterval forms above f u = (f < length forms) × (low_at forms above f ≤ℤ u) × (u <ℤ high_at forms above f)

-- each further split is in its interval
abbrev pub SidesWithin : List Form → List SplitSide → List SplitSide → Type 0
SidesWithin forms above [] = Unit {0}
SidesWithin forms above (side ∷ sides) = IsInInterval forms above side.form side.at × SidesWithin forms (above ++ side ∷ []) sides

abbrev pub TreeWithin : List Form → List SplitSide → SplitTree → Type 0
TreeWithin forms above (leaf weights) = Unit {0}
TreeWithin forms above (split f u low high) = IsInInterval forms above f u × TreeWithin forms (above ++ low_side f u ∷ []) low × TreeWithin forms (above ++ high_side f u ∷ []) high

-- each split of an outcome is in its interval
abbrev pub SplitsWithin : List Form → BranchOutcome → Type 0
SplitsWithin forms (found members above) = SidesWithin forms [] above
SplitsWithin forms (tree t) = TreeWithin forms [] t
SplitsWithin forms (stopped above w) = SidesWithin forms [] above
