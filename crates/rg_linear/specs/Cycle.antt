-- The walk over the rows of a system without constants, after which its free columns are known.
use Rattle.std.specs.Prelude.{◌≡◌, ◌≢◌, ◌⊎◌, ℕ, suc, ◌<◌, ◌≤◌, List, [], length, map, slice_index_or, All, Contains, ℤ, pos, ◌*ℤ◌}
use Rattle.rg_linear.specs.System.{LinearSystem, row_variable, row_at}
use Rattle.rg_integers.specs.Sum.{sum_below}
use Rattle.rg_linear.specs.Dictionary.{Relation, DictionaryRow, column_set, numbers_from}
use Rattle.rg_integers.specs.declared.term.Wide.{Wide}
use Rattle.rg_linear.specs.Exchange.{exchanged, AllFit, FirstWide}
use Rattle.rg_linear.specs.Descent.{WideAt}
use Rattle.rg_linear.specs.Firsts.{KeepsEqualRows}

-- every row is a sum of columns alone
abbrev pub IsHomogeneous : LinearSystem → Type 0
IsHomogeneous system = (i : ℕ) → i < length system.rows → (row_at system i).constant ≡ pos 0

pub data CycleOutcome : Type 0 where
  free_set : List ℕ → CycleOutcome
  too_wide : WideAt → CycleOutcome

-- the relation of row i names no column
pub record IsSkipped (system : LinearSystem) (members : List ℕ) (i : ℕ) : Type 0 where
  pub k : Relation
  pub row : DictionaryRow system members (row_variable system i) k
  pub none : (t : ℕ) → t < system.columns → k.coefficient t ≡ pos 0

-- j is the least column that the relation of row i names
pub record Picks (system : LinearSystem) (members : List ℕ) (i j : ℕ) : Type 0 where
  pub k : Relation
  pub row : DictionaryRow system members (row_variable system i) k
  pub column : j < system.columns
  pub named : k.coefficient j ≢ pos 0
  pub least : (t : ℕ) → t < j → k.coefficient t ≡ pos 0

-- what the rows from i on lead to
pub data CycleWalkFrom (system : LinearSystem) : List ℕ → ℕ → CycleOutcome → Type 0 where
  no_row_left : {members : List ℕ} {i : ℕ} → length system.rows ≤ i → CycleWalkFrom system members i (free_set members)
  skipped : {members : List ℕ} {i : ℕ} {o : CycleOutcome} → i < length system.rows → IsSkipped system members i
      → CycleWalkFrom system members (suc i) o → CycleWalkFrom system members i o
  passes : {members : List ℕ} {i : ℕ} (j w n : ℕ) (t : Wide) → i < length system.rows → Picks system members i j
      → FirstWide system members (row_variable system i) j w n t
      → CycleWalkFrom system members i (too_wide (record { members = members; pivot = row_variable system i; leaves = j; target = w; entry = n; term = t }))
  exchanges : {members : List ℕ} {i : ℕ} {o : CycleOutcome} (j : ℕ) → i < length system.rows → Picks system members i j
      → AllFit system members (row_variable system i) j
      → CycleWalkFrom system (exchanged members (row_variable system i) j) (suc i) o → CycleWalkFrom system members i o

-- from the columns, over all rows
abbrev pub CycleWalk : LinearSystem → CycleOutcome → Type 0
CycleWalk system o = CycleWalkFrom system (column_set system) 0 o

-- all rows are 0
abbrev pub RowsAreZero : LinearSystem → (ℕ → ℤ) → Type 0
RowsAreZero system v = (i : ℕ) → i < length system.rows → v (row_variable system i) ≡ pos 0

-- the columns outside the set have the values that their relations give from the columns in it
abbrev pub FollowsRelations : LinearSystem → List ℕ → (ℕ → ℤ) → Type 0
FollowsRelations system members v = (t : ℕ) (k : Relation) → t < system.columns → DictionaryRow system members t k → k.d *ℤ v t ≡ sum_below system.columns (λ j. k.coefficient j *ℤ v j)

-- ---- the walk over vectors, a row for each that is kept

abbrev pub vector_at : List (List ℤ) → ℕ → List ℤ
vector_at vectors i = slice_index_or vectors i []

abbrev pub IsZeroVector : List ℤ → Type 0
IsZeroVector numbers = All (λ z. z ≡ pos 0) numbers

-- the indices of the vectors that are kept: those that are not 0, and of equal ones the first
abbrev pub KeepsVectors : List (List ℤ) → List ℕ → Type 0
KeepsVectors vectors kept = KeepsEqualRows (vector_at vectors) (λ i. IsZeroVector (vector_at vectors i)) [] (numbers_from 0 (length vectors)) kept

-- a column for each label's effect, and the kept vectors as rows without constant
abbrev pub vector_system : ℕ → List (List ℤ) → List ℕ → LinearSystem
vector_system labels vectors kept = record { columns = labels; rows = map (λ i. record { coeffs = vector_at vectors i; constant = pos 0 }) kept }

-- the kept indices, the set with which the walk ends, and the relation of each label outside it
pub record CycleBasis : Type 0 where
  pub kept : List ℕ
  pub members : List ℕ
  pub relation : ℕ → Relation

-- the relation used where there is none
abbrev pub no_relation : Relation
no_relation = record { d = pos 1; constant = pos 0; coefficient = λ j. pos 0 }

-- the basis of the vectors, over so many labels
pub record IsCycleBasis (labels : ℕ) (vectors : List (List ℤ)) (basis : CycleBasis) : Type 0 where
  pub kept : KeepsVectors vectors basis.kept
  pub cycle : CycleWalk (vector_system labels vectors basis.kept) (free_set basis.members)
  pub relations : (t : ℕ) → t < labels → ¬ Contains basis.members t → DictionaryRow (vector_system labels vectors basis.kept) basis.members t (basis.relation t)
  pub others : (t : ℕ) → (labels ≤ t) ⊎ Contains basis.members t → basis.relation t ≡ no_relation
