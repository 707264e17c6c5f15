-- Descents that go on with further rows.
use Rattle.std.specs.Prelude.{◌≡◌, ℕ, ◌<◌, ◌^◌, List, [], length}
use Rattle.rg_linear.specs.System.{LinearSystem, LinearRow, with_rows}
use Rattle.rg_linear.specs.Descent.{Outcome, DescentFrom, DescentFromStart}
use Rattle.rg_revised.specs.Basis.{HasNorms}
use Rattle.rg_revised.specs.State.{IsSmallHeld, HasRoomIn, IsTableauOf}
use Rattle.rg_revised.specs.View.{TableauState, SavedState}

-- the system has the rows of a smaller one, and after them further rows; no row's norm passes norm
pub record Extends (smaller : LinearSystem) (norm : ℕ) (system : LinearSystem) : Type 0 where
  pub further : List LinearRow
  pub is : system ≡ with_rows smaller further
  pub norms : HasNorms system norm

-- the descent comes to row i with the set, and nothing is fixed there: what the rows from i on lead to is its outcome
abbrev pub Reaches : LinearSystem → List ℕ → ℕ → Type 0
Reaches system members i = (o : Outcome) → DescentFrom system members [] (length system.rows) i o → DescentFromStart system o

-- whatever rows follow those of the system, the descent comes to row i with the relations of the tableau
pub record HasCome (smaller : LinearSystem) (i : ℕ) (t : TableauState) : Type 0 where
  pub norms : HasNorms smaller t.norm
  pub norm_fits : t.norm < 2 ^ 63
  pub comes : (system : LinearSystem) → Extends smaller t.norm system → (members : List ℕ) × IsTableauOf system members t × Reaches system members i

-- the copy has the relations of the system's columns over the set
pub record IsCopyWith (system : LinearSystem) (members : List ℕ) (s : SavedState) : Type 0 where
  pub held : IsSmallHeld system members s.basis s.most
  pub room : HasRoomIn system s.norm s.most s.long

-- whatever rows follow those of the system, the descent comes to the row after its last one with the relations of the copy
pub record IsSavedAt (smaller : LinearSystem) (s : SavedState) : Type 0 where
  pub norms : HasNorms smaller s.norm
  pub norm_fits : s.norm < 2 ^ 63
  pub comes : (system : LinearSystem) → Extends smaller s.norm system → (members : List ℕ) × IsCopyWith system members s × Reaches system members (length smaller.rows)
