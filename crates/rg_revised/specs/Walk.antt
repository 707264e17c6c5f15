-- The walk over rows without constants, on which each row is taken once.
use Rattle.std.specs.Prelude.{◌≡◌, ◌≢◌, ℕ, ◌+◌, ◌^◌, ◌<◌, List, length, slice_index, ℤ, pos, ◌≤ℤ◌}
use Rattle.rg_integers.specs.Sum.{number_at}
use Rattle.rg_linear.specs.System.{LinearSystem, row_variable}
use Rattle.rg_linear.specs.Exchange.{exchanged, AllFit}
use Rattle.rg_linear.specs.Cycle.{IsSkipped, Picks}
use Rattle.rg_revised.specs.State.{IsSmallHeld, HasRoom}
use Rattle.rg_revised.specs.View.{BasisState}
use Rattle.rg_revised.specs.declared.walk.Taken.{Taken}
use Rattle.rg_revised.specs.declared.walk.Taken.TheVariants.{Skipped, Exchanged, Large}

-- the members in order, and the relations of the columns, with numbers up to most
pub record WalkState : Type 0 where
  pub columns : ℕ
  pub members : List ℕ
  pub basis : BasisState
  pub most : ℕ

-- memory for so many columns
pub record IsWalkStored (w : WalkState) (numbers : List ℤ) (slots : ℕ) (most : ℤ) : Type 0 where
  pub few : w.columns < 2 ^ 32
  pub numbers_size : length numbers ≡ w.columns + 1
  pub members_size : length w.members ≡ w.columns
  pub first_slots : slots ≡ w.columns
  pub not_negative : pos 0 ≤ℤ most

-- the relations are those of the system's columns over the members
pub record IsWalkOf (system : LinearSystem) (w : WalkState) : Type 0 where
  pub held : IsSmallHeld system w.members w.basis w.most
  pub room : HasRoom system w.most

-- the variable of slot p is a column, and the numbers name it
pub record NamesColumn (columns : ℕ) (slots : List ℕ) (numbers : List ℤ) (p : ℕ) : Type 0 where
  pub within : p < length slots
  pub column : slice_index slots p < columns
  pub named : number_at numbers p ≢ pos 0

-- what comes of row i at a walk
abbrev pub WalkTells : LinearSystem → WalkState → ℕ → WalkState → Taken → Type 0
WalkTells system old i new Skipped = (new.members ≡ old.members) × IsSkipped system old.members i × IsWalkOf system new
WalkTells system old i new Exchanged = (j : ℕ) × Picks system old.members i j × AllFit system old.members (row_variable system i) j
    × (new.members ≡ exchanged old.members (row_variable system i) j) × IsWalkOf system new
WalkTells system old i new Large = Unit {0}
