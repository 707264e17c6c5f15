-- The state of a descent with a revised dictionary.
use Rattle.std.specs.Prelude.{◌≡◌, ◌≢◌, ℕ, ◌+◌, ◌-◌, ◌*◌, ◌^◌, ◌<◌, ◌≤◌, List, length, slice_index, Contains, Bool, false, ℤ, pos, ◌<ℤ◌, unsigned_abs}
use Rattle.rg_linear.specs.System.{LinearSystem, variables, row_variable, row_at as row_of}
use Rattle.rg_linear.specs.Exchange.{exchanged, AllFit}
use Rattle.rg_linear.specs.Descent.{IsSatisfied, IsStuck, Chooses}
use Rattle.rg_revised.specs.Basis.{IsRelationOf, HasNorms}
use Rattle.rg_linear.specs.Table.{row_at}
use Rattle.rg_revised.specs.Rows.{RowWithin, TableWithin}
use Rattle.rg_revised.specs.Reading.{AreNamed, constant_over}
use Rattle.rg_integers.specs.Sum.{number_at}
use Rattle.rg_revised.specs.View.{BasisState, TableauState}
use Rattle.rg_revised.specs.Held.{relation_of, IsHeld}
use Rattle.rg_revised.specs.declared.step.Step.{Step}
use Rattle.rg_revised.specs.declared.step.Step.TheVariants.{Satisfied, Stuck, Exchanged, Large}

-- the table is held, and no number of it passes most
pub record IsSmallHeld (system : LinearSystem) (members : List ℕ) (b : BasisState) (most : ℕ) : Type 0 where
  pub held : IsHeld system members b
  pub within : TableWithin (length b.slots + 1) (length b.slots) most b.table
  pub d_within : unsigned_abs b.d ≤ most

-- the exchange of a variable outside the set, whose relation has these numbers, with the variable of slot p
abbrev pub IsExchangeOf : BasisState → List ℤ → ℕ → ℕ → ℕ → BasisState → Type 0
IsExchangeOf before numbers p variable most after = (system : LinearSystem) (members : List ℕ) → IsSmallHeld system members before most → variable < variables system
    → ¬ Contains members variable → IsRelationOf system members variable (relation_of before.slots before.d numbers)
    → IsSmallHeld system (exchanged members variable (slice_index before.slots p)) after most

-- the same where the relation has its own denominator, and the common factor of the table is taken out
abbrev pub IsLongExchangeOf : BasisState → List ℤ → ℤ → ℕ → ℕ → BasisState → Type 0
IsLongExchangeOf before numbers over p variable after = (system : LinearSystem) (members : List ℕ) → IsHeld system members before → variable < variables system
    → ¬ Contains members variable → IsRelationOf system members variable (relation_of before.slots over numbers)
    → IsHeld system (exchanged members variable (slice_index before.slots p)) after

-- the rows are so small that with numbers up to most in the table no term of an exchange is out of range
abbrev pub HasRoom : LinearSystem → ℕ → Type 0
HasRoom system most = (norm : ℕ) × HasNorms system norm × (1 ≤ most) × ((norm + 1) * most < 2 ^ 63)

-- the rows and the numbers of the table are so small that sums of a row fit 128 bits; in a short descent they fit 64 bits
pub record HasRoomIn (system : LinearSystem) (norm most : ℕ) (long : Bool) : Type 0 where
  pub norms : HasNorms system norm
  pub norm_fits : norm < 2 ^ 63
  pub some : 1 ≤ most
  pub most_fits : most < 2 ^ 63
  pub short : long ≡ false → (norm + 1) * most < 2 ^ 63

-- row i of the system has these coefficients and this constant
pub record IsRow (system : LinearSystem) (i : ℕ) (coeffs : List ℤ) (constant : ℤ) : Type 0 where
  pub inside : i < length system.rows
  pub coeffs_are : (row_of system i).coeffs ≡ coeffs
  pub constant_is : (row_of system i).constant ≡ constant
  pub each : length coeffs ≡ system.columns

-- the row is one of a system whose relations are held, with numbers so small that no sum is out of range
pub record CanRead (b : BasisState) (coeffs : List ℤ) (constant : ℤ) : Type 0 where
  pub system : LinearSystem
  pub members : List ℕ
  pub most : ℕ
  pub i : ℕ
  pub small : IsSmallHeld system members b most
  pub room : HasRoom system most
  pub row : IsRow system i coeffs constant

-- the row is one of a system whose relations are held, with numbers so small that its sums are in range
pub record CanSum (b : BasisState) (coeffs : List ℤ) (constant : ℤ) : Type 0 where
  pub system : LinearSystem
  pub members : List ℕ
  pub norm : ℕ
  pub most : ℕ
  pub long : Bool
  pub i : ℕ
  pub small : IsSmallHeld system members b most
  pub room : HasRoomIn system norm most long
  pub row : IsRow system i coeffs constant

-- the constants of the columns' relations, and the columns where they aren't 0
pub record HasConstants (b : BasisState) (constants : List ℤ) (named : List ℕ) : Type 0 where
  pub size : length constants ≡ length b.slots
  pub values : (t : ℕ) → t < length b.slots → number_at constants t ≡ number_at (row_at (length b.slots + 1) b.table t) (length b.slots)
  pub named_are : AreNamed constants named
  pub inside : (t : ℕ) → Contains named t → t < length constants
  pub short : length named ≤ length constants

-- the relations are those of the system's columns over the set
pub record IsTableauOf (system : LinearSystem) (members : List ℕ) (t : TableauState) : Type 0 where
  pub held : IsSmallHeld system members t.basis t.most
  pub room : HasRoomIn system t.norm t.most t.long
  pub constants : HasConstants t.basis t.constants t.named
  pub width : length t.numbers ≡ length t.basis.slots + 1

-- row i was read: the numbers are those of a relation of it, whose constant has its sign
pub record IsRowRead (system : LinearSystem) (members : List ℕ) (i : ℕ) (coeffs : List ℤ) (constant : ℤ) (old new : TableauState) : Type 0 where
  pub whole : IsTableauOf system members new
  pub relation : IsRelationOf system members (row_variable system i) (relation_of new.basis.slots new.over new.numbers)
  pub fails : constant_over coeffs old.constants constant old.basis.d <ℤ pos 0 → number_at new.numbers (length new.basis.slots) <ℤ pos 0

-- the numbers fit 64 bits, also with the other sign; in a short descent they are over the denominator of the table
pub record HasShortNumbers (t : TableauState) : Type 0 where
  pub small : RowWithin (2 ^ 63 - 1) t.numbers
  pub over : t.long ≡ false → t.over ≡ t.basis.d

-- the numbers are those of a relation of the variable, which names that of slot p
pub record CanExchange (t : TableauState) (p variable : ℕ) : Type 0 where
  pub system : LinearSystem
  pub members : List ℕ
  pub whole : IsTableauOf system members t
  pub relation : IsRelationOf system members variable (relation_of t.basis.slots t.over t.numbers)
  pub short : HasShortNumbers t
  pub inside : p < length t.basis.slots
  pub named : number_at t.numbers p ≢ pos 0

-- the variable of slot p leaves for a variable outside the set, whose relation has the numbers: no term is out of range, and the relations
-- over the new set are held
abbrev pub IsSetExchange : TableauState → ℕ → ℕ → TableauState → Type 0
IsSetExchange old p variable new = (system : LinearSystem) (members : List ℕ) → IsTableauOf system members old → variable < variables system → ¬ Contains members variable
    → IsRelationOf system members variable (relation_of old.basis.slots old.over old.numbers)
    → AllFit system members variable (slice_index old.basis.slots p) × IsSmallHeld system (exchanged members variable (slice_index old.basis.slots p)) new.basis new.most
    × HasRoomIn system new.norm new.most new.long

-- so are their constants
abbrev pub IsTableauExchange : TableauState → ℕ → ℕ → TableauState → Type 0
IsTableauExchange old p variable new = (system : LinearSystem) (members : List ℕ) → IsTableauOf system members old → variable < variables system → ¬ Contains members variable
    → IsRelationOf system members variable (relation_of old.basis.slots old.over old.numbers)
    → AllFit system members variable (slice_index old.basis.slots p) × IsTableauOf system (exchanged members variable (slice_index old.basis.slots p)) new

-- row i, at the set of members, with the variables that are fixed, and what is held after the step
abbrev pub StepTells : LinearSystem → List ℕ → List ℕ → ℕ → TableauState → Step → Type 0
StepTells system members fixed i after Satisfied = IsSatisfied system members i × IsTableauOf system members after
StepTells system members fixed i after Stuck = IsStuck system members fixed i × IsTableauOf system members after
    × IsRelationOf system members (row_variable system i) (relation_of after.basis.slots after.over after.numbers)
StepTells system members fixed i after Exchanged = (j : ℕ) × Chooses system members fixed i j × AllFit system members (row_variable system i) j
    × IsTableauOf system (exchanged members (row_variable system i) j) after
StepTells system members fixed i after Large = Unit {0}
