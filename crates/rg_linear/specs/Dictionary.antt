-- Free sets of variables, and the one relation that each other variable has over them.
use Rattle.std.specs.Prelude.{◌≡◌, ℕ, zero, suc, ◌<◌, nat_lt, if◌then◌else◌, List, [], ◌∷◌, length, Contains, ℤ, pos, ◌+ℤ◌, ◌*ℤ◌, ◌<ℤ◌, unsigned_abs}
use Rattle.std.specs.List.Sorted.{IsStrictlyIncreasing}
use Rattle.std.specs.Int.{◌∣◌}
use Rattle.rg_linear.specs.System.{LinearSystem, variables, row_at, entry, IsPoint}
use Rattle.rg_integers.specs.Sum.{sum_below}

-- two points have the same value at each member
abbrev pub AgreeOn : List ℕ → (ℕ → ℤ) → (ℕ → ℤ) → Type 0
AgreeOn members v u = (m : ℕ) → Contains members m → v m ≡ u m

-- a point at which each member has the value wanted m over scale, written over times times that scale
pub record Takes (system : LinearSystem) (members : List ℕ) (wanted : ℕ → ℤ) (scale : ℤ) : Type 0 where
  pub times : ℤ
  pub v : ℕ → ℤ
  pub positive : pos 0 <ℤ times
  pub point : IsPoint system (times *ℤ scale) v
  pub values : (m : ℕ) → Contains members m → v m ≡ times *ℤ wanted m

-- as many variables as there are columns, in order, that can take any rational values, each choice at one point
pub record IsFree (system : LinearSystem) (members : List ℕ) : Type 0 where
  pub ordered : IsStrictlyIncreasing members
  pub count : length members ≡ system.columns
  pub within : (m : ℕ) → Contains members m → m < variables system
  pub determines : (scale : ℤ) (v u : ℕ → ℤ) → IsPoint system scale v → IsPoint system scale u → AgreeOn members v u → (w : ℕ) → w < variables system → v w ≡ u w
  pub takes : (wanted : ℕ → ℤ) (scale : ℤ) → pos 0 <ℤ scale → Takes system members wanted scale

-- d * v = constant + the sum of coefficient m * v m, in whole numbers; a variable that is not named has coefficient 0
pub record Relation : Type 0 where
  pub d : ℤ
  pub constant : ℤ
  pub coefficient : ℕ → ℤ

-- the relation holds of variable w at every point
abbrev pub Holds : LinearSystem → ℕ → Relation → Type 0
Holds system w k = (scale : ℤ) (v : ℕ → ℤ) → IsPoint system scale v → k.d *ℤ v w ≡ (k.constant *ℤ scale) +ℤ sum_below (variables system) (λ m. k.coefficient m *ℤ v m)

-- it names members alone
abbrev pub IsOver : List ℕ → Relation → Type 0
IsOver members k = (m : ℕ) → ¬ Contains members m → k.coefficient m ≡ pos 0

-- its numbers have no common factor
abbrev pub IsPrimitive : Relation → Type 0
IsPrimitive k = (g : ℕ) → g ∣ unsigned_abs k.d → g ∣ unsigned_abs k.constant → ((m : ℕ) → g ∣ unsigned_abs (k.coefficient m)) → g ≡ 1

-- the columns in order, from the first one
abbrev pub numbers_from : ℕ → ℕ → List ℕ
numbers_from first zero = []
numbers_from first (suc n) = first ∷ numbers_from (suc first) n

abbrev pub column_set : LinearSystem → List ℕ
column_set system = numbers_from 0 system.columns

-- the relation of row i over the columns: the row itself
abbrev pub row_relation : LinearSystem → ℕ → Relation
row_relation system i = record {
  d = pos 1;
  constant = (row_at system i).constant;
  coefficient = λ j. if nat_lt j system.columns then entry system i j else pos 0;
}

-- the relation of variable w over a free set
pub record DictionaryRow (system : LinearSystem) (members : List ℕ) (w : ℕ) (k : Relation) : Type 0 where
  pub free : IsFree system members
  pub variable : w < variables system
  pub outside : ¬ Contains members w
  pub positive : pos 0 <ℤ k.d
  pub over : IsOver members k
  pub primitive : IsPrimitive k
  pub holds : Holds system w k

-- the set is free, and every variable outside it has its relation
pub record HasDictionary (system : LinearSystem) (members : List ℕ) : Type 0 where
  pub free : IsFree system members
  pub rows : (w : ℕ) → w < variables system → ¬ Contains members w → (k : Relation) × DictionaryRow system members w k
