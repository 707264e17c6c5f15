-- The order of work on a system: rows are fixed one after the other, and a row that fails is exchanged.
use Rattle.std.specs.Prelude.{◌≡◌, ◌≢◌, ℕ, suc, ◌<◌, ◌≤◌, ◌⊎◌, List, [], ◌∷◌, length, Contains, ◌==◌, if◌then◌else◌, ℤ, pos, neg_ℤ, ◌≤ℤ◌, ◌<ℤ◌}
use Rattle.rg_linear.specs.System.{LinearSystem, row_variable, IsPoint, MeetsRows}
use Rattle.rg_linear.specs.Dictionary.{Relation, DictionaryRow, column_set}
use Rattle.rg_integers.specs.declared.term.Wide.{Wide}
use Rattle.rg_linear.specs.Exchange.{exchanged, AllFit, FirstWide}

-- the place of a term out of range: the set, in the exchange of the variable pivot of a row with the member that leaves,
-- in the new relation of target, as term number entry
pub record WideAt : Type 0 where
  pub members : List ℕ
  pub pivot : ℕ
  pub leaves : ℕ
  pub target : ℕ
  pub entry : ℕ
  pub term : Wide

pub data Outcome : Type 0 where
  point : List ℕ → Outcome
  refuted : List ℕ → ℕ → List ℕ → Outcome
  wide : WideAt → Outcome

-- anything but a point
abbrev pub IsStop : Outcome → Type 0
IsStop (point members) = ⊥
IsStop (refuted members i fixed) = Unit {0}
IsStop (wide at) = Unit {0}

-- row i is satisfied: it is a member, or its relation has no negative constant
abbrev pub IsSatisfied : LinearSystem → List ℕ → ℕ → Type 0
IsSatisfied system members i =
    Contains members (row_variable system i)
    ⊎ ((k : Relation) × DictionaryRow system members (row_variable system i) k × (pos 0 ≤ℤ k.constant))

-- row i fails, and its relation names fixed variables alone
pub record IsStuck (system : LinearSystem) (members fixed : List ℕ) (i : ℕ) : Type 0 where
  pub k : Relation
  pub row : DictionaryRow system members (row_variable system i) k
  pub negative : k.constant <ℤ pos 0
  pub none : (m : ℕ) → Contains members m → ¬ Contains fixed m → k.coefficient m ≡ pos 0

-- row i fails, and j is the least member that is not fixed and that its relation names
pub record Chooses (system : LinearSystem) (members fixed : List ℕ) (i j : ℕ) : Type 0 where
  pub k : Relation
  pub row : DictionaryRow system members (row_variable system i) k
  pub negative : k.constant <ℤ pos 0
  pub member : Contains members j
  pub not_fixed : ¬ Contains fixed j
  pub named : k.coefficient j ≢ pos 0
  pub least : (m : ℕ) → Contains members m → ¬ Contains fixed m → m < j → k.coefficient m ≡ pos 0

-- what the rows i to r - 1 lead to, from the set of members and the list of fixed variables, the last one first
pub data DescentFrom (system : LinearSystem) : List ℕ → List ℕ → ℕ → ℕ → Outcome → Type 0 where
  after_last : {members fixed : List ℕ} {r i : ℕ} → r ≤ i → DescentFrom system members fixed r i (point members)
  satisfied : {members fixed : List ℕ} {r i : ℕ} {o : Outcome} → i < r → IsSatisfied system members i
      → DescentFrom system members fixed r (suc i) o → DescentFrom system members fixed r i o
  stuck : {members fixed : List ℕ} {r i : ℕ} → i < r → IsStuck system members fixed i
      → DescentFrom system members fixed r i (refuted members i fixed)
  passes : {members fixed : List ℕ} {r i : ℕ} (j w n : ℕ) (t : Wide) → i < r → Chooses system members fixed i j
      → FirstWide system members (row_variable system i) j w n t
      → DescentFrom system members fixed r i (wide (record { members = members; pivot = row_variable system i; leaves = j; target = w; entry = n; term = t }))
  stops_below : {members fixed : List ℕ} {r i : ℕ} {o : Outcome} (j : ℕ) → i < r → Chooses system members fixed i j
      → AllFit system members (row_variable system i) j
      → DescentFrom system (exchanged members (row_variable system i) j) (row_variable system i ∷ fixed) i 0 o
      → IsStop o → DescentFrom system members fixed r i o
  goes_on : {members fixed : List ℕ} {r i : ℕ} {o : Outcome} (j : ℕ) (after : List ℕ) → i < r → Chooses system members fixed i j
      → AllFit system members (row_variable system i) j
      → DescentFrom system (exchanged members (row_variable system i) j) (row_variable system i ∷ fixed) i 0 (point after)
      → DescentFrom system after fixed r (suc i) o → DescentFrom system members fixed r i o

-- the rows 0 to r - 1, with nothing done yet
abbrev pub Descent : LinearSystem → List ℕ → List ℕ → ℕ → Outcome → Type 0
Descent system members fixed r o = DescentFrom system members fixed r 0 o

-- from the columns, with nothing fixed, over all rows
abbrev pub DescentFromStart : LinearSystem → Outcome → Type 0
DescentFromStart system o = Descent system (column_set system) [] (length system.rows) o

-- every member is 0: the point of an outcome Point
abbrev pub IsAtZero : List ℕ → (ℕ → ℤ) → Type 0
IsAtZero members v = (m : ℕ) → Contains members m → v m ≡ pos 0

-- the multipliers of an outcome Refuted: d for the row that fails, and the negated coefficient for each other row
abbrev pub multiplier_of : LinearSystem → Relation → ℕ → ℕ → ℤ
multiplier_of system k i row = if row == i then k.d else neg_ℤ (k.coefficient (row_variable system row))

-- no term was out of range
abbrev pub IsNotWide : Outcome → Type 0
IsNotWide (point members) = Unit {0}
IsNotWide (refuted members i fixed) = Unit {0}
IsNotWide (wide at) = ⊥

-- the values v over scale are those of the point at which every member is 0
pub record IsBasicPoint (system : LinearSystem) (members : List ℕ) (scale : ℤ) (v : ℕ → ℤ) : Type 0 where
  pub point : IsPoint system scale v
  pub zero : IsAtZero members v

-- there is such a point, and it meets every row
pub record IsFeasibleAt (system : LinearSystem) (members : List ℕ) : Type 0 where
  pub scale : ℤ
  pub v : ℕ → ℤ
  pub basic : IsBasicPoint system members scale v
  pub meets : MeetsRows system v
