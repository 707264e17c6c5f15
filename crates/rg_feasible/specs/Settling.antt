-- What a settled dictionary says of its system.
use Rattle.std.specs.Prelude.{◌≡◌, ℕ, ◌+◌, List, drop, Some, ◌==◌, if◌then◌else◌, ℤ, neg_ℤ}
use Rattle.rg_integers.specs.Sum.{number_at}
use Rattle.rg_linear.specs.System.{LinearSystem}
use Rattle.rg_linear.specs.Dictionary.{Relation, numbers_from}
use Rattle.rg_linear.specs.Descent.{WideAt, Outcome.point, Outcome.refuted, Outcome.wide, DescentFromStart}
use Rattle.rg_linear.specs.Table.{number_beside}
use Rattle.rg_feasible.specs.Contents.{Contents, row_of, IsDictionary}
use Rattle.rg_feasible.specs.declared.settled.Settled.{Settled}
use Rattle.rg_feasible.specs.declared.settled.Settled.TheVariants.{Point, Refuted, Wide}
use Rattle.rg_feasible.specs.declared.settled.PivotWide.{PivotWide}
use Rattle.rg_feasible.specs.View.{DescentState}

-- the dictionary of the system
abbrev pub IsDictionaryOf : LinearSystem → DescentState → Type 0
IsDictionaryOf system d = IsDictionary system d.table

-- it is the dictionary of some system
abbrev pub IsWhole : DescentState → Type 0
IsWhole d = (system : LinearSystem) × IsDictionaryOf system d

-- it is the dictionary of some system, and the members are the columns
pub record IsFresh (d : DescentState) : Type 0 where
  pub system : LinearSystem
  pub dictionary : IsDictionaryOf system d
  pub start : d.table.members ≡ numbers_from 0 d.table.columns

-- what is shown of a term out of range, at this set
abbrev pub wide_at : List ℕ → PivotWide → WideAt
wide_at members w = record { members = members; pivot = w.pivot; leaves = w.leaves; target = w.target; entry = w.entry; term = w.wide }

-- the descent from the start has this outcome, at this set
abbrev pub IsOutcome : LinearSystem → List ℕ → Settled → Type 0
IsOutcome system members Point = DescentFromStart system (point members)
IsOutcome system members (Refuted i) = (fixed : List ℕ) × DescentFromStart system (refuted members i fixed)
IsOutcome system members (Wide w) = DescentFromStart system (wide (wide_at members w))

-- what is left of the dictionary: after a refutation the row that fails is kept, and after a term out of range nothing is said of the table
abbrev pub IsLeftBy : LinearSystem → DescentState → Settled → Type 0
IsLeftBy system d Point = IsDictionaryOf system d
IsLeftBy system d (Refuted i) = IsDictionaryOf system d × (d.failing ≡ Some i)
IsLeftBy system d (Wide w) = Unit {0}

-- the relation that these numbers show: d, the constant, and the coefficients of the members in order
abbrev pub relation_of : List ℕ → List ℤ → Relation
relation_of members numbers = record { d = number_at numbers 0; constant = number_at numbers 1; coefficient = number_beside members (drop 2 numbers) }

-- the multiplier of a row, where row i fails: d for row i, and the negated coefficient for each other one
abbrev pub multiplier_with : Contents → ℕ → ℕ → ℤ
multiplier_with d i row =
    if row == i then (relation_of d.members (row_of d (d.columns + i))).d else neg_ℤ ((relation_of d.members (row_of d (d.columns + i))).coefficient (d.columns + row))

-- the descent of some system was refuted, and this is its dictionary and the row that fails
pub record IsRefutation (d : DescentState) (i : ℕ) : Type 0 where
  pub system : LinearSystem
  pub dictionary : IsDictionaryOf system d
  pub failing : d.failing ≡ Some i
  pub outcome : IsOutcome system d.table.members (Refuted i)

-- no term was out of range
abbrev pub IsNotWide : Settled → Type 0
IsNotWide Point = Unit {0}
IsNotWide (Refuted i) = Unit {0}
IsNotWide (Wide w) = ⊥
