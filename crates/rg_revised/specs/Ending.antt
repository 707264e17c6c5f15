-- How a descent with a revised dictionary ends.
use Rattle.std.specs.Prelude.{ℕ, List, length}
use Rattle.rg_linear.specs.System.{LinearSystem, row_variable}
use Rattle.rg_linear.specs.Descent.{Outcome.point, Outcome.refuted, DescentFromStart}
use Rattle.rg_revised.specs.Basis.{IsRelationOf}
use Rattle.rg_revised.specs.Held.{relation_of}
use Rattle.rg_revised.specs.State.{IsTableauOf}
use Rattle.rg_revised.specs.Reaching.{HasCome}
use Rattle.rg_revised.specs.View.{TableauState}
use Rattle.rg_revised.specs.declared.descent.Descent.{Descent}
use Rattle.rg_revised.specs.declared.descent.Descent.TheVariants.{Point, Refuted, Large}

-- the descent from the start ends with the point at which every member is 0, and further rows may follow
pub record IsPointAt (system : LinearSystem) (members : List ℕ) (t : TableauState) : Type 0 where
  pub held : IsTableauOf system members t
  pub outcome : DescentFromStart system (point members)
  pub onward : HasCome system (length system.rows) t

-- it is refuted at row i, and the numbers are those of a relation of the row
pub record IsRefutedHeld (system : LinearSystem) (members : List ℕ) (i : ℕ) (t : TableauState) : Type 0 where
  pub held : IsTableauOf system members t
  pub outcome : (fixed : List ℕ) × DescentFromStart system (refuted members i fixed)
  pub relation : IsRelationOf system members (row_variable system i) (relation_of t.basis.slots t.over t.numbers)

-- what an end says; nothing where a number is too large
abbrev pub EndTells : LinearSystem → TableauState → Descent → Type 0
EndTells system t Point = (members : List ℕ) × IsPointAt system members t
EndTells system t (Refuted i) = (members : List ℕ) × IsRefutedHeld system members i t
EndTells system t Large = Unit {0}
