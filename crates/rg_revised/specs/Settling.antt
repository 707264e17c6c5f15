-- What a settled revised dictionary says of its system.
use Rattle.std.specs.Prelude.{◌≡◌, ℕ, List, ◌∷◌, length, Some, ℤ, pos, ◌<ℤ◌, unsigned_abs}
use Rattle.rg_fraction.specs.Rows.{IsRowGcd}
use Rattle.rg_linear.specs.System.{LinearSystem, row_variable}
use Rattle.rg_linear.specs.Descent.{Outcome.refuted, DescentFromStart}
use Rattle.rg_revised.specs.Basis.{IsRelationOf}
use Rattle.rg_revised.specs.Held.{relation_of}
use Rattle.rg_revised.specs.State.{IsTableauOf}
use Rattle.rg_revised.specs.Ending.{IsPointAt}
use Rattle.rg_revised.specs.Reaching.{HasCome}
use Rattle.rg_revised.specs.View.{RevisedState}
use Rattle.rg_revised.specs.declared.descent.Descent.{Descent}
use Rattle.rg_revised.specs.declared.descent.Descent.TheVariants.{Point, Refuted, Large}

-- the relations are those of the system's columns over the set
abbrev pub IsHeldOf : LinearSystem → List ℕ → RevisedState → Type 0
IsHeldOf system members r = IsTableauOf system members r.tableau

-- the descent of the system ended with a point, and whatever rows follow, it goes on from there with the relations
abbrev pub IsAtPoint : LinearSystem → RevisedState → Type 0
IsAtPoint system r = HasCome system (length system.rows) r.tableau

-- the greatest number that divides d and all numbers
pub record IsCommonFactor (d : ℤ) (numbers : List ℤ) (factor : ℤ) : Type 0 where
  pub positive : pos 0 <ℤ factor
  pub greatest : IsRowGcd (d ∷ numbers) (unsigned_abs factor)

-- it is refuted at row i, whose relation over the set has the numbers
pub record IsRefutedAt (system : LinearSystem) (members : List ℕ) (i : ℕ) (r : RevisedState) : Type 0 where
  pub held : IsHeldOf system members r
  pub outcome : (fixed : List ℕ) × DescentFromStart system (refuted members i fixed)
  pub relation : IsRelationOf system members (row_variable system i) (relation_of r.tableau.basis.slots r.tableau.over r.tableau.numbers)
  pub failing : r.failing ≡ Some i
  pub common : IsCommonFactor r.tableau.over r.tableau.numbers r.factor

-- what a descent comes to; nothing is said where a number is too large
abbrev pub IsDescent : LinearSystem → RevisedState → Descent → Type 0
IsDescent system r Point = (members : List ℕ) × IsPointAt system members r.tableau
IsDescent system r (Refuted i) = (members : List ℕ) × IsRefutedAt system members i r
IsDescent system r Large = Unit {0}
