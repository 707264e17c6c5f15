-- What the relations that a descent leaves say of its system.
use Rattle.std.specs.Prelude.{◌≡◌, ℕ, List}
use Rattle.rg_linear.specs.System.{LinearSystem, row_variable}
use Rattle.rg_linear.specs.Dictionary.{Relation, DictionaryRow}
use Rattle.rg_linear.specs.Descent.{Outcome.point, DescentFromStart, multiplier_of}
use Rattle.rg_feasible.specs.Settling.{IsDictionaryOf, IsRefutation, multiplier_with}
use Rattle.rg_revised.specs.Settling.{IsHeldOf, IsRefutedAt}
use Rattle.rg_branch.specs.declared.relations.Relations.{Relations}
use Rattle.rg_branch.specs.declared.relations.Relations.TheVariants.{OfColumns, OfAll}

-- they are those of the system over the set
abbrev pub AreRelationsOf : LinearSystem → List ℕ → Relations → Type 0
AreRelationsOf system members (OfColumns revised) = IsHeldOf system members revised.now
AreRelationsOf system members (OfAll dictionary) = IsDictionaryOf system dictionary.now × (dictionary.now.table.members ≡ members)

-- the descent of the system ended with the point at which every member is 0
pub record IsPointOf (system : LinearSystem) (members : List ℕ) (relations : Relations) : Type 0 where
  pub are : AreRelationsOf system members relations
  pub outcome : DescentFromStart system (point members)

-- it was refuted at row i, whose relation is k
abbrev pub IsRefutedBy : LinearSystem → ℕ → Relation → Relations → Type 0
IsRefutedBy system i k (OfColumns revised) = (members : List ℕ) × IsRefutedAt system members i revised.now × DictionaryRow system members (row_variable system i) k
IsRefutedBy system i k (OfAll dictionary) = IsDictionaryOf system dictionary.now × IsRefutation dictionary.now i × (multiplier_with dictionary.now.table i ≡ multiplier_of system k i)
