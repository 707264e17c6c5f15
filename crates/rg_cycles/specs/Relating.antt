-- What the relations with which a walk ends say of its system.
use Rattle.std.specs.Prelude.{ℕ, List, ℤ}
use Rattle.rg_linear.specs.System.{LinearSystem}
use Rattle.rg_linear.specs.Cycle.{CycleOutcome.free_set, CycleWalk, KeepsVectors, vector_system}
use Rattle.rg_feasible.specs.Contents.{IsDictionary}
use Rattle.rg_revised.specs.Walk.{IsWalkOf}
use Rattle.rg_cycles.specs.declared.relations.Relations.{Relations}
use Rattle.rg_cycles.specs.declared.relations.Relations.TheVariants.{OfColumns, OfAll}

-- the number of labels
abbrev pub columns_of : Relations → ℕ
columns_of (OfColumns walk) = walk.now.columns
columns_of (OfAll dictionary) = dictionary.now.columns

-- the set
abbrev pub members_of : Relations → List ℕ
members_of (OfColumns walk) = walk.now.members
members_of (OfAll dictionary) = dictionary.now.members

-- they are those of the system
abbrev pub AreRelationsOf : LinearSystem → Relations → Type 0
AreRelationsOf system (OfColumns walk) = IsWalkOf system walk.now
AreRelationsOf system (OfAll dictionary) = IsDictionary system dictionary.now

-- they are those with which the walk over these vectors ends
pub record IsSolved (vectors : List (List ℤ)) (kept : List ℕ) (r : Relations) : Type 0 where
  pub keeps : KeepsVectors vectors kept
  pub are : AreRelationsOf (vector_system (columns_of r) vectors kept) r
  pub walk : CycleWalk (vector_system (columns_of r) vectors kept) (free_set (members_of r))
