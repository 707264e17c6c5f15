-- The relations with which a walk ends.
use Rattle.std.proofs.Common.{◌≡◌, ℕ, ◌+◌, ◌<◌, List, length, Contains, subst, sym, arith}
use Rattle.std.specs.Prelude.{ℤ}
use Rattle.rg_linear.specs.System.{LinearSystem}
use Rattle.rg_linear.specs.Dictionary.{IsFree}
use Rattle.rg_linear.specs.Cycle.{CycleOutcome.free_set, CycleWalk, KeepsVectors, vector_system}
use Rattle.rg_cycles.specs.declared.relations.Relations.{Relations}
use Rattle.rg_cycles.specs.declared.relations.Relations.TheVariants.{OfColumns, OfAll}
use Rattle.rg_cycles.specs.Relating.{AreRelationsOf, IsSolved, columns_of, members_of}

pub relations_free : (system : LinearSystem) (r : Relations) → AreRelationsOf system r → IsFree system (members_of r)
relations_free system (OfColumns walk) are = are.held.held.basis.free
relations_free system (OfAll dictionary) are = are.free

-- the members are labels and rows
pub member_within : (system : LinearSystem) (r : Relations) → AreRelationsOf system r → system.columns ≡ columns_of r → (n : ℕ) → length system.rows ≡ n
    → (m : ℕ) → Contains (members_of r) m → m < columns_of r + n
member_within system r are columns n rows m has = let h = (relations_free system r are).within m has in omega arith

-- the walk has ended with relations of these vectors
pub solved_by : (labels : ℕ) (vectors : List (List ℤ)) (kept : List ℕ) (r : Relations) → KeepsVectors vectors kept → columns_of r ≡ labels → AreRelationsOf (vector_system labels vectors kept) r
    → CycleWalk (vector_system labels vectors kept) (free_set (members_of r)) → IsSolved vectors kept r
solved_by labels vectors kept r keeps columns are walk = record {
  keeps = keeps;
  are = subst (λ n. AreRelationsOf (vector_system n vectors kept) r) (sym columns) are;
  walk = subst (λ n. CycleWalk (vector_system n vectors kept) (free_set (members_of r))) (sym columns) walk;
}
