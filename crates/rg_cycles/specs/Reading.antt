-- What is read off the relations with which a walk ends.
use Rattle.std.specs.Prelude.{◌≡◌, ℕ, ◌<◌, nat_lt, List, length, map, filter, ℤ, Contains, Option, None, MatchOption, slice_index_or}
use Rattle.rg_integers.specs.Range.{InRange}
use Rattle.rg_integers.specs.Sum.{number_at}
use Rattle.rg_linear.specs.Dictionary.{Relation as LinearRelation}
use Rattle.rg_linear.specs.System.{LinearSystem}
use Rattle.rg_linear.specs.Table.{numbers_of, ShowsRow}
use Rattle.rg_cycles.specs.declared.relation.Relation.{Relation}
use Rattle.rg_cycles.specs.Basis.{vector_numbers}
use Rattle.rg_cycles.specs.declared.relations.Relations.{Relations}
use Rattle.rg_cycles.specs.Relating.{AreRelationsOf, columns_of, members_of}

-- r has the numbers of the relation k
pub record HasNumbers (labels : ℕ) (kept members : List ℕ) (k : LinearRelation) (r : Relation) : Type 0 where
  pub d : r.d ≡ k.d
  pub free : r.free.items ≡ map k.coefficient (filter (λ m. nat_lt m labels) members)
  pub chords : r.chords.items ≡ vector_numbers labels kept members k

-- r has the numbers of label t's relation
pub record IsReadAt (d : Relations) (kept : List ℕ) (t : ℕ) (r : Relation) : Type 0 where
  pub lacks : ¬ Contains (members_of d) t
  pub numbers : List ℤ
  pub in_range : (n : ℕ) → InRange (number_at numbers n)
  pub shows : (system : LinearSystem) → AreRelationsOf system d → ShowsRow system (members_of d) t numbers
  pub has : (k : LinearRelation) → numbers ≡ numbers_of (members_of d) k → HasNumbers (columns_of d) kept (members_of d) k r

-- what is read for label t
abbrev pub IsRead : Relations → List ℕ → ℕ → Option Relation → Type 0
IsRead d kept t o = MatchOption o (Contains (members_of d) t) (IsReadAt d kept t)

-- what is read for all labels
pub record AreRead (d : Relations) (kept : List ℕ) (relations : List (Option Relation)) : Type 0 where
  pub one_each : length relations ≡ columns_of d
  pub each : (t : ℕ) → t < columns_of d → IsRead d kept t (slice_index_or relations t None)
