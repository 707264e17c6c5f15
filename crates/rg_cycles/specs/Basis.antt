-- What a basis of cycle equations shows, and how the numbers that code keeps show it.
use Rattle.std.specs.Prelude.{◌≡◌, ℕ, ◌-◌, ◌<◌, nat_lt, not, ◌&&◌, ◌==◌, if◌then◌else◌, List, [], ◌∷◌, map, filter, length, Option, None, Some, is_some, slice_get, slice_index, slice_index_or, ℤ, pos, ◌<ℤ◌}
use Rattle.std.specs.Ordering.{int_eq}
use Rattle.rg_integers.specs.Range.{InRange}
use Rattle.rg_integers.specs.Sum.{number_at}
use Rattle.rg_linear.specs.Dictionary.{Relation as LinearRelation}
use Rattle.rg_linear.specs.Cycle.{CycleBasis, no_relation}
use Rattle.rg_linear.specs.Table.{number_beside}
use Rattle.rg_cycles.specs.declared.relation.Relation.{Relation}
use Rattle.rg_folds.specs.Substitution.{is_in, free_labels}

-- the vectors with a number other than 0 in the relation, in order, each by its index and with that number
abbrev pub vector_numbers : ℕ → List ℕ → List ℕ → LinearRelation → List (ℕ × ℤ)
vector_numbers labels kept members k = map (λ m. (slice_index kept (m - labels), k.coefficient m)) (filter (λ m. not (nat_lt m labels) && not (int_eq (k.coefficient m) (pos 0))) members)

-- r has the numbers of label t's relation
pub record ShowsRelation (labels : ℕ) (cycle : CycleBasis) (t : ℕ) (r : Relation) : Type 0 where
  pub d : r.d ≡ (cycle.relation t).d
  pub free : r.free.items ≡ map (cycle.relation t).coefficient (free_labels labels cycle)
  pub chords : r.chords.items ≡ vector_numbers labels cycle.kept cycle.members (cycle.relation t)

-- its numbers are in range, and d is positive
pub record IsRelationInRange (r : Relation) : Type 0 where
  pub positive : pos 0 <ℤ r.d
  pub d : InRange r.d
  pub free : (n : ℕ) → InRange (number_at r.free.items n)
  pub chords : (n : ℕ) → InRange (slice_index_or r.chords.items n (0, pos 0)).1

-- ---- from the numbers that code keeps

-- the number of the vector at this index, 0 where it is not listed
abbrev pub number_with : List (ℕ × ℤ) → ℕ → ℤ
number_with [] c = pos 0
number_with (p ∷ pairs) c = if p.0 == c then p.1 else number_with pairs c

-- the number of row i: that of the vector which it is
abbrev pub row_number : List (ℕ × ℤ) → Option ℕ → ℤ
row_number pairs None = pos 0
row_number pairs (Some c) = number_with pairs c

-- the relation that r has the numbers of; None is the relation of a free label
abbrev pub relation_of : ℕ → List ℕ → List ℕ → Option Relation → LinearRelation
relation_of labels kept free None = no_relation
relation_of labels kept free (Some r) = record {
  d = r.d;
  constant = pos 0;
  coefficient = λ m. if nat_lt m labels then number_beside free r.free.items m else row_number r.chords.items (slice_get kept (m - labels));
}

-- the basis with these kept vectors, members, free labels, and relations of all labels
abbrev pub cycle_basis : List ℕ → List ℕ → List ℕ → List (Option Relation) → CycleBasis
cycle_basis kept members free relations = record {
  kept = kept;
  members = members;
  relation = λ t. relation_of (length relations) kept free (slice_index_or relations t None);
}

-- there is a relation of each label that is not a member, and it has the numbers of the basis
pub record AreRelations (labels : ℕ) (cycle : CycleBasis) (relations : List (Option Relation)) : Type 0 where
  pub dependent : (t : ℕ) → t < labels → is_some (slice_index_or relations t None) ≡ not (is_in cycle.members t)
  pub shown : (t : ℕ) (r : Relation) → slice_index_or relations t None ≡ Some r → ShowsRelation labels cycle t r
  pub in_range : (t : ℕ) (r : Relation) → slice_index_or relations t None ≡ Some r → IsRelationInRange r
