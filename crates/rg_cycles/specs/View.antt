-- What a basis shows.
use Rattle.std.specs.Prelude.{ℕ, not, ◌&&◌, List, ℤ, pos, length}
use Rattle.std.specs.Ordering.{int_eq}
use Rattle.rg_linear.specs.Cycle.{CycleBasis}
use Rattle.rg_folds.specs.Substitution.{is_in, numbers_where}
use Rattle.rg_cycles.specs.declared.basis.Basis.{Basis}
use Rattle.rg_cycles.specs.Basis.{cycle_basis}

-- the number of labels
abbrev pub labels_of : Basis → ℕ
labels_of b = length b.relations.items

-- the kept vectors, the set with which the walk ends, and the relations
abbrev pub cycle_of : Basis → CycleBasis
cycle_of b = cycle_basis b.kept.items b.members.items b.free.items b.relations.items

-- the labels that aren't free and whose count isn't 0, in order
abbrev pub counted_labels : Basis → (ℕ → ℤ) → List ℕ
counted_labels b counts = numbers_where (λ t. not (int_eq (counts t) (pos 0)) && not (is_in (cycle_of b).members t)) 0 (labels_of b)
