-- What a basis says of the effects of labels.
use Rattle.std.specs.Prelude.{◌≡◌, ℕ, ◌<◌, List, Contains, ℤ, pos, ◌+ℤ◌, ◌*ℤ◌, ◌<ℤ◌}
use Rattle.rg_integers.specs.Sum.{sum_over}
use Rattle.rg_linear.specs.Dictionary.{Relation, IsPrimitive}
use Rattle.rg_linear.specs.Cycle.{vector_at, CycleBasis}
use Rattle.rg_cycles.specs.Vectors.{vector_sum}
use Rattle.rg_folds.specs.Substitution.{free_labels}
use Rattle.rg_cycles.specs.Basis.{vector_numbers}

-- label t is not free
abbrev pub IsDependent : ℕ → CycleBasis → ℕ → Type 0
IsDependent labels cycle t = (t < labels) × ¬ Contains cycle.members t

-- what the free labels give in the relation k
abbrev pub free_part : ℕ → CycleBasis → Relation → (ℕ → ℤ) → ℤ
free_part labels cycle k v = sum_over (λ f. k.coefficient f *ℤ v f) (free_labels labels cycle)

-- what the vectors give in the relation k, each by its value
abbrev pub vector_part : ℕ → CycleBasis → List (List ℤ) → Relation → (ℕ → ℤ) → ℤ
vector_part labels cycle vectors k v = sum_over (λ p. p.1 *ℤ vector_sum labels v (vector_at vectors p.0)) (vector_numbers labels cycle.kept cycle.members k)

-- each label that is not free has the effect that its relation gives from those of the free labels
abbrev pub FollowsFree : ℕ → CycleBasis → (ℕ → ℤ) → Type 0
FollowsFree labels cycle v = (t : ℕ) → IsDependent labels cycle t → (cycle.relation t).d *ℤ v t ≡ free_part labels cycle (cycle.relation t) v

-- whatever the effects are, each relation holds with the values of the vectors
abbrev pub RelationsHold : ℕ → CycleBasis → List (List ℤ) → Type 0
RelationsHold labels cycle vectors = (v : ℕ → ℤ) (t : ℕ) → IsDependent labels cycle t
    → (cycle.relation t).d *ℤ v t ≡ free_part labels cycle (cycle.relation t) v +ℤ vector_part labels cycle vectors (cycle.relation t) v

-- in each relation d is positive, and no number above 1 divides all numbers
abbrev pub AreReduced : ℕ → CycleBasis → Type 0
AreReduced labels cycle = (t : ℕ) → IsDependent labels cycle t → (pos 0 <ℤ (cycle.relation t).d) × IsPrimitive (cycle.relation t)
