-- The chords of a system as vectors: one number for each label.
use Rattle.std.specs.Prelude.{◌≡◌, ℕ, ◌<◌, ℤ, pos, ◌*ℤ◌, List, map, length, Vec}
use Rattle.std.specs.declared.alloc.Global.{Global}
use Rattle.rg_integers.specs.Range.{InRange}
use Rattle.rg_integers.specs.Sum.{sum_below, number_at}
use Rattle.rg_linear.specs.Cycle.{vector_at}

-- the numbers of each vector, where its entries are these numbers
abbrev pub vectors_by : {N : Type 0} → (List N → List ℤ) → List (Vec N Global) → List (List ℤ)
vectors_by numbers vectors = map (λ v. numbers v.items) vectors

-- each vector has one number for each label, in range
pub record AreVectors (labels : ℕ) (vectors : List (List ℤ)) : Type 0 where
  pub one_each : (c : ℕ) → c < length vectors → length (vector_at vectors c) ≡ labels
  pub in_range : (c j : ℕ) → c < length vectors → j < labels → InRange (number_at (vector_at vectors c) j)

-- the value of a vector where label j has the effect v j
abbrev pub vector_sum : ℕ → (ℕ → ℤ) → List ℤ → ℤ
vector_sum labels v vector = sum_below labels (λ j. number_at vector j *ℤ v j)

-- the effects keep every cycle: each vector has the value 0
abbrev pub AllSumsAreZero : ℕ → List (List ℤ) → (ℕ → ℤ) → Type 0
AllSumsAreZero labels vectors v = (c : ℕ) → c < length vectors → vector_sum labels v (vector_at vectors c) ≡ pos 0
