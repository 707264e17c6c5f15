-- Places of a system as places of the system with one of its labels split.
use Rattle.std.specs.Prelude.{◌≡◌, ℕ, [], ◌∷◌, ◌++◌, length}
use Rattle.rg_theory.specs.Net.{Place, pre_weight, post_weight}

-- the place has two weights for each of so many labels
pub record HasWeights (labels : ℕ) (p : Place) : Type 0 where
  pub pre : length p.pre ≡ labels
  pub post : length p.post ≡ labels

-- the place with one label more, which has the weights of label t
abbrev pub with_copy : ℕ → Place → Place
with_copy t p = record { start = p.start; pre = p.pre ++ pre_weight p t ∷ []; post = p.post ++ post_weight p t ∷ [] }
