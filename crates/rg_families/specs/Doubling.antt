-- Doubling: each label has twice the effect of the one before it.
use Rattle.std.specs.Prelude.{ℕ, ◌+◌, List, [], ◌∷◌, ◌++◌, codes, decimal}
use Rattle.rg_families.specs.Named.{Triple, triple, Drawing, each_below, row}

-- the greatest number of doublings
abbrev pub most_doubling : ℕ
most_doubling = 255

-- the states at which a doubling begins and ends, the state in its middle, and the labels
abbrev pub corner : ℕ → List ℕ
corner i = codes "q" ++ decimal i

abbrev pub middle : ℕ → List ℕ
middle i = codes "m" ++ decimal i

abbrev pub step : ℕ → List ℕ
step i = codes "a" ++ decimal i

-- twice the one label leads where the next label leads
abbrev pub doubled : ℕ → List Triple
doubled i =
    triple (corner i) (step i) (middle (i + 1))
    ∷ triple (middle (i + 1)) (step i) (corner (i + 1))
    ∷ triple (corner i) (step (i + 1)) (corner (i + 1))
    ∷ []

abbrev pub doubling : ℕ → Drawing
doubling n = record {
  states = corner 0 ∷ each_below n (λ i. middle (i + 1) ∷ corner (i + 1) ∷ []);
  labels = row (n + 1) step;
  arcs = each_below n doubled;
  initial = corner 0;
}
