-- Grids: two counters that count up, each to n.
use Rattle.std.specs.Prelude.{ℕ, ◌+◌, List, [], ◌∷◌, ◌++◌, codes, decimal}
use Rattle.rg_families.specs.declared.grid.Direction.{Direction}
use Rattle.rg_families.specs.declared.grid.Direction.TheVariants.{Right, Up}
use Rattle.rg_families.specs.Named.{Triple, triple, Drawing, each_below, row}

-- the greatest number of a grid
abbrev pub most_grid : ℕ
most_grid = 63

-- the state in which the first counter has counted to i, the second to j
abbrev pub point : ℕ → ℕ → List ℕ
point i j = codes "g" ++ (decimal i ++ (codes "_" ++ decimal j))

abbrev pub points : ℕ → List (List ℕ)
points n = each_below (n + 1) (λ i. row (n + 1) (point i))

-- the first counter counts by `right`, the second by `up`
abbrev pub move : Direction → ℕ → ℕ → Triple
move Right i j = triple (point i j) (codes "right") (point (i + 1) j)
move Up i j = triple (point i j) (codes "up") (point i (j + 1))

-- the moves from the points of these rows and columns
abbrev pub moves : Direction → ℕ → ℕ → List Triple
moves direction rows columns = each_below rows (λ i. row columns (move direction i))

abbrev pub grid : ℕ → Drawing
grid n = record {
  states = points n;
  labels = codes "right" ∷ codes "up" ∷ [];
  arcs = moves Right n (n + 1) ++ moves Up (n + 1) n;
  initial = point 0 0;
}
