-- The first items of a list, by a key.
use Rattle.std.specs.Prelude.{◌≡◌, ◌⊎◌, List, [], ◌∷◌, Contains}

-- of the items, in order, those that are not dropped and whose key no item before them has; `seen` has the keys so far
abbrev pub KeepsEqualRows : {X K : Type 0} → (X → K) → (X → Type 0) → List K → List X → List X → Type 0
KeepsEqualRows {X} key Drops seen [] kept = kept ≡ []
KeepsEqualRows {X} key Drops seen (x ∷ xs) kept =
    ((Drops x ⊎ Contains seen (key x)) × KeepsEqualRows key Drops seen xs kept)
    ⊎ ((¬ Drops x) × (¬ Contains seen (key x)) × ((rest : List X) × (kept ≡ x ∷ rest) × KeepsEqualRows key Drops (key x ∷ seen) xs rest))
