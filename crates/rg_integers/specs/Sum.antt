-- Sums of whole numbers: below a number, over a list, and of products.
use Rattle.std.specs.Prelude.{ℕ, zero, suc, ◌==◌, if◌then◌else◌, List, [], ◌∷◌, slice_index_or, ℤ, pos, ◌+ℤ◌, ◌*ℤ◌}

-- f 0 + f 1 + .. + f (n - 1)
abbrev pub sum_below : ℕ → (ℕ → ℤ) → ℤ
sum_below zero f = pos 0
sum_below (suc n) f = sum_below n f +ℤ f n

-- z at index i, and 0 elsewhere
abbrev pub only : ℕ → ℤ → ℕ → ℤ
only i z m = if m == i then z else pos 0

-- the sum of the values that f gives to the items
abbrev pub sum_over : {X : Type 0} → (X → ℤ) → List X → ℤ
sum_over f [] = pos 0
sum_over f (x ∷ xs) = f x +ℤ sum_over f xs

-- the number at an index, 0 past the end
abbrev pub number_at : List ℤ → ℕ → ℤ
number_at xs k = slice_index_or xs k (pos 0)

-- the sum of the products, index by index; it ends with the shorter list
abbrev pub dot : List ℤ → List ℤ → ℤ
dot [] ys = pos 0
dot (x ∷ xs) [] = pos 0
dot (x ∷ xs) (y ∷ ys) = (x *ℤ y) +ℤ dot xs ys
