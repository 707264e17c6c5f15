-- The dictionary of the kept vectors, filled row by row.
use Rattle.std.proofs.Common.{◌≡◌, ℕ, ◌+◌, ◌<◌, List, [], ◌∷◌, ◌++◌, length, map, take, ap, subst, sym, ◌∙◌, arith}
use Rattle.std.specs.Prelude.{ℤ, pos, slice_index}
use Rattle.std.proofs.lemmas.List.{take_more, map-append}
use Rattle.rg_integers.specs.Range.{InRange}
use Rattle.rg_integers.specs.Sum.{number_at}
use Rattle.rg_linear.specs.System.{LinearRow}
use Rattle.rg_linear.specs.Cycle.{vector_at, vector_system}
use Rattle.rg_feasible.specs.Contents.{with_row}
use Rattle.rg_cycles.specs.Vectors.{AreVectors}

abbrev pub row : List ℤ → LinearRow
row xs = record { coeffs = xs; constant = pos 0 }

-- the next row
pub row_added : (labels : ℕ) (vectors : List (List ℤ)) (kept : List ℕ) (i : ℕ) → i < length kept → (coeffs : List ℤ) → vector_at vectors (slice_index kept i) ≡ coeffs
    → with_row (vector_system labels vectors (take i kept)) coeffs (pos 0) ≡ vector_system labels vectors (take (i + 1) kept)
row_added labels vectors kept i lt coeffs is = λ j. record { columns = labels; rows = rows j }
  where
    rows : map {B = LinearRow} (λ c. record { coeffs = vector_at vectors c; constant = pos 0 }) (take i kept) ++ row coeffs ∷ []
        ≡ map {B = LinearRow} (λ c. record { coeffs = vector_at vectors c; constant = pos 0 }) (take (i + 1) kept)
    rows = ap (λ (xs : List ℤ). map {B = LinearRow} (λ c. record { coeffs = vector_at vectors c; constant = pos 0 }) (take i kept) ++ row xs ∷ []) (sym is)
        ∙ sym (ap (map {B = LinearRow} (λ c. record { coeffs = vector_at vectors c; constant = pos 0 })) (take_more kept i 0 lt)
        ∙ map-append {B = LinearRow} (λ c. record { coeffs = vector_at vectors c; constant = pos 0 }) (take i kept) (slice_index kept i ∷ []))

-- a row that is read has a number for each label, in range
module _ (labels : ℕ) (rows : List (List ℤ)) (are : AreVectors labels rows) (c : ℕ) (lt : c < length rows) (numbers : List ℤ) (is : numbers ≡ vector_at rows c) where
  pub row_length : length numbers ≡ labels
  row_length = ap length is ∙ are.one_each c lt

  pub row_in_range : (j : ℕ) → j < length numbers → InRange (number_at numbers j)
  row_in_range j below = subst (λ xs. InRange (number_at xs j)) (sym is) (are.in_range c j lt (let e = row_length in omega arith))
