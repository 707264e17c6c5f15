-- The norms of rows: the sizes of their numbers, added up.
use Rattle.std.specs.Prelude.{ℕ, zero, suc, ◌+◌, ◌-◌, ◌^◌, min, max, List, [], length, slice_index_or, ℤ, pos, unsigned_abs}
use Rattle.rg_integers.specs.Sum.{number_at}
use Rattle.rg_linear.specs.System.{LinearRow}
use Rattle.rg_linear.specs.Room.{total}

abbrev pub row_norm : List ℤ → ℤ → ℕ
row_norm coeffs constant = total (length coeffs) (λ t. unsigned_abs (number_at coeffs t)) + unsigned_abs constant

-- the greatest of f 0, .., f (n - 1), 0 where there is none
abbrev pub greatest : ℕ → (ℕ → ℕ) → ℕ
greatest zero f = 0
greatest (suc n) f = max (greatest n f) (f n)

abbrev pub norm_at : List LinearRow → ℕ → ℕ
norm_at rows i = row_norm (slice_index_or rows i (record { coeffs = []; constant = pos 0 })).coeffs (slice_index_or rows i (record { coeffs = []; constant = pos 0 })).constant

-- the greatest norm of a row
abbrev pub greatest_norm : List LinearRow → ℕ
greatest_norm rows = greatest (length rows) (norm_at rows)

-- the greatest number of 64 bits in the place of one that passes
abbrev pub kept_norm : ℕ → ℕ
kept_norm n = min n (2 ^ 64 - 1)
