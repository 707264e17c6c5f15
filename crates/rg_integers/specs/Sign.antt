-- The sign and the size of a whole number.
use Rattle.std.specs.Prelude.{ℤ, pos, negsuc, unsigned_abs}

-- 1, or -1 for a negative number
abbrev pub sign : ℤ → ℤ
sign (pos n) = pos 1
sign (negsuc n) = negsuc 0

-- the absolute value, as a whole number
abbrev pub size : ℤ → ℤ
size z = pos (unsigned_abs z)
