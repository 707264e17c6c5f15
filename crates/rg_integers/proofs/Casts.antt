-- What is left of numbers that were cast to their bits and back.
use Rattle.std.proofs.Common.{◌≡◌, ℕ, ◌<◌, ◌^◌, sym, ap, ◌∙◌}
use Rattle.std.specs.Prelude.{ℤ, pos, FitsSigned}
use Rattle.std.specs.Int.{w128, cast_signed, cast_unsigned}
use Rattle.std.proofs.lemmas.Int.{to_z-of_z, to_z_pos, fits_signed_from_abs}
use Rattle.rg_integers.specs.Range.{InRange}

pub fits : (z : ℤ) → InRange z → FitsSigned w128 z
fits z h = fits_signed_from_abs w128 z h

-- a number in range comes back from its bits
pub back : (z : ℤ) → InRange z → cast_signed w128 (cast_unsigned w128 z) ≡ z
back z h = to_z-of_z w128 z (fits z h)

-- a size in range is the number that is cast from it
pub cast_size : (n : ℕ) → n < 2 ^ 127 → cast_signed w128 n ≡ pos n
cast_size n h = to_z_pos w128 n h

-- for `using` on a function of signed numbers
pub ruleset casts = (to_z-of_z)

-- a number whose bits are 0
pub zero_of_bits : (z : ℤ) → InRange z → cast_unsigned w128 z ≡ 0 → z ≡ pos 0
zero_of_bits z h e = sym (back z h) ∙ ap (cast_signed w128) e
