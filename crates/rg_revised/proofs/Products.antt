-- Products of numbers below 2^31, and their differences.
use Rattle.std.proofs.Common.{◌^◌, ◌<◌, arith}
use Rattle.std.specs.Prelude.{ℤ, ◌-ℤ◌, ◌*ℤ◌, unsigned_abs, FitsSigned}
use Rattle.std.specs.Int.{w64}
use Rattle.std.proofs.lemmas.Int.{ints, fits_signed_from_abs}
use Rattle.rg_integers.proofs.Signs.{abs-times}

pub short_product : (a b : ℤ) → unsigned_abs a < 2 ^ 31 → unsigned_abs b < 2 ^ 31 → unsigned_abs (a *ℤ b) < 2 ^ 62
short_product a b h k =
    let m = abs-times a b 2147483647 2147483647 (omega arith) (omega arith) in
    omega arith

pub short_difference : (x y : ℤ) → unsigned_abs x < 2 ^ 62 → unsigned_abs y < 2 ^ 62 → unsigned_abs (x -ℤ y) < 2 ^ 63
short_difference x y h k = omega (arith, ints)

pub fits_short : (z : ℤ) → unsigned_abs z < 2 ^ 63 → FitsSigned w64 z
fits_short z h = fits_signed_from_abs w64 z h
