-- Terms of numbers of 64 bits.
use Rattle.std.proofs.Common.{suc, ◌*◌, ◌≤◌, arith}
use Rattle.std.specs.Prelude.{ℤ, pos, negsuc, neg_ℤ, ◌*ℤ◌, ◌-ℤ◌, ◌≤ℤ◌, ◌<ℤ◌, FitsSigned}
use Rattle.std.specs.Int.{w64}
use Rattle.std.proofs.lemmas.Int.{ints}
use Rattle.std.proofs.Math.Nat.{mul-le-mul}
use Rattle.rg_integers.specs.Range.{InRange, Fits}

bounds : (z : ℤ) → FitsSigned w64 z → (neg_ℤ (pos 9223372036854775808) ≤ℤ z) × (z ≤ℤ pos 9223372036854775807)
bounds z f = (omega (arith, ints), omega (arith, ints))

pub short_in_range : (z : ℤ) → FitsSigned w64 z → InRange z
short_in_range z f = omega (arith, ints)

-- a product of two such numbers is above -(2^126) and at most 2^126
product_bounds : (a b : ℤ) → FitsSigned w64 a → FitsSigned w64 b → (neg_ℤ (pos 85070591730234615865843651857942052864) <ℤ (a *ℤ b)) × ((a *ℤ b) ≤ℤ pos 85070591730234615865843651857942052864)
product_bounds (pos m) (pos n) f g =
    let x : m ≤ 9223372036854775807 = omega (arith, ints, bounds (pos m) f) in
    let y : n ≤ 9223372036854775807 = omega (arith, ints, bounds (pos n) g) in
    let p : m * n ≤ 9223372036854775807 * 9223372036854775807 = mul-le-mul x y in
    (omega (arith, ints), omega (arith, ints))
product_bounds (pos m) (negsuc n) f g =
    let x : m ≤ 9223372036854775807 = omega (arith, ints, bounds (pos m) f) in
    let y : suc n ≤ 9223372036854775808 = omega (arith, ints, bounds (negsuc n) g) in
    let p : m * suc n ≤ 9223372036854775807 * 9223372036854775808 = mul-le-mul x y in
    (omega (arith, ints), omega (arith, ints))
product_bounds (negsuc m) (pos n) f g =
    let x : suc m ≤ 9223372036854775808 = omega (arith, ints, bounds (negsuc m) f) in
    let y : n ≤ 9223372036854775807 = omega (arith, ints, bounds (pos n) g) in
    let p : suc m * n ≤ 9223372036854775808 * 9223372036854775807 = mul-le-mul x y in
    (omega (arith, ints), omega (arith, ints))
product_bounds (negsuc m) (negsuc n) f g =
    let x : suc m ≤ 9223372036854775808 = omega (arith, ints, bounds (negsuc m) f) in
    let y : suc n ≤ 9223372036854775808 = omega (arith, ints, bounds (negsuc n) g) in
    let p : suc m * suc n ≤ 9223372036854775808 * 9223372036854775808 = mul-le-mul x y in
    (omega (arith, ints), omega (arith, ints))

pub short_fits : (a b c d : ℤ) → FitsSigned w64 a → FitsSigned w64 b → FitsSigned w64 c → FitsSigned w64 d → Fits a b c d
short_fits a b c d fa fb fc fd = go (a *ℤ b) (c *ℤ d) (product_bounds a b fa fb) (product_bounds c d fc fd)
  where
    within : (x y : ℤ) → (neg_ℤ (pos 85070591730234615865843651857942052864) <ℤ x) × (x ≤ℤ pos 85070591730234615865843651857942052864)
        → (neg_ℤ (pos 85070591730234615865843651857942052864) <ℤ y) × (y ≤ℤ pos 85070591730234615865843651857942052864)
        → InRange x × InRange y × InRange (x -ℤ y)
    within x y (xl, xh) (yl, yh) = (omega (arith, ints), omega (arith, ints), omega (arith, ints))

    go : (x y : ℤ) → (neg_ℤ (pos 85070591730234615865843651857942052864) <ℤ (a *ℤ b)) × ((a *ℤ b) ≤ℤ pos 85070591730234615865843651857942052864)
        → (neg_ℤ (pos 85070591730234615865843651857942052864) <ℤ (c *ℤ d)) × ((c *ℤ d) ≤ℤ pos 85070591730234615865843651857942052864) → Fits a b c d
    go x y p q = let w = within (a *ℤ b) (c *ℤ d) p q in record { left = w.0; right = w.1; difference = w.2 }
