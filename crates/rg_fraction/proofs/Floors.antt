-- The quotient that is rounded toward zero, lowered by 1 where the remainder is negative, is the whole part.
use Rattle.std.proofs.Common.{◌≡◌, true, false, arith}
use Rattle.std.specs.Prelude.{ℤ, pos, ◌+ℤ◌, ◌-ℤ◌, ◌*ℤ◌, ◌≤ℤ◌, ◌<ℤ◌, int_lt, int_div, int_rem}
use Rattle.std.proofs.lemmas.Int.{ints, quot-rem, rem_below}
use Rattle.rg_integers.proofs.Ring.{neg-mul, add-mul}
use Rattle.rg_integers.proofs.Order.{positive_differs}
use Rattle.rg_integers.proofs.Signs.{abs_positive}

pub floor-down-low : (n d : ℤ) → pos 0 <ℤ d → int_lt (int_rem n d) (pos 0) ≡ true → ((int_div n d -ℤ pos 1) *ℤ d) ≤ℤ n
floor-down-low n d h t =
    let e = quot-rem n d in
    let b = rem_below n d (abs_positive d (positive_differs d h)) in
    let x : (int_div n d -ℤ pos 1) *ℤ d ≡ (int_div n d *ℤ d) -ℤ d = simp (add-mul, neg-mul) (omega (arith, ints)) in
    rw x (omega (arith, ints))

pub floor-down-high : (n d : ℤ) → pos 0 <ℤ d → int_lt (int_rem n d) (pos 0) ≡ true → n <ℤ (((int_div n d -ℤ pos 1) +ℤ pos 1) *ℤ d)
floor-down-high n d h t =
    let e = quot-rem n d in
    let x : (int_div n d -ℤ pos 1) +ℤ pos 1 ≡ int_div n d = omega (arith, ints) in
    rw x (omega (arith, ints))

pub floor-up-low : (n d : ℤ) → pos 0 <ℤ d → int_lt (int_rem n d) (pos 0) ≡ false → (int_div n d *ℤ d) ≤ℤ n
floor-up-low n d h t = let e = quot-rem n d in omega (arith, ints)

pub floor-up-high : (n d : ℤ) → pos 0 <ℤ d → int_lt (int_rem n d) (pos 0) ≡ false → n <ℤ ((int_div n d +ℤ pos 1) *ℤ d)
floor-up-high n d h t =
    let e = quot-rem n d in
    let b = rem_below n d (abs_positive d (positive_differs d h)) in
    let x : (int_div n d +ℤ pos 1) *ℤ d ≡ (int_div n d *ℤ d) +ℤ d = simp add-mul (omega (arith, ints)) in
    rw x (omega (arith, ints))
