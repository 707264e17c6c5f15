-- What look-ups find, and numbers that are out of range.
use Rattle.std.proofs.Common.{ℕ, ◌≤◌, ◌^◌, List, ℤ, nat_abs, ap, arith}
use Rattle.rg_cert.specs.Numerals.{IsNumeral}
use Rattle.rg_cert.specs.Lines.{Range, Range.multiplier, Range.split_value, Range.depth, Field.number, IsFieldInRange}

-- a number past 127 bits is in no range
pub wide_is_out : (range : Range) (text : List ℕ) → ((z : ℤ) → IsNumeral text z → 2 ^ 127 ≤ nat_abs z) → IsFieldInRange (number range) text → ⊥
wide_is_out multiplier text wide (z, is, within) = let over = wide z is in omega arith
wide_is_out split_value text wide (z, is, within) = let over = wide z is in omega arith
wide_is_out depth text wide (z, is, (d, same, within)) = let over = wide z is in let size = ap nat_abs same in omega arith
