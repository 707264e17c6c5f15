-- What addends add up to.
use Rattle.std.specs.Prelude.{List, ℤ, ◌*ℤ◌}
use Rattle.rg_integers.specs.Sum.{sum_over}
use Rattle.rg_case_folds.specs.Spreading.{Addend, Addend.number, Addend.product}

-- the number, or the product
abbrev pub addend_value : Addend → ℤ
addend_value (number z) = z
addend_value (product x y) = x *ℤ y

abbrev pub total : List Addend → ℤ
total addends = sum_over addend_value addends
