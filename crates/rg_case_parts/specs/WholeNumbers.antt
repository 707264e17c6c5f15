-- How numbers without denominators are seen.
use Rattle.rg_case_folds.specs.Rewriting.{Scaled as ScaledNumbers}
use Rattle.rg_case_parts.specs.declared.scaled.Scaled.{Scaled}

-- the multiple and the numbers
abbrev pub scaled_of : Scaled → ScaledNumbers
scaled_of s = record { multiple = s.multiple; numbers = s.numbers.items }
