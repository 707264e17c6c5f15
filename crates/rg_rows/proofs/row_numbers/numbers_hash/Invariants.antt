use Rattle.std.proofs.Common.{◌≡◌, take}
use Rattle.rg_rows.specs.Hashing.{numbers_hash}
use Rattle.rg_rows.proofs.row_numbers.numbers_hash.Given as goal

abbrev pub invariant-loop-number : goal.invariant-loop-number
invariant-loop-number l = l.hash ≡ numbers_hash (take l.number-index l.numbers)
