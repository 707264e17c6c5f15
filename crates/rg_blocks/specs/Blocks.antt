-- How large a block of problems is.
use Rattle.std.specs.Prelude.{ℕ}

-- how many problems a block has at most
abbrev pub most_in_block : ℕ
most_in_block = 128
