-- The limits of the text formats.
use Rattle.std.specs.Prelude.{ℕ}

-- the most bytes of a file
abbrev pub most_bytes : ℕ
most_bytes = 16777216

-- the most bytes of a name
abbrev pub most_name_bytes : ℕ
most_name_bytes = 255
