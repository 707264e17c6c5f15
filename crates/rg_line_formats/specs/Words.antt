-- The words of a line.
use Rattle.std.specs.Prelude.{ℕ, ◌==◌, not, List, length, filter}
use Rattle.std.specs.List.{slice_split}
use Rattle.rg_text.specs.Byte.{is_blank_byte}

-- the parts of a line between its blank bytes, without the empty ones
abbrev pub words : List ℕ → List (List ℕ)
words line = filter (λ word. not (length word == 0)) (slice_split is_blank_byte line)
