-- The sides of splits as triples name them.
use Rattle.std.specs.Prelude.{Bool, ℤ}
use Rattle.rg_cert_meaning.specs.Row.{Form, Side}

-- the side that a triple names: its form, its number, and true in the high side
abbrev pub side_of : (Form × ℤ × Bool) → Side
side_of s = record { form = s.0; at = s.1; high = s.2 }
