-- The term a*b - c*d.
use Rattle.std.specs.Prelude.{ℤ, ◌*ℤ◌, ◌-ℤ◌}
use Rattle.rg_integers.specs.Range.{Fits}
use Rattle.rg_integers.specs.declared.term.Wide.{Wide}

-- the term a*b - c*d
abbrev pub term_value : Wide → ℤ
term_value t = (t.a *ℤ t.b) -ℤ (t.c *ℤ t.d)

-- both products and the difference are in range
abbrev pub FitsTerm : Wide → Type 0
FitsTerm t = Fits t.a t.b t.c t.d
