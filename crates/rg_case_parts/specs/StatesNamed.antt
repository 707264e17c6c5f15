-- Which states terms may name.
use Rattle.std.specs.Prelude.{ℕ, ◌<◌}
use Rattle.rg_cert_meaning.specs.Expression.{Term}
use Rattle.rg_cert_meaning.specs.declared.Variable.{Variable}
use Rattle.rg_cert_meaning.specs.declared.Variable.TheVariants.{Tokens, Effect}

-- a state that the variable names is one of so many
abbrev pub NamesStateBelow : ℕ → Variable → Type 0
NamesStateBelow states (Tokens q) = q < states
NamesStateBelow states (Effect t) = Unit {0}

-- a state that the term names is one of so many
abbrev pub TermNamesStateBelow : ℕ → Term → Type 0
TermNamesStateBelow states t = NamesStateBelow states t.variable
