-- The terms and sums of the code in the words of the definitions.
use Rattle.std.specs.Prelude.{List, [], ◌∷◌, Option, Some, None}
use Rattle.rg_cert_meaning.specs.Expression as linear
use Rattle.rg_cert_meaning.specs.Expression.{plus, minus}
use Rattle.rg_cert_data.specs.declared.term.Term.{Term}
use Rattle.rg_cert_data.specs.declared.term.Term.TheVariants.{Plus, Minus}
use Rattle.rg_cert_data.specs.declared.sum.Expression.{Expression}

-- a variable that is added or taken away
abbrev pub term_of : Term → linear.Term
term_of (Plus v) = plus v
term_of (Minus v) = minus v

-- the terms that are there
abbrev pub terms_in : List (Option Term) → List linear.Term
terms_in [] = []
terms_in (None ∷ more) = terms_in more
terms_in (Some t ∷ more) = term_of t ∷ terms_in more

-- a sum of terms and a constant
abbrev pub expression_of : Expression → linear.Expression
expression_of e = record { terms = terms_in e.terms; constant = e.constant }
