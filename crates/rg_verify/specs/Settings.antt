-- The rows in one case of a problem, below the sides above a leaf.
use Rattle.std.specs.Prelude.{List}
use Rattle.rg_theory.specs.System.{System}
use Rattle.rg_cert_meaning.specs.Expression.{Expression}
use Rattle.rg_cert_meaning.specs.Row.{RowStands, row_expression, Side}
use Rattle.rg_cert_meaning.specs.declared.RowName.{RowName}
use Rattle.rg_cert_data.specs.declared.problem_case.ProblemCase.{ProblemCase}

-- the place of a row in a certificate
abbrev pub StandsIn : System → ProblemCase → List Side → RowName → Type 0
StandsIn lts case above = RowStands lts case.class case.problem case.number above

-- what a row says
abbrev pub expression_in : System → ProblemCase → List Side → RowName → Expression
expression_in lts case above = row_expression lts case.class case.problem case.number above
