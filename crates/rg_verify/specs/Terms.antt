-- Expressions of at most three terms.
use Rattle.std.specs.Prelude.{◌≡◌, ℕ, List, Option, Some, None, All, nat_abs, sum_by, if◌then◌else◌}
use Rattle.rg_theory.specs.System.{System}
use Rattle.rg_cert_meaning.specs.Expression as linear
use Rattle.rg_cert_meaning.specs.Expression.{same_variable, coefficient_in}
use Rattle.rg_cert_data.specs.Certificates.{IsVariableOf, IsTermWithin}
use Rattle.rg_cert_data.specs.declared.term.Term.{Term}
use Rattle.rg_cert_data.specs.declared.term.Term.TheVariants.{Plus, Minus}
use Rattle.rg_cert_data.specs.declared.sum.Expression.{Expression}
use Rattle.rg_cert_data.specs.Sums.{terms_in}
use Rattle.rg_cert_meaning.specs.declared.Variable.{Variable}

-- what the absolute values of a variable's coefficients add up to
abbrev pub size_in : List linear.Term → Variable → ℕ
size_in ts v = sum_by (λ t. if same_variable t.variable v then nat_abs t.coefficient else 0) ts

-- the terms and the constant are those of a row, whose coefficients of one variable were added first
pub record IsExpressionOf (lts : System) (e : Expression) (row : linear.Expression) : Type 0 where
  pub in_range : All (λ t. IsVariableOf lts t.variable) (terms_in e.terms)
  pub coefficients : (v : Variable) → coefficient_in (terms_in e.terms) v ≡ coefficient_in row.terms v
  pub sizes : (v : Variable) → size_in (terms_in e.terms) v ≡ nat_abs (coefficient_in row.terms v)
  pub constant : e.constant ≡ row.constant

-- ---- opposite terms

-- the same variable, taken away in place of added
abbrev pub opposite : Term → Term
opposite (Plus v) = Minus v
opposite (Minus v) = Plus v

-- both places have a term, and the terms are opposite
abbrev pub AreOpposite : Option Term → Option Term → Type 0
AreOpposite None other = ⊥
AreOpposite (Some t) other = other ≡ Some (opposite t)

-- some of the terms, with the same coefficients, and no two of them are opposite: their absolute values add up to the
-- coefficient's
pub record IsReducedSum (old new : List linear.Term) : Type 0 where
  pub within : (states labels : ℕ) → All (IsTermWithin states labels) old → All (IsTermWithin states labels) new
  pub coefficients : (v : Variable) → coefficient_in new v ≡ coefficient_in old v
  pub sizes : (v : Variable) → size_in new v ≡ nat_abs (coefficient_in old v)
