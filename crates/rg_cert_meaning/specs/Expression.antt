-- Linear expressions over the tokens of states and the effects of labels.
use Rattle.std.specs.Prelude.{ℕ, Bool, false, ◌==◌, if◌then◌else◌, List, ℤ, pos, negsuc, ◌+ℤ◌, ◌*ℤ◌}
use Rattle.rg_integers.specs.Sum.{sum_over}
-- M(q), the tokens at a state, and E(t), the effect of a label
pub use Rattle.rg_cert_meaning.specs.declared.Variable.{Variable}
use Rattle.rg_cert_meaning.specs.declared.Variable.TheVariants.{Tokens, Effect}

-- a variable times a number
pub record Term : Type 0 where
  pub coefficient : ℤ
  pub variable : Variable

-- a sum of terms and a constant
pub record Expression : Type 0 where
  pub terms : List Term
  pub constant : ℤ

abbrev pub same_variable : Variable → Variable → Bool
same_variable (Tokens q) (Tokens r) = q == r
same_variable (Effect t) (Effect u) = t == u
same_variable (Tokens q) (Effect t) = false
same_variable (Effect t) (Tokens q) = false

-- what the terms add up to as the coefficient of one variable
abbrev pub coefficient_in : List Term → Variable → ℤ
coefficient_in ts v = sum_over (λ t. if same_variable t.variable v then t.coefficient else pos 0) ts

abbrev pub plus : Variable → Term
plus v = record { coefficient = pos 1; variable = v }

abbrev pub minus : Variable → Term
minus v = record { coefficient = negsuc 0; variable = v }

abbrev pub sum_of : List Term → ℤ → Expression
sum_of terms constant = record { terms = terms; constant = constant }

-- the value of terms, where each variable has its number
abbrev pub value_in : (Variable → ℤ) → List Term → ℤ
value_in x ts = sum_over (λ t. t.coefficient *ℤ x t.variable) ts

-- the value of an expression
abbrev pub value_of : (Variable → ℤ) → Expression → ℤ
value_of x e = value_in x e.terms +ℤ e.constant

-- tokens of states and effects of labels as numbers of the variables
abbrev pub numbers_by : (ℕ → ℕ) → (ℕ → ℤ) → Variable → ℤ
numbers_by tokens effect (Tokens q) = pos (tokens q)
numbers_by tokens effect (Effect t) = effect t
