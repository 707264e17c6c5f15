-- Numbers over a scale, and their whole parts.
use Rattle.std.specs.Prelude.{◌≡◌, ℕ, ◌<◌, ◌≤◌, true, false, ℤ, pos, ◌+ℤ◌, ◌*ℤ◌, ◌<ℤ◌, ◌≤ℤ◌}
use Rattle.rg_theory.specs.System.{System, states}
use Rattle.rg_cert_meaning.specs.declared.Variable.{Variable}
use Rattle.rg_theory.specs.declared.Class.{Class}
use Rattle.rg_theory.specs.declared.Problem.{Problem}
use Rattle.rg_cert_meaning.specs.Row.{cases_of}
use Rattle.rg_linear.specs.System.{IsPoint, MeetsRows}
use Rattle.rg_linear.specs.Branching.{FormsWhole}
use Rattle.rg_case_folds.specs.Rewriting.{has_label, CaseSystem, rows_of}
use Rattle.rg_cert_meaning.specs.declared.Variable.TheVariants.{Tokens, Effect}

-- y are the whole numbers of x over the scale: all tokens of states have the same rest
pub record AreWholeParts (lts : System) (scale : ℤ) (x y : Variable → ℤ) : Type 0 where
  pub positive : pos 0 <ℤ scale
  pub rest : ℤ
  pub not_negative : pos 0 ≤ℤ rest
  pub below : rest <ℤ scale
  pub tokens : (q : ℕ) → q < states lts → x (Tokens q) ≡ (scale *ℤ y (Tokens q)) +ℤ rest
  pub others : (q : ℕ) → states lts ≤ q → pos 0 ≤ℤ y (Tokens q)
  pub effects : (t : ℕ) → has_label t lts.arcs ≡ true → x (Effect t) ≡ scale *ℤ y (Effect t)
  pub unused : (t : ℕ) → has_label t lts.arcs ≡ false → y (Effect t) ≡ pos 0

-- some point over the columns meets every row of the case's system, and its forms are whole
abbrev pub HasWholePoint : CaseSystem → Type 0
HasWholePoint case = (scale : ℤ) × (v : ℕ → ℤ) × IsPoint (rows_of case) scale v × MeetsRows (rows_of case) v × FormsWhole (rows_of case) case.forms scale v

-- so does the system of some case of the problem
abbrev pub SomeCaseHasWholePoint : System → Class → Problem → (ℕ → CaseSystem) → Type 0
SomeCaseHasWholePoint lts class problem case = (number : ℕ) × (number < cases_of lts class problem) × HasWholePoint (case number)
