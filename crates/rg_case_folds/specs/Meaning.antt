-- What the named rows of a case say of numbers of states and effects of labels.
use Rattle.std.specs.Prelude.{◌≡◌, ◌⊎◌, ℕ, ◌<◌, ◌≤◌, ◌<ℤ◌, Contains, IsTrue, IsFalse, if◌then◌else◌, pos, List, [], Ok, ℤ, ◌+ℤ◌, ◌*ℤ◌}
use Rattle.rg_theory.specs.declared.Arc.{Arc}
use Rattle.rg_theory.specs.System.{System, IsInRange, IsAllReachable, states}
use Rattle.rg_theory.specs.Tree.{IsTree}
use Rattle.rg_theory.specs.declared.Class.{Class}
use Rattle.rg_theory.specs.Class.{AllowsStart}
use Rattle.rg_theory.specs.ClassWords.{HasNumbersInRange}
use Rattle.rg_theory.specs.declared.Problem.{Problem}
use Rattle.rg_cert_meaning.specs.Expression.{Expression, value_in, numbers_by}
use Rattle.rg_cert_meaning.specs.declared.Variable.{Variable}
use Rattle.rg_cert_meaning.specs.Row.{RowStands, row_expression, Says, KeepsRows}
use Rattle.rg_cert_meaning.specs.declared.RowName.{RowName}
use Rattle.rg_cert_meaning.specs.Refutes.{IsSeparationProblem}
use Rattle.rg_integers.specs.Sum.{number_at}
use Rattle.rg_linear.specs.System.{IsPoint, MeetsRows}
use Rattle.rg_linear.specs.Cycle.{FollowsRelations, CycleBasis}
use Rattle.rg_case_folds.specs.Chords.{chord_system, IsBasis}
use Rattle.rg_case_folds.specs.Setting.{Setting, CaseSetting}
use Rattle.rg_case_folds.specs.Rewriting.{has_label, has_start, KeptRow, CaseSystem, rows_of, system_fold}
use Rattle.rg_case_folds.specs.Values.{column_values, UnusedAreZero, RowIsMet}
use Rattle.rg_cert_meaning.specs.declared.RowName.TheVariants as row_name
use Rattle.rg_cert_meaning.specs.declared.Variable.TheVariants.{Tokens, Effect}

-- a row that is allowed in a case and is not among the names of its system: an arc's; the tokens of a state where Start is
-- no column, or of a number that is no state; and rows of the effect of a label without an arc, which is 0
abbrev pub IsLeftOut : System → Class → RowName → Type 0
IsLeftOut lts class (row_name.Arc a) = Unit {0}
IsLeftOut lts class (row_name.Tokens q) = IsFalse (has_start class) ⊎ (states lts ≤ q)
IsLeftOut lts class (row_name.Up t) = IsFalse (has_label t lts.arcs)
IsLeftOut lts class (row_name.Down t) = IsFalse (has_label t lts.arcs)
IsLeftOut lts class (row_name.Makes t) = IsFalse (has_label t lts.arcs)
IsLeftOut lts class name = ⊥

-- ---- rows that hold

-- the value of an expression at numbers over the scale
abbrev pub value_over : ℤ → (Variable → ℤ) → Expression → ℤ
value_over scale x e = value_in x e.terms +ℤ (e.constant *ℤ scale)

-- the row of the case holds of the numbers over the scale
abbrev pub RowHolds : System → Class → Problem → ℕ → ℤ → (Variable → ℤ) → RowName → Type 0
RowHolds lts class problem number scale x name = Says name (value_over scale x (row_expression lts class problem number [] name))

-- every row that is allowed in the case holds of the numbers over the scale
abbrev pub KeepsRowsOver : System → Class → Problem → ℕ → ℤ → (Variable → ℤ) → Type 0
KeepsRowsOver lts class problem number scale x = (name : RowName) → RowStands lts class problem number [] name → RowHolds lts class problem number scale x name

abbrev pub IsTokensRow : RowName → Type 0
IsTokensRow (row_name.Tokens q) = Unit {0}
IsTokensRow name = ⊥

-- every row that is allowed in the case does, but those of tokens
abbrev pub KeepsAllButTokens : System → Class → Problem → ℕ → ℤ → (Variable → ℤ) → Type 0
KeepsAllButTokens lts class problem number scale x = (name : RowName) → RowStands lts class problem number [] name → ¬ IsTokensRow name → RowHolds lts class problem number scale x name

-- one number more at every state
abbrev pub shifted : ℤ → (Variable → ℤ) → Variable → ℤ
shifted by x (Tokens q) = x (Tokens q) +ℤ by
shifted by x (Effect t) = x (Effect t)

-- ---- the system of a case

-- the system of a case of an asked problem, over the tree of the system and its basis; all states can be reached
pub record IsCaseOver (s : CaseSetting) (case : CaseSystem) : Type 0 where
  pub in_range : IsInRange s.lts
  pub reachable : IsAllReachable s.lts
  pub is_tree : IsTree s.lts s.tree
  pub is_basis : IsBasis s.lts s.tree s.basis
  pub asked : IsSeparationProblem s.lts s.problem
  pub numbers : HasNumbersInRange s.class
  pub is_case : system_fold s (Ok case)

-- the effects follow the relations of the basis, and those of labels without an arc are 0
pub record AreEffects (lts : System) (tree : List Arc) (basis : CycleBasis) (effect : ℕ → ℤ) : Type 0 where
  pub follows : FollowsRelations (chord_system lts tree basis.kept) basis.members effect
  pub unused : UnusedAreZero lts effect

-- Start and the effects over the scale meet every row of the case's system
abbrev pub MeetsCase : Setting → CaseSystem → ℤ → (ℕ → ℤ) → ℤ → Type 0
MeetsCase s case start effect scale = (k : KeptRow) → Contains case.kept k → RowIsMet (column_values s.lts s.basis s.class start effect) scale k

-- ---- all solutions

-- the effects are those of the numbers, at labels with an arc
abbrev pub AgreeOnUsed : System → (Variable → ℤ) → (ℕ → ℤ) → Type 0
AgreeOnUsed lts x effect = (t : ℕ) → IsTrue (has_label t lts.arcs) → effect t ≡ x (Effect t)

-- the effects of the numbers, but 0 for labels without an arc
abbrev pub used_effect : System → (Variable → ℤ) → ℕ → ℤ
used_effect lts x t = if has_label t lts.arcs then x (Effect t) else pos 0

-- ---- points

-- which column has the effect of the first free label with an arc
abbrev pub first_column : Class → ℕ
first_column class = if has_start class then 1 else 0

-- the columns of the point have these values of Start and effects, over so many times the scale of the point
pub record AreGivenBy (s : Setting) (case : CaseSystem) (v : ℕ → ℤ) (times start : ℤ) (effect : ℕ → ℤ) : Type 0 where
  pub positive : pos 0 <ℤ times
  pub effects : AreEffects s.lts s.tree s.basis effect
  pub columns : (j : ℕ) → j < case.columns → times *ℤ v j ≡ number_at (column_values s.lts s.basis s.class start effect) j

-- some point over the columns meets every row of the case's system
abbrev pub HasPoint : CaseSystem → Type 0
HasPoint case = (scale : ℤ) × (v : ℕ → ℤ) × IsPoint (rows_of case) scale v × MeetsRows (rows_of case) v

-- some numbers over a scale keep all rows of the case
abbrev pub HasSolution : System → Class → Problem → ℕ → Type 0
HasSolution lts class problem number = (scale : ℤ) × (x : Variable → ℤ) × (pos 0 <ℤ scale) × KeepsRowsOver lts class problem number scale x

-- some whole numbers, the tokens at least 0 and at the start such as the class allows, keep all rows of the case
abbrev pub HasWholeSolutionIn : System → Class → Problem → ℕ → Type 0
HasWholeSolutionIn lts class problem number = (tokens : ℕ → ℕ) × (effect : ℕ → ℤ) × AllowsStart class (tokens lts.initial) × KeepsRows lts class problem number (numbers_by tokens effect)
