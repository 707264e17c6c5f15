-- When a certificate is accepted.
use Rattle.std.specs.Prelude.{◌≡◌, ◌≢◌, ℕ, ◌<◌, ◌≤◌, Bool, true, false, List, [], ◌∷◌, ◌++◌, length, All, ℤ, pos, ◌*ℤ◌, ◌≤ℤ◌, ◌<ℤ◌, nat_abs, slice_get, Some, sum_by}
use Rattle.rg_integers.specs.Range.{greatest}
use Rattle.rg_integers.specs.Sum.{sum_over}
use Rattle.rg_theory.specs.System.{System, states, labels, HasArc, IsFork, IsClosedWithout}
use Rattle.rg_theory.specs.declared.Class.{Class}
use Rattle.rg_theory.specs.Class.{AllowsStart}
use Rattle.rg_theory.specs.Net.{Place}
use Rattle.rg_theory.specs.Region.{RegionIn}
use Rattle.rg_theory.specs.declared.Problem.{Problem}
use Rattle.rg_theory.specs.declared.Problem.TheVariants.{Event, States}
use Rattle.rg_theory.specs.Problem.{Separates}
use Rattle.rg_branch_trees.specs.Trees as splits
use Rattle.rg_branch_trees.specs.Trees.{Tree.leaf, Tree.split, low_side, high_side}
use Rattle.rg_cert_meaning.specs.declared.RowName.TheVariants.{Arc}
use Rattle.rg_cert_meaning.specs.Expression.{Variable, Expression, coefficient_in, numbers_by}
use Rattle.rg_cert_meaning.specs.Row.{Form, FormStands, Side, RowName, RowStands, row_expression, KeepsRows, cases_of}

-- a row of a leaf, times a number
pub record NamedRow : Type 0 where
  pub multiplier : ℤ
  pub name : RowName

-- a row that says "at least 0" has a positive multiplier
abbrev pub IsMultiplier : ℤ → RowName → Type 0
IsMultiplier k (Arc a) = Unit {0}
IsMultiplier k name = pos 1 ≤ℤ k

-- the sum of the multiplied coefficients of a variable
abbrev pub coefficient_sum : (RowName → Expression) → List NamedRow → Variable → ℤ
coefficient_sum expression rows v = sum_over (λ r. r.multiplier *ℤ coefficient_in (expression r.name).terms v) rows

-- the sum of the multiplied constants
abbrev pub constant_sum : (RowName → Expression) → List NamedRow → ℤ
constant_sum expression rows = sum_over (λ r. r.multiplier *ℤ (expression r.name).constant) rows

-- no sum of absolute values passes the greatest number, for any variable nor for the constants
pub record IsSmall (expression : RowName → Expression) (rows : List NamedRow) : Type 0 where
  pub multipliers : All (λ r. nat_abs r.multiplier ≤ greatest) rows
  pub coefficients : (v : Variable) → sum_by (λ r. nat_abs (r.multiplier *ℤ coefficient_in (expression r.name).terms v)) rows ≤ greatest
  pub constants : sum_by (λ r. nat_abs (r.multiplier *ℤ (expression r.name).constant)) rows ≤ greatest

-- the rows are allowed there, and their sum says that a negative number is at least 0
pub record LeafRefutes (stands : RowName → Type 0) (expression : RowName → Expression) (rows : List NamedRow) : Type 0 where
  pub stand : All (λ r. stands r.name) rows
  pub positive : All (λ r. IsMultiplier r.multiplier r.name) rows
  pub small : IsSmall expression rows
  pub cancels : (v : Variable) → coefficient_sum expression rows v ≡ pos 0
  pub contradicts : constant_sum expression rows <ℤ pos 0

-- a tree of splits, with rows at its leaves
abbrev pub Tree : Type 0
Tree = splits.Tree (List NamedRow) Form

-- each split may be on its form, and every leaf refutes, below the sides that lead to it, outermost first
abbrev pub TreeRefutes : System → Class → Problem → ℕ → List Side → Tree → Type 0
TreeRefutes lts class problem number above (leaf rows) = LeafRefutes (RowStands lts class problem number above) (row_expression lts class problem number above) rows
TreeRefutes lts class problem number above (split form at low high) =
    FormStands class form
    × TreeRefutes lts class problem number (above ++ low_side form at ∷ []) low
    × TreeRefutes lts class problem number (above ++ high_side form at ∷ []) high

-- the reason that a certificate gives
pub data Reason : Type 0 where
  unreachable : ℕ → Reason
  fork : ℕ → ℕ → ℕ → ℕ → Reason
  refuted : Problem → List Tree → Reason

-- the label has no arc at the state; the two states differ
abbrev pub IsSeparationProblem : System → Problem → Type 0
IsSeparationProblem lts (Event s t) = (s < states lts) × (t < labels lts) × ((s' : ℕ) → ¬ HasArc lts s t s')
IsSeparationProblem lts (States s s') = (s < states lts) × (s' < states lts) × (s ≢ s')

-- some region of the class separates
abbrev pub IsSeparable : System → Class → Problem → Type 0
IsSeparable lts class problem = (p : Place) × (m : ℕ → ℕ) × RegionIn lts class p m × Separates p m problem

-- whole numbers, the tokens at least 0 and at the start such as the class allows, keep all rows of some case
abbrev pub HasWholeSolution : System → Class → Problem → Type 0
HasWholeSolution lts class problem = (number : ℕ) × (number < cases_of lts class problem) × (tokens : ℕ → ℕ) × (effect : ℕ → ℤ)
    × AllowsStart class (tokens lts.initial) × KeepsRows lts class problem number (numbers_by tokens effect)

-- one tree for each case of the problem, and each of them refutes
pub record IsRefuted (lts : System) (class : Class) (problem : Problem) (trees : List Tree) : Type 0 where
  pub asked : IsSeparationProblem lts problem
  pub cases : length trees ≡ cases_of lts class problem
  pub some : 0 < length trees
  pub each : (number : ℕ) (tree : Tree) → slice_get trees number ≡ Some tree → TreeRefutes lts class problem number [] tree

-- the reason holds
abbrev pub Accepts : System → Class → Reason → Type 0
Accepts lts class (unreachable s) = (s < states lts) × ((inside : ℕ → Bool) × IsClosedWithout lts s inside)
Accepts lts class (fork s t s₁ s₂) = IsFork lts s t s₁ s₂
Accepts lts class (refuted problem trees) = IsRefuted lts class problem trees
