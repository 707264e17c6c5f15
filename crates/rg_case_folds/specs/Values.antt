-- What the variables are worth where Start and the effects of the labels are given.
use Rattle.std.specs.Prelude.{◌≡◌, ℕ, ◌<◌, Bool, false, if◌then◌else◌, List, [], ◌∷◌, ◌++◌, ℤ, pos, ◌+ℤ◌, ◌*ℤ◌, ◌≤ℤ◌}
use Rattle.rg_theory.specs.declared.Arc.{Arc}
use Rattle.rg_theory.specs.System.{System, labels}
use Rattle.rg_cert_meaning.specs.Expression.{Term, Expression, value_in}
use Rattle.rg_cert_meaning.specs.declared.Variable.{Variable}
use Rattle.rg_theory.specs.declared.Class.{Class}
use Rattle.rg_integers.specs.Sum.{dot}
use Rattle.rg_case_folds.specs.Potentials.{potential}
use Rattle.rg_linear.specs.Cycle.{CycleBasis}
use Rattle.rg_folds.specs.Substitution.{free_labels}
use Rattle.rg_case_folds.specs.Rewriting.{has_label, has_start, KeptRow}
use Rattle.rg_cert_meaning.specs.declared.Variable.TheVariants.{Tokens, Effect}

-- each state has the number that Start and the effects give along the tree
abbrev pub numbers_along : System → List Arc → ℤ → (ℕ → ℤ) → Variable → ℤ
numbers_along lts tree start effect (Tokens q) = potential lts tree start effect q
numbers_along lts tree start effect (Effect t) = effect t

-- the effects in the terms are those of labels below n
abbrev pub NamesVariable : ℕ → Variable → Type 0 → Type 0
NamesVariable n (Tokens q) Rest = Rest
NamesVariable n (Effect u) Rest = (u < n) × Rest

abbrev pub NamesLabels : ℕ → List Term → Type 0
NamesLabels n [] = Unit {0}
NamesLabels n (t ∷ terms) = NamesVariable n t.variable (NamesLabels n terms)

-- the values of the items that pass the test
abbrev pub picked : (ℕ → Bool) → List ℕ → (ℕ → ℤ) → List ℤ
picked test [] x = []
picked test (f ∷ fs) x = if test f then (x f ∷ picked test fs x) else picked test fs x

-- the values of the columns: Start where it is one, and the effects of the free labels with an arc
abbrev pub column_values : System → CycleBasis → Class → ℤ → (ℕ → ℤ) → List ℤ
column_values lts basis class start effect = (if has_start class then (start ∷ []) else []) ++ picked (λ t. has_label t lts.arcs) (free_labels (labels lts) basis) effect

-- labels without an arc have the effect 0
abbrev pub UnusedAreZero : System → (ℕ → ℤ) → Type 0
UnusedAreZero lts effect = (t : ℕ) → has_label t lts.arcs ≡ false → effect t ≡ pos 0

-- a row of a system is at least 0 where the columns have these values over the scale
abbrev pub RowIsMet : List ℤ → ℤ → KeptRow → Type 0
RowIsMet values scale kept = pos 0 ≤ℤ (dot kept.row.coeffs values +ℤ (kept.row.constant *ℤ scale))

-- a named row is at least 0 at Start and the effects over the scale
abbrev pub NameIsMet : System → List Arc → ℤ → (ℕ → ℤ) → ℤ → Expression → Type 0
NameIsMet lts tree start effect scale e = pos 0 ≤ℤ (value_in (numbers_along lts tree start effect) e.terms +ℤ (e.constant *ℤ scale))
