-- Free and dependent labels, and the coefficients of the free ones.
use Rattle.std.specs.Prelude.{ℕ, zero, suc, ◌==◌, not, Bool, true, false, if◌then◌else◌, List, [], ◌∷◌, ℤ, Result}
use Rattle.rg_integers.specs.declared.term.Wide.{Wide}
use Rattle.rg_folds.specs.Fold.{◌>>=◌, each, further, Ratio, whole, quotient, add, mul}
use Rattle.rg_linear.specs.Cycle.{CycleBasis}

-- ---- lists of labels

abbrev pub is_in : List ℕ → ℕ → Bool
is_in [] m = false
is_in (x ∷ xs) m = if x == m then true else is_in xs m

-- the n numbers from the first on that pass the test
abbrev pub numbers_where : (ℕ → Bool) → ℕ → ℕ → List ℕ
numbers_where test first zero = []
numbers_where test first (suc n) = if test first then (first ∷ numbers_where test (suc first) n) else numbers_where test (suc first) n

-- of so many labels, those whose effects are free, and those that have a relation
abbrev pub free_labels : ℕ → CycleBasis → List ℕ
free_labels labels basis = numbers_where (λ t. is_in basis.members t) 0 labels

abbrev pub dependent_labels : ℕ → CycleBasis → List ℕ
dependent_labels labels basis = numbers_where (λ t. not (is_in basis.members t)) 0 labels

-- ---- the folds

-- what the dependent label t adds to the coefficient of the free label f: its count, times the number of f in its relation
abbrev pub dependent_term : CycleBasis → (ℕ → ℤ) → ℕ → ℕ → Result Ratio Wide → Type 0
dependent_term basis counts f t = do
  k ← quotient ((basis.relation t).coefficient f) (basis.relation t).d
  mul (whole (counts t)) k

-- the coefficient of the free label f: its own count, and those of the dependent labels
abbrev pub coefficient_fold : ℕ → CycleBasis → (ℕ → ℤ) → ℕ → Result Ratio Wide → Type 0
coefficient_fold labels basis counts f = further add (dependent_term basis counts f) (whole (counts f)) (dependent_labels labels basis)

-- the coefficients of all free labels
abbrev pub substitute_fold : ℕ → CycleBasis → (ℕ → ℤ) → Result (List Ratio) Wide → Type 0
substitute_fold labels basis counts = each (coefficient_fold labels basis counts) (free_labels labels basis)
