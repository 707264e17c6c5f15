-- Sums of effects over the columns.
use Rattle.std.specs.Prelude.{ℕ, ℤ, Result}
use Rattle.rg_theory.specs.System.{labels}
use Rattle.rg_integers.specs.declared.term.Wide.{Wide}
use Rattle.rg_case_folds.specs.Setting.{Setting}
use Rattle.rg_folds.specs.Fold.{and_then}
use Rattle.rg_folds.specs.Substitution.{substitute_fold}
use Rattle.rg_case_folds.specs.Rewriting.{Scaled, scaled_fold, columns_of}

-- so often Start, and each label so often as it counts, over the columns, without denominators
abbrev pub columns_fold : Setting → ℤ → (ℕ → ℤ) → Result Scaled Wide → Type 0
columns_fold s start counts = and_then (substitute_fold (labels s.lts) s.basis counts) (λ free. scaled_fold (columns_of s.lts s.basis s.class start free))
