-- Counts of labels, with one term more.
use Rattle.std.specs.Prelude.{◌≡◌, ℕ, ◌<◌, ◌^◌, List, length, ℤ, ◌+ℤ◌, ◌*ℤ◌, unsigned_abs}
use Rattle.rg_theory.specs.declared.Arc.{Arc}
use Rattle.rg_integers.specs.Sum.{number_at}
use Rattle.rg_cert_meaning.specs.Expression.{Term}
use Rattle.rg_case_folds.specs.Rewriting.{variable_count}

-- each number grows by what its label counts in the term, which is less than 2 ^ 32
pub record CountsTerm (tree : List Arc) (term : Term) (old new : List ℤ) : Type 0 where
  pub same_length : length new ≡ length old
  pub sums : (t : ℕ) → t < length old → number_at new t ≡ number_at old t +ℤ (term.coefficient *ℤ variable_count tree term.variable t)
  pub small : (t : ℕ) → t < length old → unsigned_abs (term.coefficient *ℤ variable_count tree term.variable t) < 2 ^ 32
