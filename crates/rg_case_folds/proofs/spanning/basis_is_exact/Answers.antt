use Rattle.rg_theory.specs.System.{labels}
use Rattle.rg_linear.proofs.Bases.{kept_is_one, cycle_basis_is_one}
use Rattle.rg_case_folds.specs.Chords.{chord_vectors}
use Rattle.rg_case_folds.proofs.ChordRows.{effects_exact}
use Rattle.rg_case_folds.proofs.spanning.basis_is_exact.Goals as goal

pub returns-clause-kept : goal.returns-clause-kept
returns-clause-kept c = λ lts tree kept kept' k k'. kept_is_one (chord_vectors lts tree) kept kept' k k'

pub returns-clause-one : goal.returns-clause-one
returns-clause-one c = λ lts tree basis basis' b b'. cycle_basis_is_one (labels lts) (chord_vectors lts tree) basis basis' b b'

pub returns-clause-exact : goal.returns-clause-exact
returns-clause-exact c = effects_exact
