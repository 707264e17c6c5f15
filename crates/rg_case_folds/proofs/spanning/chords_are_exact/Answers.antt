use Rattle.rg_case_folds.proofs.Potentials.{chord_equations, own_potential}
use Rattle.rg_case_folds.proofs.spanning.chords_are_exact.Goals as goal

pub returns-clause-exact : goal.returns-clause-exact
returns-clause-exact c = chord_equations

pub returns-clause-own : goal.returns-clause-own
returns-clause-own c = own_potential
