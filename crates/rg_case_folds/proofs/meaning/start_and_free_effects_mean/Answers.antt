use Rattle.rg_case_folds.proofs.Shifts.{some_shift}
use Rattle.rg_case_folds.proofs.CaseRows.{arcs_hold}
use Rattle.rg_case_folds.proofs.CaseMeaning.{start_means, no_start_means, shift_means, whole_means}
use Rattle.rg_case_folds.proofs.meaning.start_and_free_effects_mean.Goals as goal

pub returns-clause-arcs : goal.returns-clause-arcs
returns-clause-arcs c = arcs_hold

pub returns-clause-start : goal.returns-clause-start
returns-clause-start c = start_means

pub returns-clause-no_start : goal.returns-clause-no_start
returns-clause-no_start c = no_start_means

pub returns-clause-shift : goal.returns-clause-shift
returns-clause-shift c = shift_means

pub returns-clause-some_shift : goal.returns-clause-some_shift
returns-clause-some_shift c = some_shift

pub returns-clause-whole : goal.returns-clause-whole
returns-clause-whole c = whole_means
