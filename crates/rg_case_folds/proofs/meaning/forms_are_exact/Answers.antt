use Rattle.rg_case_folds.proofs.Forms.{form_value}
use Rattle.rg_case_folds.proofs.FormBounds.{forms_bounded}
use Rattle.rg_case_folds.proofs.FormRows.{form_multiple, start_scale, form_fits}
use Rattle.rg_case_folds.proofs.meaning.forms_are_exact.Goals as goal

pub returns-clause-value : goal.returns-clause-value
returns-clause-value c = form_value

pub returns-clause-start : goal.returns-clause-start
returns-clause-start c = start_scale

pub returns-clause-bounded : goal.returns-clause-bounded
returns-clause-bounded c = forms_bounded

pub returns-clause-multiple : goal.returns-clause-multiple
returns-clause-multiple c = form_multiple

pub returns-clause-fit : goal.returns-clause-fit
returns-clause-fit c = form_fits
