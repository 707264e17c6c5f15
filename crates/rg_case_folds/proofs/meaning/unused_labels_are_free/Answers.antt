use Rattle.rg_case_folds.proofs.Given.{unused_is_free, unused_is_unnamed}
use Rattle.rg_case_folds.proofs.meaning.unused_labels_are_free.Goals as goal

pub returns-clause-free : goal.returns-clause-free
returns-clause-free c = unused_is_free

pub returns-clause-unnamed : goal.returns-clause-unnamed
returns-clause-unnamed c = unused_is_unnamed
