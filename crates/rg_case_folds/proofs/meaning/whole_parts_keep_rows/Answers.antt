use Rattle.rg_case_folds.proofs.WholeParts.{whole_rows}
use Rattle.rg_case_folds.proofs.meaning.whole_parts_keep_rows.Goals as goal

pub returns : goal.returns
returns c = whole_rows
