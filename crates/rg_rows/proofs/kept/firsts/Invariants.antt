use Rattle.std.proofs.Common.{map, List}
use Rattle.rg_case_folds.specs.Rewriting.{KeptRow}
use Rattle.rg_rows.proofs.Slices.{has_numbers}
use Rattle.rg_rows.specs.View.{kept_row, row_in, ShowsRows}
use Rattle.rg_rows.proofs.Keeping.{KeptSoFar}
use Rattle.rg_rows.proofs.Placing.{IndicesSoFar}
use Rattle.rg_rows.proofs.kept.firsts.Given as goal

abbrev pub invariant-loop-held : goal.invariant-loop-held
invariant-loop-held l = (kept : List KeptRow) × ShowsRows l.kept kept
    × KeptSoFar (map kept_row (map row_in l.all)) (has_numbers l.seen.keys) l.held-index kept
    × IndicesSoFar (map kept_row (map row_in l.all)) l.held-index kept l.seen.keys l.indices.items
