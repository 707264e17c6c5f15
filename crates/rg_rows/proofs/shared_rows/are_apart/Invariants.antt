use Rattle.std.proofs.Common.{All, map, take}
use Rattle.rg_rows.specs.View.{kept_row, row_in}
use Rattle.rg_rows.specs.Sharing.{IsApart}
use Rattle.rg_rows.proofs.shared_rows.are_apart.Given as goal

abbrev pub invariant-loop-held : goal.invariant-loop-held
invariant-loop-held l = All (IsApart l.hashes.keys) (map kept_row (map row_in (take l.held-index l.rows)))
