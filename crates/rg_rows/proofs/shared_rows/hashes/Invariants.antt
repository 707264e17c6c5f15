use Rattle.std.proofs.Common.{All, map, take}
use Rattle.std.specs.Prelude.{IsTrue}
use Rattle.rg_rows.specs.View.{kept_row, row_in}
use Rattle.rg_rows.specs.Sharing.{has_hash}
use Rattle.rg_rows.proofs.shared_rows.hashes.Given as goal

abbrev pub invariant-loop-held : goal.invariant-loop-held
invariant-loop-held l = All (λ k. IsTrue (has_hash l.hashes.keys k.row)) (map kept_row (map row_in (take l.held-index l.rows)))
