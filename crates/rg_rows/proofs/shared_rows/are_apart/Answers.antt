use Rattle.std.proofs.Common.{All, map, subst}
use Rattle.std.proofs.lemmas.List.{take_all}
use Rattle.rg_rows.specs.declared.case_row.CaseRow.{CaseRow}
use Rattle.rg_rows.specs.View.{kept_row, row_in}
use Rattle.rg_rows.specs.Sharing.{IsApart}
use Rattle.rg_rows.proofs.Joining.{all_taken}
use Rattle.rg_rows.proofs.shared_rows.are_apart.Goals as goal

pub loop-held-preserved : goal.loop-held-preserved
loop-held-preserved c = all_taken (IsApart c.args.hashes.now.keys) c.args.rows.now c.loop-held.held-index c.held-item.result c.loop-held-test.true c.held-item.is c.loop-held.invariant
    (subst (λ (r : CaseRow). IsApart c.args.hashes.now.keys (kept_row r)) c.row.ensures (c.is_apart.ensures c.if-not-is_apart.false))

pub returns : goal.returns
returns c = λ is. subst (λ l. All (IsApart c.args.hashes.now.keys) (map kept_row (map row_in l)))
    (take_all c.loop-held.held-index c.args.rows.now c.loop-held-test.false) c.loop-held.invariant
