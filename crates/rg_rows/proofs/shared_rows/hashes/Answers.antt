use Rattle.std.proofs.Common.{◌≡◌, ◌==◌, All, map, take, ap, subst, ◌∙◌}
use Rattle.std.specs.Prelude.{IsTrue}
use Rattle.std.specs.List.{list_any}
use Rattle.std.proofs.lemmas.List.{take_all}
use Rattle.rg_case_folds.specs.Rewriting.{KeptRow}
use Rattle.rg_rows.specs.Hashing.{numbers_hash}
use Rattle.rg_rows.specs.View.{kept_row, row_in}
use Rattle.rg_rows.specs.Sharing.{row_hash, has_hash}
use Rattle.rg_rows.proofs.Joining.{all_taken, hashed_more}
use Rattle.rg_rows.proofs.shared_rows.hashes.Goals as goal

pub loop-held-preserved : goal.loop-held-preserved
loop-held-preserved c =
    let more = c.insert.new.self.keys in
    let updates = c.in_ok-insert.ensures.updates in
    let is : c.hash.result ≡ row_hash (kept_row (row_in c.held-item.result)).row =
    c.hash.ensures ∙ ap numbers_hash c.row.result.now.numbers_are ∙ ap (λ r. row_hash (kept_row r).row) c.row.ensures in
    all_taken (λ (k : KeptRow). IsTrue (has_hash more k.row)) c.args.rows.now c.loop-held.held-index c.held-item.result c.loop-held-test.true c.held-item.is
    (hashed_more c.loop-held.hashes.keys more c.hash.result updates.0 (map kept_row (map row_in (take c.loop-held.held-index c.args.rows.now))) c.loop-held.invariant)
    (subst (λ h. IsTrue (list_any (λ k. h == k) more)) is updates.1)

pub returns : goal.returns
returns c = subst (λ l. All (λ (k : KeptRow). IsTrue (has_hash c.loop-held.hashes.keys k.row)) (map kept_row (map row_in l)))
    (take_all c.loop-held.held-index c.args.rows.now c.loop-held-test.false) c.loop-held.invariant
