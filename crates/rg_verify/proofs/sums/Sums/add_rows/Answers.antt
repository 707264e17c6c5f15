use Rattle.std.proofs.Common.{map, take, get_or}
use Rattle.std.proofs.lemmas.List.{map_more}
use Rattle.std.proofs.lemmas.Result.{err_from_is_err_and}
use Rattle.rg_integers.proofs.Casts.{back}
use Rattle.rg_cert_data.specs.Certificates.{IsRowOf}
use Rattle.rg_cert_data.specs.Trees.{named_row}
use Rattle.rg_verify.proofs.Places.{image_at}
use Rattle.rg_verify.proofs.Rows.{no_row, multiplier_at, table_kept, sums_more, passes_among}
use Rattle.rg_verify.proofs.sums.Sums.add_rows.Goals as goal

pub row_expression-requires-clause-name : goal.row_expression-requires-clause-name
row_expression-requires-clause-name c = (image_at (IsRowOf c.args.lts.now) named_row c.args.rows.now c.loop-name.name-index no_row c.requires.rows c.loop-name-test.true).name

pub add_row-requires-clause-multiplier : goal.add_row-requires-clause-multiplier
add_row-requires-clause-multiplier c =
    let small = multiplier_at c.args.lts.now c.args.rows.now c.loop-name.name-index c.requires.rows c.loop-name-test.true in
    rw (back (get_or c.args.rows.now c.loop-name.name-index no_row).1 small) small

pub returns-in_err-add_row-clause-passes : goal.returns-in_err-add_row-clause-passes
returns-in_err-add_row-clause-passes c =
    let p = err_from_is_err_and c.from_residual.result c.from_residual.ensures.1 in
    let k = back (get_or c.args.rows.now c.loop-name.name-index no_row).1 (multiplier_at c.args.lts.now c.args.rows.now c.loop-name.name-index c.requires.rows c.loop-name-test.true) in
    let passes = rw k at c.in_err-add_row.ensures.passes in
    rw (p.1, p.2) (λ e small. passes_among c.args.lts.now _ named_row c.args.rows.now c.loop-name.name-index no_row c.row_expression.result
    c.loop-name.self c.loop-name-test.true c.loop-name.invariant.sums c.row_expression.ensures (passes e) small)

pub loop-name-preserved : goal.loop-name-preserved
loop-name-preserved c = record {
  table = table_kept c.args.lts.now c.loop-name.self c.add_row.new.self c.loop-name.invariant.table c.add_row.ensures.variables c.add_row.ensures.tidy;
  sums =
      let k = back (get_or c.args.rows.now c.loop-name.name-index no_row).1 (multiplier_at c.args.lts.now c.args.rows.now c.loop-name.name-index c.requires.rows c.loop-name-test.true) in
      let adds = rw k at c.in_ok-add_row.ensures.ok in
      rw (map_more named_row c.args.rows.now c.loop-name.name-index no_row c.loop-name-test.true)
      (sums_more c.args.lts.now _ (map named_row (take c.loop-name.name-index c.args.rows.now))
      (named_row (get_or c.args.rows.now c.loop-name.name-index no_row)) c.row_expression.result c.loop-name.self c.add_row.new.self
      c.loop-name.invariant.sums c.row_expression.ensures adds);
}
