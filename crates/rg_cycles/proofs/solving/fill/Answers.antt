use Rattle.std.proofs.lemmas.List.Elements.{Contains-get_or}
use Rattle.std.proofs.Common.{subst, sym, ◌∙◌, arith}
use Rattle.std.specs.Prelude.{slice_index}
use Rattle.rg_feasible.specs.Contents.{IsDictionary}
use Rattle.rg_cycles.proofs.Filling.{row_added, row_length, row_in_range}
use Rattle.rg_cycles.proofs.solving.fill.Goals as goal

pub row-requires : goal.row-requires
row-requires g c = c.requires.kept (slice_index c.args.kept.now c.loop-index.index-index) (Contains-get_or c.args.kept.now c.loop-index.index-index 0 c.loop-index-test.true)

pub push_row-requires-clause-one_each : goal.push_row-requires-clause-one_each
push_row-requires-clause-one_each g c =
    let at = slice_index c.args.kept.now c.loop-index.index-index in
    let lt = c.requires.kept at (Contains-get_or c.args.kept.now c.loop-index.index-index 0 c.loop-index-test.true) in
    rw (c.deref.ensures.value, c.loop-index.invariant.columns) (row_length c.args.labels (g.R.ChordRows.rows c.args.rows.now) c.requires.rows at lt c.in_ok-row.row.items c.in_ok-row.ensures)

pub push_row-requires-clause-coeffs_in_range : goal.push_row-requires-clause-coeffs_in_range
push_row-requires-clause-coeffs_in_range g c =
    let at = slice_index c.args.kept.now c.loop-index.index-index in
    let lt = c.requires.kept at (Contains-get_or c.args.kept.now c.loop-index.index-index 0 c.loop-index-test.true) in
    rw c.deref.ensures.value (row_in_range c.args.labels (g.R.ChordRows.rows c.args.rows.now) c.requires.rows at lt c.in_ok-row.row.items c.in_ok-row.ensures)

pub loop-index-preserved : goal.loop-index-preserved
loop-index-preserved g c =
    let at = slice_index c.args.kept.now c.loop-index.index-index in
    let is = sym (c.deref.ensures.value ∙ c.in_ok-row.ensures) in
    let room = c.push_row.ensures.room in
    record {
      whole = subst (λ system. IsDictionary system c.push_row.new.self)
          (row_added c.args.labels (g.R.ChordRows.rows c.args.rows.now) c.args.kept.now c.loop-index.index-index c.loop-index-test.true c.deref.result.now is)
          (c.push_row.ensures.system _ c.loop-index.invariant.whole);
      start = c.push_row.ensures.members ∙ c.loop-index.invariant.start;
      columns = c.push_row.ensures.columns ∙ c.loop-index.invariant.columns;
      room = (let r = c.loop-index.invariant.room in omega arith);
    }
