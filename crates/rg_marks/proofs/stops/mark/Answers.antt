use Rattle.std.proofs.Common.{◌<◌, Bool, get_or, Vec, vec_len, sym, subst, ◌∙◌, refl}
use Rattle.std.specs.declared.alloc.Global.{Global}
use Rattle.std.proofs.lemmas.List.{get_or_default}
use Rattle.rg_marks.specs.Stops.{rows_in}
use Rattle.rg_marks.proofs.Marking.{row_of_label, row_length, marked_written, marked_end}
use Rattle.rg_marks.proofs.Stopping.{event_within}
use Rattle.rg_marks.proofs.stops.mark.Goals as goal

pub bounds-rows-t : goal.bounds-rows-t
bounds-rows-t c =
    let (lt, lt') = event_within c.args.lts.now c.args.events.now c.loop-s.s-index (0, 0) c.loop-s-test.true c.requires.within in
    row_of_label c.args.lts.now c.loop-s.rows _ lt' c.loop-s.invariant.table

pub index_mut-requires : goal.index_mut-requires
index_mut-requires c =
    let (lt, lt') = event_within c.args.lts.now c.args.events.now c.loop-s.s-index (0, 0) c.loop-s-test.true c.requires.within in
    let size = row_length c.args.lts.now c.loop-s.rows _ c.index-rows-t.result c.index-rows-t.result.items
    (row_of_label c.args.lts.now c.loop-s.rows _ lt' c.loop-s.invariant.table) c.loop-s.invariant.table c.index-rows-t.is refl in
    subst (λ (v : Vec Bool Global). (get_or c.args.events.now c.loop-s.s-index (0, 0)).0 < vec_len v) c.index-rows-t.is
    (subst (λ n. (get_or c.args.events.now c.loop-s.s-index (0, 0)).0 < n) (sym (c.index-rows-t.result.ok.0 ∙ size)) lt)

pub loop-s-preserved : goal.loop-s-preserved
loop-s-preserved c =
    let (lt, lt') = event_within c.args.lts.now c.args.events.now c.loop-s.s-index (0, 0) c.loop-s-test.true c.requires.within in
    marked_written c.args.lts.now c.args.events.now (rows_in c.args.rows.now) c.loop-s.rows c.loop-s.s-index _ _ c.index-rows-t.result c.loop-s.invariant c.loop-s-test.true
    (get_or_default c.args.events.now c.loop-s.s-index (get_or c.args.events.now c.loop-s.s-index (0, 0)) (0, 0) c.loop-s-test.true) lt lt' c.index-rows-t.is

pub returns-clause-marks : goal.returns-clause-marks
returns-clause-marks c =
    marked_end c.args.lts.now c.args.events.now (rows_in c.args.rows.now) (rows_in c.loop-s.rows) c.loop-s.s-index c.loop-s-test.false c.loop-s.auto.s-index-end c.loop-s.invariant
