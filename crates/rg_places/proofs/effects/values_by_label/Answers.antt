use Rattle.std.proofs.Common.{◌≡◌, replicate, ap, ◌∙◌, arith}
use Rattle.std.specs.Prelude.{pos}
use Rattle.std.specs.Vec.{vec_len}
use Rattle.rg_theory.specs.System.{labels}
use Rattle.rg_cycles.specs.View.{cycle_of}
use Rattle.rg_folds.proofs.Folding.{whole_is}
use Rattle.rg_places.proofs.ShareSteps.{column_value}
use Rattle.rg_places.proofs.LabelValues.{filled, column_below, values_start, values_next, values_end}
use Rattle.rg_places.proofs.effects.values_by_label.Goals as goal

pub loop-column-init : goal.loop-column-init
loop-column-init c =
    let items : c.resize.new.self.items ≡ replicate c.labels-labels.result c.new.result = c.in_ok-resize.ensures.items
    ∙ filled c.labels-labels.result (vec_len c.in_ok-values.values) c.in_ok-values.values.items c.new.result c.in_ok-values.ensures.items c.in_ok-values.ensures.len in
    values_start (labels c.args.lts.now) c.args.columns.now c.new.result c.resize.new.self.items (whole_is c.new.result (pos 0) c.new.ensures)
    (items ∙ ap (λ n. replicate n c.new.result) c.labels-labels.ensures.value)

pub index_mut-requires : goal.index_mut-requires
index_mut-requires c =
    let below = column_below c.args.lts.now (cycle_of c.args.basis.now) c.args.columns.now c.requires.columns c.loop-column.column-index
    c.column-item.result c.loop-column-test.true c.column-item.is in
    let e = c.loop-column.invariant.one_each in
    omega (arith, below, e, c.loop-column.values.ok.0)

pub loop-column-preserved : goal.loop-column-preserved
loop-column-preserved c =
    let lts = c.args.lts.now in
    let basis = cycle_of c.args.basis.now in
    let columns = c.args.columns.now in
    let i = c.loop-column.column-index in
    values_next (labels lts) columns i c.loop-column.values.items c.loop-column.invariant c.column-item.result c.loop-column-test.true c.column-item.is
    (column_below lts basis columns c.requires.columns i c.column-item.result c.loop-column-test.true c.column-item.is)
    (column_value lts basis columns c.requires.columns.labels_are i c.column-item.result c.loop-column-test.true c.column-item.is)

pub returns-clause-one_each : goal.returns-clause-one_each
returns-clause-one_each c = c.loop-column.invariant.one_each

pub returns-clause-values : goal.returns-clause-values
returns-clause-values c = values_end (labels c.args.lts.now) c.args.columns.now c.loop-column.column-index c.loop-column.values.items c.loop-column.invariant c.loop-column-test.false
