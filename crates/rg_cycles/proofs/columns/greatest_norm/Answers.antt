use Rattle.std.proofs.Common.{ap, ◌∙◌, arith}
use Rattle.std.specs.Prelude.{pos, slice_index}
use Rattle.std.proofs.lemmas.List.Elements.{Contains-get_or}
use Rattle.rg_linear.specs.Norm.{row_norm, kept_norm}
use Rattle.rg_cycles.proofs.Walking.{norms_more, norms_are}
use Rattle.rg_cycles.proofs.columns.greatest_norm.Goals as goal

pub row-requires : goal.row-requires
row-requires g c = c.requires.kept (slice_index c.args.kept.now c.loop-index.index-index) (Contains-get_or c.args.kept.now c.loop-index.index-index 0 c.loop-index-test.true)

pub loop-index-preserved : goal.loop-index-preserved
loop-index-preserved g c =
    let is = c.deref.ensures.value ∙ c.in_ok-row.ensures in
    norms_more (g.R.ChordRows.rows c.args.rows.now) c.args.kept.now c.loop-index.index-index c.norm.result c.loop-index.greatest c.max-greatest.result
    (c.norm.ensures ∙ ap (λ xs. kept_norm (row_norm xs (pos 0))) is) c.max-greatest.ensures c.loop-index.invariant

pub returns : goal.returns
returns g c = λ labels small. norms_are labels (g.R.ChordRows.rows c.args.rows.now) c.args.kept.now c.loop-index.greatest
    (λ k lt. c.loop-index.invariant small k (let end = c.loop-index-test.false in omega arith))
