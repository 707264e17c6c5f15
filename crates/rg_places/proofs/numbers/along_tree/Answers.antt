use Rattle.std.proofs.Common.{rules, ◌≡◌, replicate, slice_index_or, Err, ap, subst, sym, ◌∙◌, arith}
use Rattle.std.proofs.lemmas.List.{length-map}
use Rattle.rg_theory.specs.declared.Arc.{Arc}
use Rattle.rg_theory.specs.System.{labels}
use Rattle.rg_folds.specs.Fold.{ratio_of}
use Rattle.rg_case_folds.specs.Placing.{along_tree, ratio_at}
use Rattle.rg_fraction.specs.declared.fold_stop.FoldStop.TheVariants as stop
use Rattle.rg_places.specs.PointValues.{ratios_of}
use Rattle.rg_places.proofs.AlongTree.{tree_arc_in_range, along_first, along_end, step_fails, step_next}
use Rattle.rg_places.proofs.numbers.along_tree.Goals as goal

abbrev no_arc : Arc
no_arc = record { from = 0; label = 0; to = 0 }

pub loop-a-init : goal.loop-a-init
loop-a-init c =
    let start = subst (λ n. c.index-found-labels.result ≡ slice_index_or c.args.found.now n c.index-found-labels.result) c.labels.ensures.value c.index-found-labels.is in
    let items : c.in_ok-numbers.numbers.items ≡ replicate c.states.result c.index-found-labels.result = search rules in
    along_first c.args.lts.now c.args.tree.now c.args.found.now c.in_ok-numbers.numbers.items c.index-found-labels.result c.requires.found start
    (items ∙ ap (λ n. replicate n c.index-found-labels.result) c.states.ensures.value)

pub index-requires : goal.index-requires
index-requires c =
    let r = tree_arc_in_range c.args.lts.now c.args.tree.now c.loop-a.a-index no_arc c.labels.ensures.well_formed.in_range c.requires.tree c.loop-a-test.true in
    let e = sym (length-map c.loop-a.numbers.items ratio_of) ∙ c.loop-a.invariant.one_each in
    omega (arith, r.0, e, c.loop-a.numbers.ok.0)

pub bounds-found-a : goal.bounds-found-a
bounds-found-a c =
    let r = tree_arc_in_range c.args.lts.now c.args.tree.now c.loop-a.a-index no_arc c.labels.ensures.well_formed.in_range c.requires.tree c.loop-a-test.true in
    let e = c.requires.found in
    omega (arith, r.1, e)

pub index_mut-requires : goal.index_mut-requires
index_mut-requires c =
    let r = tree_arc_in_range c.args.lts.now c.args.tree.now c.loop-a.a-index no_arc c.labels.ensures.well_formed.in_range c.requires.tree c.loop-a-test.true in
    let e = sym (length-map c.loop-a.numbers.items ratio_of) ∙ c.loop-a.invariant.one_each in
    omega (arith, r.2, e, c.loop-a.numbers.ok.0)

pub returns-in_err-number-clause-wide : goal.returns-in_err-number-clause-wide
returns-in_err-number-clause-wide c = λ w e.
    let same : c.from_residual-in_err-number.result ≡ Err (stop.Wide c.in_err-number.field-0.0) = search rules in
    let is : c.in_err-number.field-0.0 ≡ w = cc in
    subst (λ v. along_tree (ratio_at (ratios_of c.args.found.now)) (λ s. ratio_at (ratios_of c.args.found.now) (labels c.args.lts.now)) c.args.tree.now (Err v)) is
    (step_fails c.args.lts.now c.args.tree.now c.args.found.now c.loop-a.numbers.items c.loop-a.a-index no_arc c.labels.ensures.well_formed.in_range c.requires.tree
    c.loop-a-test.true c.loop-a.invariant c.requires.found c.index.result.now c.index-found-a.result c.index.ensures c.index-found-a.is c.after_effect.result c.after_effect.ensures
    c.in_err-number.field-0.0 c.in_err-number.was)

pub loop-a-preserved : goal.loop-a-preserved
loop-a-preserved c = step_next c.args.lts.now c.args.tree.now c.args.found.now c.loop-a.numbers.items c.loop-a.a-index no_arc c.labels.ensures.well_formed.in_range
    c.requires.tree c.loop-a-test.true c.loop-a.invariant c.requires.found c.index.result.now c.index-found-a.result c.index.ensures c.index-found-a.is c.after_effect.result
    c.after_effect.ensures c.in_ok-number.number c.in_ok-number.was

pub returns-clause-value : goal.returns-clause-value
returns-clause-value c = along_end c.args.lts.now c.args.tree.now (ratios_of c.args.found.now) c.loop-a.a-index (ratios_of c.loop-a.numbers.items) c.loop-a.invariant c.loop-a-test.false
