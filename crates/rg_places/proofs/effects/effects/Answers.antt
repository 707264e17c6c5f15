use Rattle.std.proofs.Common.{rules, ◌≡◌, ◌<◌, ◌≤◌, Err, subst, sym, ◌∙◌, arith}
use Rattle.rg_theory.specs.System.{labels}
use Rattle.rg_folds.specs.Fold.{ratio_of, shown_result}
use Rattle.rg_case_folds.specs.Placing.{effect_fold, ratio_at}
use Rattle.rg_fraction.specs.declared.fold_stop.FoldStop.TheVariants as stop
use Rattle.rg_cycles.specs.View.{cycle_of}
use Rattle.rg_places.specs.PointValues.{ratios_of}
use Rattle.rg_places.specs.Steps.{value_by}
use Rattle.rg_places.proofs.FractionSteps.{ratio_there}
use Rattle.rg_places.proofs.EffectSteps.{effects_start, effects_end, effects_fail, effect_kept, effect_set, unused_value}
use Rattle.rg_places.proofs.ShareSteps.{unused_made, used_made}
use Rattle.rg_places.proofs.effects.effects.Goals as goal
use Rattle.rg_places.proofs.effects.effects.Goals.{then-used-t+in_ok-effects-2, else-used-t}

pub loop-t-init : goal.loop-t-init
loop-t-init c = effects_start (effect_fold c.args.lts.now (cycle_of c.args.basis.now) (value_by c.args.columns.now)) (labels c.args.lts.now) (value_by c.args.columns.now)
    c.in_ok-effects.effects.items c.in_ok-effects.ensures.one_each c.in_ok-effects.ensures.values

pub index-requires : goal.index-requires
index-requires c =
    let lt = subst (λ n. c.loop-t.t < n) c.labels-t-end.ensures.value c.loop-t-test.true in
    let e = c.loop-t.invariant.one_each in
    omega (arith, lt, e, c.loop-t.effects.ok.0)

pub index_mut-requires : goal.index_mut-requires
index_mut-requires c =
    let lt = subst (λ n. c.loop-t.t < n) c.labels-t-end.ensures.value c.loop-t-test.true in
    let e = c.loop-t.invariant.one_each in
    omega (arith, lt, e, c.loop-t.effects.ok.0)

pub effect-requires-clause-value : goal.effect-requires-clause-value
effect-requires-clause-value c =
    let lt = subst (λ n. c.loop-t.t < n) c.labels-t-end.ensures.value c.loop-t-test.true in
    ratio_there c.loop-t.effects.items c.loop-t.t c.index.result.now (subst (λ n. c.loop-t.t < n) (sym c.loop-t.invariant.one_each) lt) c.index.ensures
    ∙ c.loop-t.invariant.left c.loop-t.t (omega arith) lt

pub returns-in_err-effects-2 : goal.returns-in_err-effects-2
returns-in_err-effects-2 c =
    let same : c.from_residual-in_err-effects-2.result ≡ Err (stop.Wide c.in_err-effects-2.field-0.0) = search rules in
    let lt = subst (λ n. c.loop-t.t < n) c.labels-t-end.ensures.value c.loop-t-test.true in
    let used = sym (c.requires.used.each c.loop-t.t lt) ∙ c.if-used-t.true in
    let made = used_made c.args.lts.now (cycle_of c.args.basis.now) (value_by c.args.columns.now) c.loop-t.t (shown_result ratio_of c.effect.result) used
    (c.effect.ensures c.args.lts.now (sym c.requires.labels) c.requires.columns) in
    rw same (effects_fail (effect_fold c.args.lts.now (cycle_of c.args.basis.now) (value_by c.args.columns.now)) (labels c.args.lts.now) (value_by c.args.columns.now)
    c.loop-t.t c.loop-t.effects.items c.loop-t.invariant lt c.in_err-effects-2.field-0.0 (rw c.in_err-effects-2.was at made))

pub loop-t-preserved : goal.loop-t-preserved
loop-t-preserved c =
    let lt = subst (λ n. c.loop-t.t < n) c.labels-t-end.ensures.value c.loop-t-test.true in
    elim c.if-used-t.branch [
      | then-used-t+in_ok-effects-2 w ↦
          let used = sym (c.requires.used.each c.loop-t.t lt) ∙ w.if-used-t.true in
          let made = used_made c.args.lts.now (cycle_of c.args.basis.now) (value_by c.args.columns.now) c.loop-t.t (shown_result ratio_of w.effect.result) used
          (w.effect.ensures c.args.lts.now (sym c.requires.labels) c.requires.columns) in
          rw w.effects-is (effect_set (effect_fold c.args.lts.now (cycle_of c.args.basis.now) (value_by c.args.columns.now)) (labels c.args.lts.now) (value_by c.args.columns.now)
          c.loop-t.t c.loop-t.effects.items c.loop-t.invariant lt w.in_ok-effects-2.field-0 (rw w.in_ok-effects-2.was at made))
      | else-used-t w ↦
          let unused = sym (c.requires.used.each c.loop-t.t lt) ∙ w.if-used-t.false in
          let none = c.loop-t.invariant.left c.loop-t.t (omega arith) lt
          ∙ unused_value c.args.lts.now (cycle_of c.args.basis.now) c.args.columns.now c.loop-t.t c.requires.columns.labels_are unused in
          rw w.effects-is (effect_kept (effect_fold c.args.lts.now (cycle_of c.args.basis.now) (value_by c.args.columns.now)) (labels c.args.lts.now) (value_by c.args.columns.now)
          c.loop-t.t c.loop-t.effects.items c.loop-t.invariant lt
          (unused_made c.args.lts.now (cycle_of c.args.basis.now) (value_by c.args.columns.now) c.loop-t.t (ratio_at (ratios_of c.loop-t.effects.items) c.loop-t.t) unused none))
    ]

pub returns : goal.returns
returns c = effects_end (effect_fold c.args.lts.now (cycle_of c.args.basis.now) (value_by c.args.columns.now)) (labels c.args.lts.now) (value_by c.args.columns.now)
    c.loop-t.t c.loop-t.effects.items c.loop-t.invariant (subst (λ n. n ≤ c.loop-t.t) c.labels-t-end.ensures.value c.loop-t-test.false)
