use Rattle.std.proofs.Common.{◌<◌, ap, subst, sym, ◌∙◌, map, length}
use Rattle.std.specs.Prelude.{slice_index}
use Rattle.std.proofs.lemmas.List.{take_all}
use Rattle.rg_theory.specs.System.{states}
use Rattle.rg_case_folds.specs.Placing.{ratio_at}
use Rattle.rg_places.specs.PointValues.{ratios_of}
use Rattle.rg_places.proofs.Leaving.{state_below, left_next}
use Rattle.rg_places.proofs.weights.numbers_left.Goals as goal

pub loop-s-init : goal.loop-s-init
loop-s-init c = ap ratios_of c.in_ok-left.ensures.items

pub bounds-numbers-s : goal.bounds-numbers-s
bounds-numbers-s c =
    let found = c.deref-s-items.ensures.value ∙ c.in_ok-states.ensures in
    let below = state_below c.args.lts.now c.args.t c.loop-s.s-index (subst (λ l. c.loop-s.s-index < length l) found c.loop-s-test.true) in
    subst (λ n. slice_index c.deref-s-items.result.now c.loop-s.s-index < n) (sym c.requires.numbers) (subst (λ l. slice_index l c.loop-s.s-index < states c.args.lts.now) (sym found) below)

pub loop-s-preserved : goal.loop-s-preserved
loop-s-preserved c =
    let found = c.deref-s-items.ensures.value ∙ c.in_ok-states.ensures in
    let items = c.deref-s-items.result.now in
    let below = subst (λ l. slice_index l c.loop-s.s-index < states c.args.lts.now) (sym found)
    (state_below c.args.lts.now c.args.t c.loop-s.s-index (subst (λ l. c.loop-s.s-index < length l) found c.loop-s-test.true)) in
    ap ratios_of c.in_ok-push.ensures.items
    ∙ left_next c.args.numbers.now c.loop-s.left.items items c.loop-s.s-index c.index-numbers-s.result c.loop-s.invariant c.loop-s-test.true
    (subst (λ n. slice_index items c.loop-s.s-index < n) (sym c.requires.numbers) below) c.index-numbers-s.is

pub returns : goal.returns
returns c =
    c.loop-s.invariant ∙ ap (map (ratio_at (ratios_of c.args.numbers.now)))
    (take_all c.loop-s.s-index c.deref-s-items.result.now c.loop-s-test.false ∙ c.deref-s-items.ensures.value ∙ c.in_ok-states.ensures)
