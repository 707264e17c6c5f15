use Rattle.std.proofs.Common.{◌≡◌, ◌<◌, ◌≤◌, length, ap, refl, subst, sym, ◌∙◌, arith}
use Rattle.std.specs.Prelude.{slice_index}
use Rattle.rg_theory.specs.System.{labels}
use Rattle.rg_folds.specs.Substitution.{free_labels}
use Rattle.rg_cycles.specs.View.{cycle_of}
use Rattle.rg_cycles.proofs.Folding.{free_below}
use Rattle.rg_places.proofs.ColumnSteps.{columns_start, columns_passed, columns_taken, value_within, columns_end, values_end}
use Rattle.rg_places.proofs.columns.columns_with.Goals as goal
use Rattle.rg_places.proofs.columns.columns_with.Goals.{then-used-label+in_ok-push, else-used-label}

pub loop-index-init : goal.loop-index-init
loop-index-init c = rw c.in_ok-columns.ensures.items (columns_start c.args.lts.now (cycle_of c.args.basis.now) c.args.values.now)

pub bounds-used-label : goal.bounds-used-label
bounds-used-label c =
    let free = c.free-label-items.ensures ∙ ap (λ n. free_labels n (cycle_of c.args.basis.now)) c.requires.labels in
    let within = subst (λ l. c.loop-index.index < length l) free c.loop-index-test.true in
    rw (free, c.requires.used.one_each) (free_below (labels c.args.lts.now) (cycle_of c.args.basis.now) c.loop-index.index within)

pub bounds-values-len : goal.bounds-values-len
bounds-values-len c =
    let free = c.free-label-items.ensures ∙ ap (λ n. free_labels n (cycle_of c.args.basis.now)) c.requires.labels in
    let within = subst (λ l. c.loop-index.index < length l) free c.loop-index-test.true in
    let label = slice_index (free_labels (labels c.args.lts.now) (cycle_of c.args.basis.now)) c.loop-index.index in
    let below = free_below (labels c.args.lts.now) (cycle_of c.args.basis.now) c.loop-index.index within in
    let used = sym (c.requires.used.each label below) ∙ (rw free at c.if-used-label.true) in
    let count : c.len.result ≡ length c.loop-index.columns.items = omega (arith, c.len.ensures, c.loop-index.columns.ok.0) in
    rw count (value_within c.args.lts.now (cycle_of c.args.basis.now) c.args.values.now c.loop-index.index c.loop-index.columns.items c.loop-index.invariant c.requires.one_each label within refl used)

pub loop-index-preserved : goal.loop-index-preserved
loop-index-preserved c =
    let free = c.free-label-items.ensures ∙ ap (λ n. free_labels n (cycle_of c.args.basis.now)) c.requires.labels in
    let within = subst (λ l. c.loop-index.index < length l) free c.loop-index-test.true in
    let label = slice_index (free_labels (labels c.args.lts.now) (cycle_of c.args.basis.now)) c.loop-index.index in
    let below = free_below (labels c.args.lts.now) (cycle_of c.args.basis.now) c.loop-index.index within in
    elim c.if-used-label.branch [
      | then-used-label+in_ok-push w ↦
          let used = sym (c.requires.used.each label below) ∙ (rw free at w.if-used-label.true) in
          let count : w.len.result ≡ length c.loop-index.columns.items = omega (arith, w.len.ensures, c.loop-index.columns.ok.0) in
          let at = rw count at w.index-values-len.is in
          rw (w.columns-is, w.in_ok-push.ensures.items, free)
          (columns_taken c.args.lts.now (cycle_of c.args.basis.now) c.args.values.now c.loop-index.index c.loop-index.columns.items
          c.loop-index.invariant c.requires.one_each label within refl used w.index-values-len.result at)
      | else-used-label w ↦
          let unused = sym (c.requires.used.each label below) ∙ (rw free at w.if-used-label.false) in
          rw w.columns-is (columns_passed c.args.lts.now
          (cycle_of c.args.basis.now) c.args.values.now c.loop-index.index c.loop-index.columns.items c.loop-index.invariant c.requires.one_each
          label within refl unused)
    ]

pub returns-clause-columns : goal.returns-clause-columns
returns-clause-columns c =
    let free = c.free-label-items.ensures ∙ ap (λ n. free_labels n (cycle_of c.args.basis.now)) c.requires.labels in
    columns_end c.args.lts.now (cycle_of c.args.basis.now) c.args.values.now c.loop-index.index c.loop-index.columns.items c.loop-index.invariant
    c.requires.one_each (subst (λ l. length l ≤ c.loop-index.index) free c.loop-index-test.false)

pub returns-clause-values : goal.returns-clause-values
returns-clause-values c =
    let free = c.free-label-items.ensures ∙ ap (λ n. free_labels n (cycle_of c.args.basis.now)) c.requires.labels in
    values_end c.args.lts.now (cycle_of c.args.basis.now) c.args.values.now c.loop-index.index c.loop-index.columns.items c.loop-index.invariant
    c.requires.one_each (subst (λ l. length l ≤ c.loop-index.index) free c.loop-index-test.false)
