use Rattle.std.proofs.Common.{rules, ◌≡◌, ◌<◌, Err, length, subst, sym, ◌∙◌}
use Rattle.std.specs.Prelude.{pos}
use Rattle.rg_folds.specs.Fold.{joined, add, whole, ratio_of}
use Rattle.rg_folds.proofs.FoldLemmas.{add_step}
use Rattle.rg_folds.proofs.Folding.{whole_is}
use Rattle.rg_integers.specs.Sum.{number_at}
use Rattle.rg_integers.proofs.Order.{positive_differs}
use Rattle.rg_integers.proofs.Casts.{zero_of_bits}
use Rattle.rg_folds.proofs.Zeros.{plus_zero, fraction_within}
use Rattle.rg_cycles.proofs.AddsNothing.{plus_none, value_adds_nothing}
use Rattle.rg_places.specs.Steps.{column_share}
use Rattle.rg_places.proofs.FractionSteps.{joined_none}
use Rattle.rg_places.proofs.FoldSteps.{sum_leads, first_fails, sum_ends, sum_next, item_fails, join_fails}
use Rattle.rg_places.proofs.ColumnLists.{rest_has}
use Rattle.rg_places.proofs.effects.sum_of_shares.Goals as goal
use Rattle.rg_places.proofs.effects.sum_of_shares.Goals.{then-numerator-ne0+in_ok-sum-2, else-numerator-ne0}

pub returns-in_default : goal.returns-in_default
returns-in_default c = joined_none add (column_share c.args.relation.now) (whole (pos 0))
    (ratio_of c.new.result) c.args.columns.now c.in_default.ensures.cases (whole_is c.new.result (pos 0) c.new.ensures)

pub returns-in_err-sum : goal.returns-in_err-sum
returns-in_err-sum c =
    let same : c.from_residual.result ≡ Err c.in_err-sum.field-0.0 = search rules in
    rw same (subst (λ l. joined add (column_share c.args.relation.now) (whole (pos 0)) l (Err c.in_err-sum.field-0.0)) (sym c.in-Some.ensures.cases.0)
    (first_fails add (column_share c.args.relation.now) (whole (pos 0)) c.in-Some.first.now c.in-Some.rest.now c.in_err-sum.field-0.0
    (rw c.in_err-sum.was at c.share_of.ensures)))

pub loop-column-init : goal.loop-column-init
loop-column-init c = λ r h. subst (λ l. joined add (column_share c.args.relation.now) (whole (pos 0)) l r) (sym c.in-Some.ensures.cases.0)
    (sum_leads add (column_share c.args.relation.now) (whole (pos 0)) c.in-Some.first.now c.in-Some.rest.now (ratio_of c.in_ok-sum.sum)
    (rw c.in_ok-sum.was at c.share_of.ensures) r h)

pub share_of-requires-in-loop-column-clause-index : goal.share_of-requires-in-loop-column-clause-index
share_of-requires-in-loop-column-clause-index c = rest_has (λ x. x.index < length c.args.relation.now.free.items) c.args.columns.now c.in-Some.first.now
    c.in-Some.rest.now c.loop-column.column-index c.column-item.result c.in-Some.ensures.cases.0 c.requires.indices c.loop-column-test.true c.column-item.is

-- a column of value 0 adds nothing
pub loop-column-preserved-then-numerator-eq0 : goal.loop-column-preserved-then-numerator-eq0
loop-column-preserved-then-numerator-eq0 c =
    let relation = c.args.relation.now in
    let column = c.column-item.result in
    let none = sym c.numerator.ensures.value ∙ zero_of_bits c.numerator.result c.numerator.ensures.in_range c.if-numerator-eq0.true in
    sum_next add (column_share relation) (joined add (column_share relation) (whole (pos 0)) c.args.columns.now) c.in-Some.rest.now c.loop-column.column-index
    (ratio_of c.loop-column.sum) c.loop-column.invariant column c.loop-column-test.true c.column-item.is (whole (pos 0)) (ratio_of c.loop-column.sum)
    (value_adds_nothing (number_at relation.free.items column.index) relation.d column.value (positive_differs _ c.requires.in_range.positive)
    (c.requires.in_range.free column.index) c.requires.in_range.d none)
    (plus_zero (ratio_of c.loop-column.sum) (fraction_within c.loop-column.sum))

pub returns-in_err-share : goal.returns-in_err-share
returns-in_err-share c =
    let same : c.from_residual-in_err-share.result ≡ Err c.in_err-share.field-0.0 = search rules in
    rw same (item_fails add (column_share c.args.relation.now) (joined add (column_share c.args.relation.now) (whole (pos 0)) c.args.columns.now) c.in-Some.rest.now
    c.loop-column.column-index (ratio_of c.loop-column.sum) c.loop-column.invariant c.column-item.result c.loop-column-test.true c.column-item.is
    c.in_err-share.field-0.0 (rw c.in_err-share.was at c.share_of-in-loop-column.ensures))

pub returns-in_err-sum-2 : goal.returns-in_err-sum-2
returns-in_err-sum-2 c =
    let same : c.from_residual-in_err-sum-2.result ≡ Err c.in_err-sum-2.field-0.0 = search rules in
    let joins = add_step c.loop-column.sum c.in_ok-share.share c.add.result c.add.ensures in
    rw same (join_fails add (column_share c.args.relation.now) (joined add (column_share c.args.relation.now) (whole (pos 0)) c.args.columns.now) c.in-Some.rest.now
    c.loop-column.column-index (ratio_of c.loop-column.sum) c.loop-column.invariant c.column-item.result c.loop-column-test.true c.column-item.is
    (ratio_of c.in_ok-share.share) c.in_err-sum-2.field-0.0 (rw c.in_ok-share.was at c.share_of-in-loop-column.ensures) (rw c.in_err-sum-2.was at joins))

pub loop-column-preserved : goal.loop-column-preserved
loop-column-preserved c =
    let made = rw c.in_ok-share.was at c.share_of-in-loop-column.ensures in
    elim c.if-numerator-ne0.branch [
      | then-numerator-ne0+in_ok-sum-2 w ↦
          let joins = add_step c.loop-column.sum c.in_ok-share.share w.add.result w.add.ensures in
          rw w.sum-is (sum_next add (column_share c.args.relation.now) (joined add (column_share c.args.relation.now) (whole (pos 0)) c.args.columns.now)
          c.in-Some.rest.now c.loop-column.column-index (ratio_of c.loop-column.sum) c.loop-column.invariant c.column-item.result c.loop-column-test.true
          c.column-item.is (ratio_of c.in_ok-share.share) (ratio_of w.in_ok-sum-2.sum) made (rw w.in_ok-sum-2.was at joins))
      | else-numerator-ne0 w ↦
          let none = sym c.numerator-in-loop-column.ensures.value ∙ zero_of_bits c.numerator-in-loop-column.result c.numerator-in-loop-column.ensures.in_range w.if-numerator-ne0.false in
          rw w.sum-is (sum_next add (column_share c.args.relation.now) (joined add (column_share c.args.relation.now) (whole (pos 0)) c.args.columns.now)
          c.in-Some.rest.now c.loop-column.column-index (ratio_of c.loop-column.sum) c.loop-column.invariant c.column-item.result c.loop-column-test.true
          c.column-item.is (ratio_of c.in_ok-share.share) (ratio_of c.loop-column.sum) made (plus_none c.loop-column.sum c.in_ok-share.share none))
    ]

pub returns : goal.returns
returns c = sum_ends add (column_share c.args.relation.now)
    (joined add (column_share c.args.relation.now) (whole (pos 0)) c.args.columns.now) c.in-Some.rest.now c.loop-column.column-index
    (ratio_of c.loop-column.sum) c.loop-column.invariant c.loop-column-test.false
