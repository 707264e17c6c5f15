use Rattle.std.proofs.Common.{◌+◌, drop, ap, sym, ◌∙◌}
use Rattle.std.specs.Prelude.{pos}
use Rattle.rg_folds.specs.Fold.{ratio_of}
use Rattle.rg_case_folds.specs.Placing.{least_from}
use Rattle.rg_folds.proofs.Folding.{whole_is}
use Rattle.rg_places.specs.PointValues.{ratios_of}
use Rattle.rg_places.proofs.FoldSteps.{mapped_left}
use Rattle.rg_places.proofs.ColumnLists.{least_none}
use Rattle.rg_places.proofs.numbers.least.Goals as goal

pub returns-in_default : goal.returns-in_default
returns-in_default c = whole_is c.new.result (pos 0) c.new.ensures ∙ sym (least_none c.args.numbers.now c.in_default.ensures.cases)

pub loop-number-preserved : goal.loop-number-preserved
loop-number-preserved c = ap (λ r. least_from r (drop (c.loop-number.number-index + 1) (ratios_of c.in-Some.rest.now))) c.lesser-least.ensures
    ∙ sym (ap (least_from (ratio_of c.loop-number.least))
    (mapped_left ratio_of c.in-Some.rest.now c.loop-number.number-index c.number-item.result c.loop-number-test.true c.number-item.is)) ∙ c.loop-number.invariant
