use Rattle.std.proofs.Common.{if◌then◌else◌, ap, sym, ◌∙◌}
use Rattle.std.specs.Prelude.{pos}
use Rattle.rg_folds.specs.Fold.{whole}
use Rattle.rg_case_folds.specs.Placing.{ratio_at}
use Rattle.rg_folds.proofs.Folding.{whole_is}
use Rattle.rg_places.specs.PointValues.{ratios_of}
use Rattle.rg_places.proofs.making.start_and_values.Goals as goal

pub returns-else-has_start-clause-start : goal.returns-else-has_start-clause-start
returns-else-has_start-clause-start c = whole_is c.new.result (pos 0) c.new.ensures
    ∙ sym (ap (λ b. if b then ratio_at (ratios_of c.args.point.now) 0 else whole (pos 0)) (sym c.has_start.ensures ∙ c.if-has_start.false))
