use Rattle.std.proofs.Common.{sym, ◌∙◌, Vec, Global}
use Rattle.rg_folds.specs.Fold.{ratio_of}
use Rattle.rg_places.specs.PointValues.{ratios_of}
use Rattle.rg_fraction.specs.declared.fraction.Fraction.{Fraction}
use Rattle.rg_case_folds.proofs.Comes.{comes_by}
use Rattle.rg_places.proofs.PlaceSteps.{moved_kept, moved_made}
use Rattle.rg_places.proofs.numbers.shift_by_least.Goals as goal

pub returns-then-not-is_shifted : goal.returns-then-not-is_shifted
returns-then-not-is_shifted c = moved_kept c.args.class (ratios_of c.args.numbers.items) (sym c.is_shifted.ensures ∙ c.if-not-is_shifted.true)

pub returns : goal.returns
returns c =
    let least = rw c.deref.ensures.value at c.least-by.ensures in
    comes_by _ _ (λ (v : Vec Fraction Global). ratios_of v.items) c.subtract_from_each.result c.subtract_from_each.ensures
    (moved_made c.args.class (ratios_of c.args.numbers.items) (ratio_of c.least-by.result) least (sym c.is_shifted.ensures ∙ c.if-not-is_shifted.false))
