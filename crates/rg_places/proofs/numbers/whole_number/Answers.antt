use Rattle.std.proofs.Common.{subst, ◌∙◌}
use Rattle.std.specs.Prelude.{pos}
use Rattle.rg_fraction.specs.Fractions.{IsValue}
use Rattle.rg_integers.proofs.Casts.{back}
use Rattle.rg_folds.proofs.Folding.{whole_is}
use Rattle.rg_places.proofs.numbers.whole_number.Goals as goal

pub returns : goal.returns
returns c = whole_is c.new.result (pos c.args.n) (subst (λ z. IsValue c.new.result z (pos 1)) (back c.widen.result c.widen.ensures.in_range ∙ c.widen.ensures.value) c.new.ensures)
