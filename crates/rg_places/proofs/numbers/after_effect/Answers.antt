use Rattle.std.proofs.Common.{sym, ◌∙◌}
use Rattle.rg_integers.proofs.Casts.{zero_of_bits}
use Rattle.rg_places.proofs.Kept.{sum_with_none}
use Rattle.rg_places.proofs.numbers.after_effect.Goals as goal

pub returns-then-numerator-eq0 : goal.returns-then-numerator-eq0
returns-then-numerator-eq0 c = sum_with_none c.args.number c.args.effect (sym c.numerator.ensures.value ∙ zero_of_bits c.numerator.result c.numerator.ensures.in_range c.if-numerator-eq0.true)
