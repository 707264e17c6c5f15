use Rattle.std.proofs.Common.{ap, ◌∙◌}
use Rattle.std.specs.Prelude.{neg_ℤ}
use Rattle.rg_integers.proofs.Casts.{back}
use Rattle.rg_farkas.proofs.ChordNumbers.{opposite_is}
use Rattle.rg_farkas.proofs.chords.opposite.Goals as goal

pub returns : goal.returns
returns c =
    let n = back c.numerator.result c.numerator.ensures.in_range ∙ c.numerator.ensures.value in
    let m = back c.negative.result c.negative.ensures.in_range ∙ c.negative.ensures.value ∙ ap neg_ℤ n in
    let d = back c.denominator.result c.denominator.ensures.in_range ∙ c.denominator.ensures.value in
    opposite_is c.args.f c.new.result (rw (m, d) at c.new.ensures)
