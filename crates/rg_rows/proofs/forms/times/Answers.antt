use Rattle.std.proofs.Common.{refl, inl, inr}
use Rattle.std.specs.Prelude.{pos}
use Rattle.rg_integers.specs.Sum.{number_at}
use Rattle.rg_cycles.proofs.Numbers.{differs_from_zero}
use Rattle.rg_rows.proofs.FormTimes.{quotient_is, zeros_are}
use Rattle.rg_rows.proofs.forms.times.Goals as goal

pub returns-then-number-ne0-clause-times : goal.returns-then-number-ne0-clause-times
returns-then-number-ne0-clause-times c = λ d some are.
    inl (quotient_is c.args.numbers.now c.args.parts.now c.loop-i.i d some c.requires.in_range are c.loop-i-test.true
    (differs_from_zero (number_at c.args.numbers.now c.loop-i.i) (c.requires.in_range c.loop-i.i (pos 0) c.loop-i-test.true) c.if-number-ne0.true))

pub returns-clause-times : goal.returns-clause-times
returns-clause-times c = λ d some are. inr (refl, zeros_are c.args.numbers.now c.loop-i.i c.loop-i.invariant c.loop-i-test.false)
