-- One thing is told of two systems, and always one.
use Rattle.rg_iso.proofs.OneTold.{one_told}
use Rattle.rg_iso.proofs.SomeTold.{some_told}
use Rattle.rg_iso.proofs.laws.one_comparison.Goals as goal

pub returns-clause-once : goal.returns-clause-once
returns-clause-once c = λ a b x y formed formed' flawless flawless'.
    one_told a b (record { first = formed; second = formed'; first_flawless = flawless; second_flawless = flawless' }) x y

pub returns-clause-some : goal.returns-clause-some
returns-clause-some c = λ a b formed formed' flawless flawless'.
    some_told a b (record { first = formed; second = formed'; first_flawless = flawless; second_flawless = flawless' })
