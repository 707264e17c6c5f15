use Rattle.std.proofs.Common.{rules, ◌≢◌}
use Rattle.std.specs.Prelude.{pos}
use Rattle.rg_integers.specs.Sum.{number_at}
use Rattle.rg_revised.proofs.Vacancy.{vacant_test}
use Rattle.rg_revised.proofs.choosing.is_vacant.Goals as goal

pub returns-then-numbers-s-ne0 : goal.returns-then-numbers-s-ne0
returns-then-numbers-s-ne0 c =
    let named : number_at c.args.numbers.now c.args.s ≢ pos 0 = search rules in
    vacant_test c.args.columns c.args.slots.now c.args.stack.now c.args.numbers.now c.args.s c.is_fixed.result c.requires.slot named c.is_fixed.ensures
