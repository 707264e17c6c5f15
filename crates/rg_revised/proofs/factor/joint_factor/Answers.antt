use Rattle.std.proofs.Common.{rules, ◌≡◌, ◌∙◌}
use Rattle.std.specs.Prelude.{FitsSigned}
use Rattle.std.specs.Int.{w64}
use Rattle.std.proofs.lemmas.Int.{to_z-of_z}
use Rattle.rg_integers.proofs.Casts.{back}
use Rattle.rg_integers.proofs.Short.{short_in_range}
use Rattle.rg_revised.proofs.factor.joint_factor.Goals as goal

pub returns-clause-greatest : goal.returns-clause-greatest
returns-clause-greatest c =
    let fits : FitsSigned w64 c.args.number = search rules in
    let number : c.from.result ≡ c.args.number = c.from.ensures ∙ to_z-of_z w64 c.args.number fits in
    rw (back c.gcd.result c.gcd.ensures.in_range) (rw (number, back c.args.number (short_in_range c.args.number fits), back c.args.factor c.requires.in_range) at c.gcd.ensures.greatest)
