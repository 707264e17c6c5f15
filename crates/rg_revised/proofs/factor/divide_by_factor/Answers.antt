use Rattle.std.proofs.Common.{rules, ◌≡◌, ◌∙◌}
use Rattle.std.specs.Prelude.{FitsSigned, int_div}
use Rattle.std.specs.Int.{w64}
use Rattle.std.proofs.lemmas.Int.{to_z-of_z}
use Rattle.std.proofs.Math.IntN.{*ℤ_comm}
use Rattle.rg_integers.proofs.Casts.{back}
use Rattle.rg_integers.proofs.Divisors.{exact}
use Rattle.rg_integers.proofs.Short.{short_in_range}
use Rattle.rg_revised.proofs.Factors.{quotient_in_range}
use Rattle.rg_revised.proofs.factor.divide_by_factor.Goals as goal

pub returns-clause-value : goal.returns-clause-value
returns-clause-value c =
    let fits : FitsSigned w64 c.args.number = search rules in
    let small = short_in_range c.args.number fits in
    let number : c.from.result ≡ c.args.number = c.from.ensures ∙ to_z-of_z w64 c.args.number fits in
    let divided = quotient_in_range c.args.number c.args.factor c.requires.divides c.requires.positive small in
    rw (number, back c.args.number small, back c.args.factor c.requires.in_range, back (int_div c.args.number c.args.factor) divided) (*ℤ_comm c.args.factor (int_div c.args.number c.args.factor)
    ∙ exact c.args.number c.args.factor c.requires.divides)
