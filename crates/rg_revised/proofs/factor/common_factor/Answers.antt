use Rattle.std.proofs.Common.{rules, ◌≡◌, ◌∷◌, suc, length, subst, ◌∙◌, arith, add-one}
use Rattle.std.specs.Prelude.{FitsSigned, unsigned_abs}
use Rattle.std.specs.Int.{w64, w128, cast_signed}
use Rattle.std.proofs.lemmas.Int.{to_z-of_z}
use Rattle.rg_integers.specs.Divisor.{IsGcdBelow}
use Rattle.rg_integers.specs.Sum.{number_at}
use Rattle.rg_integers.proofs.Casts.{back}
use Rattle.rg_integers.proofs.Short.{short_in_range}
use Rattle.rg_revised.proofs.Factors.{first_factor, next_factor}
use Rattle.rg_revised.proofs.factor.common_factor.Goals as goal

pub loop-number-init : goal.loop-number-init
loop-number-init c =
    let fits : FitsSigned w64 c.args.d = search rules in
    let d : c.from-factor.result ≡ c.args.d = c.from-factor.ensures ∙ to_z-of_z w64 c.args.d fits in
    let small = short_in_range c.args.d fits in
    record {
      positive = rw (d, back c.args.d small) c.requires.positive;
      greatest = rw (d, back c.args.d small, to_z-of_z w64 c.args.d fits) (first_factor (λ k. unsigned_abs (number_at (c.args.d ∷ c.args.numbers.now) k)));
      in_range = rw (d, back c.args.d small) small;
    }

pub loop-number-preserved : goal.loop-number-preserved
loop-number-preserved c =
    let fd : FitsSigned w64 c.args.d = search rules in
    let d = to_z-of_z w64 c.args.d fd in
    let result = back c.joint_factor-factor.result c.joint_factor-factor.ensures.in_range in
    let fits : FitsSigned w64 (number_at c.args.numbers.now c.loop-number.number-index) = search rules in
    let greatest = rw (to_z-of_z w64 (number_at c.args.numbers.now c.loop-number.number-index) fits) at c.joint_factor-factor.ensures.greatest in
    record {
      positive = rw result c.joint_factor-factor.ensures.positive;
      greatest = rw (result, d, add-one c.loop-number.number-index)
          (next_factor (suc c.loop-number.number-index) (λ k. unsigned_abs (number_at (c.args.d ∷ c.args.numbers.now) k)) (unsigned_abs (cast_signed w128 c.loop-number.factor-bits))
          (unsigned_abs c.joint_factor-factor.result) (rw d at c.loop-number.invariant.greatest) greatest);
      in_range = rw result c.joint_factor-factor.ensures.in_range;
    }

pub returns-clause-factor : goal.returns-clause-factor
returns-clause-factor c =
    let fd : FitsSigned w64 c.args.d = search rules in
    let before = rw (to_z-of_z w64 c.args.d fd) at c.loop-number.invariant.greatest in
    let end : c.loop-number.number-index ≡ length c.args.numbers.now = omega arith in
    record {
      positive = c.loop-number.invariant.positive;
      greatest = subst (λ n. IsGcdBelow (suc n) (λ k. unsigned_abs (number_at (c.args.d ∷ c.args.numbers.now) k)) (unsigned_abs (cast_signed w128 c.loop-number.factor-bits))) end before;
    }
