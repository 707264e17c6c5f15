use Rattle.std.proofs.Common.{Ok, subst, sym}
use Rattle.std.specs.Prelude.{pos}
use Rattle.std.specs.Int.{w128, cast_signed, cast_unsigned}
use Rattle.rg_integers.proofs.Casts.{back}
use Rattle.rg_fraction.proofs.Ones.{is_one}
use Rattle.rg_folds.specs.Fold.{common_multiple}
use Rattle.rg_case_parts.proofs.Multiples.{multiple_with_one}
use Rattle.rg_case_parts.proofs.denominators.common_multiple.Goals as goal

pub returns-then-y-eq1-clause-value : goal.returns-then-y-eq1-clause-value
returns-then-y-eq1-clause-value c =
    let x = c.args.x in
    subst (λ y. common_multiple x y (Ok (cast_signed w128 (cast_unsigned w128 x)))) (sym (is_one c.args.y c.requires.y_in_range c.if-y-eq1.true))
    (subst (λ z. common_multiple x (pos 1) (Ok z)) (sym (back x c.requires.x_in_range)) (multiple_with_one x c.requires.x_in_range))
