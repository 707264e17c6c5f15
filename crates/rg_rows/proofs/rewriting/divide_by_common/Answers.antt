use Rattle.std.proofs.Common.{◌≡◌, ◌<◌, ◌^◌, ◌++◌, ◌∷◌, [], length, max, ap, refl, subst, sym, ◌∙◌, arith}
use Rattle.std.specs.Prelude.{◌↔◌, IsTrue, pos, ◌<ℤ◌, ◌≤ℤ◌, unsigned_abs}
use Rattle.std.specs.Int.{w128, cast_signed, cast_unsigned, int_max}
use Rattle.std.proofs.lemmas.Int.{ints}
use Rattle.rg_integers.specs.Range.{InRange}
use Rattle.rg_integers.proofs.Casts.{back}
use Rattle.rg_integers.proofs.Order.{positive_differs}
use Rattle.rg_fraction.specs.Fractions.{IsValue}
use Rattle.rg_linear.specs.Norm.{row_norm, kept_norm}
use Rattle.rg_linear.specs.Cycle.{IsZeroVector}
use Rattle.rg_fraction.specs.Rows.{IsPrimitivePart}
use Rattle.rg_folds.proofs.FoldLemmas.{new_step}
use Rattle.rg_case_parts.specs.WholeNumbers.{scaled_of}
use Rattle.rg_rows.proofs.Dividing.{written_back, parts_in_range, bigger_is, row_divided}
use Rattle.rg_rows.proofs.rewriting.divide_by_common.Goals as goal

pub invariant_of-result : goal.invariant_of-result
invariant_of-result c =
    let old = c.push.new.self.items in
    let new = c.reduce_by_common-divisor.new.numbers in
    let part = c.reduce_by_common-divisor.ensures.part in
    let whole : c.push.new.self.len ≡ length old = omega arith in
    let given = c.deref_mut.ensures.value in
    let coeffs_are = c.in_ok-coeffs.coeffs.items in
    let constant_is = c.in_ok-coeffs.constant in
    let parted = c.in_ok-coeffs.ensures ∙ c.deref.ensures.value ∙ written_back new old c.push.new.self.len (part.same_length ∙ ap length given) whole in
    let (coeffs, constant) = parts_in_range coeffs_are constant_is new (length c.deref_mut.result.now) parted part.same_length c.reduce_by_common-divisor.ensures.numbers_in_range in
    record {
      coeffs_in_range = coeffs;
      constant_in_range = subst InRange (sym (back constant_is constant)) constant;
      norm_is = c.norm-norm.ensures
          ∙ ap (λ xs. kept_norm (row_norm xs (cast_signed w128 (cast_unsigned w128 constant_is)))) c.deref-2.ensures.value;
      idle_is = subst (λ xs. IsTrue c.always_holds-idle.result ↔ (IsZeroVector xs × (pos 0 ≤ℤ cast_signed w128 (cast_unsigned w128 constant_is)))) c.deref-3.ensures.value
          c.always_holds-idle.ensures;
      numbers_are = c.new-numbers.ensures ∙ sym (ap (λ z. coeffs_are ++ z ∷ []) (back constant_is constant) ∙ c.in_ok-coeffs.ensures ∙ c.deref.ensures.value);
    }

pub returns-clause-comes : goal.returns-clause-comes
returns-clause-comes c =
    let old = c.push.new.self.items in
    let new = c.reduce_by_common-divisor.new.numbers in
    let numbers = c.args.scaled.numbers.items in
    let part = c.reduce_by_common-divisor.ensures.part in
    let whole : c.push.new.self.len ≡ length old = omega arith in
    let given = c.deref_mut.ensures.value in
    let items : old ≡ numbers ++ c.args.constant ∷ [] = c.in_ok-push.ensures.items ∙ ap (λ z. numbers ++ z ∷ []) (back c.args.constant c.requires) in
    let coeffs_are = c.in_ok-coeffs.coeffs.items in
    let constant_is = c.in_ok-coeffs.constant in
    let parted = c.in_ok-coeffs.ensures ∙ c.deref.ensures.value ∙ written_back new old c.push.new.self.len (part.same_length ∙ ap length given) whole in
    let (coeffs, constant) = parts_in_range coeffs_are constant_is new (length c.deref_mut.result.now) parted part.same_length c.reduce_by_common-divisor.ensures.numbers_in_range in
    let divisor = c.reduce_by_common-divisor.result in
    let small = c.reduce_by_common-divisor.ensures.in_range in
    let g = unsigned_abs divisor in
    let size : c.max.result ≡ pos (max g 1) = c.max.ensures.value ∙ ap (λ z. int_max z (pos 1)) (back divisor small) ∙ bigger_is divisor c.reduce_by_common-divisor.ensures.not_negative in
    let fits : InRange (pos (max g 1)) = let s : g < 2 ^ 127 = small in omega (arith, ints) in
    let most = back c.max.result (subst InRange (sym size) fits) ∙ size in
    let value = subst (λ z. IsValue c.new.result z (pos (max g 1))) (back c.args.scaled.multiple c.args.scaled.multiple_in_range)
    (subst (λ z. IsValue c.new.result (cast_signed w128 (cast_unsigned w128 c.args.scaled.multiple)) z) most c.new.ensures) in
    let positive : pos 0 <ℤ pos (max g 1) = omega (arith, ints) in (
      refl,
      row_divided (scaled_of c.args.scaled) c.args.constant new g _
          (subst (λ l. IsPrimitivePart l new g) (given ∙ items) part)
          (ap (λ z. coeffs_are ++ z ∷ []) (back constant_is constant) ∙ parted)
          (new_step c.new.result c.args.scaled.multiple (pos (max g 1)) (positive_differs (pos (max g 1)) positive) value),
    )
