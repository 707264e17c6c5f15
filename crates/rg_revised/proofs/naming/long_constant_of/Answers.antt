use Rattle.std.proofs.Common.{rules, ◌<◌, get_or, refl, subst, sym, ◌∙◌, arith}
use Rattle.std.specs.Prelude.{FitsSigned, ◌*ℤ◌}
use Rattle.std.specs.Int.{w64, w128}
use Rattle.std.proofs.lemmas.Int.{to_z-of_z}
use Rattle.rg_integers.specs.Range.{InRange}
use Rattle.rg_integers.specs.Sum.{number_at}
use Rattle.rg_linear.proofs.MemberIndices.{member_at}
use Rattle.rg_revised.proofs.Sizes.{coefficient_short, constant_short}
use Rattle.rg_revised.proofs.Indices.{next_total, whole_total}
use Rattle.rg_revised.proofs.NamedSums.{part_sum_in_range, next_in_range}
use Rattle.rg_revised.proofs.naming.long_constant_of.Goals as goal

pub overflow_cast-constant : goal.overflow_cast-constant
overflow_cast-constant c =
    let (norm, most, small, within, dw) = c.requires.small in
    let fk : FitsSigned w128 c.args.constant = search rules in
    rw (to_z-of_z w128 c.args.constant fk) (constant_short norm most c.args.coeffs.now c.args.constant small)

pub add_long_product-sum-requires : goal.add_long_product-sum-requires
add_long_product-sum-requires c =
    let (norm, most, small, within, dw) = c.requires.small in
    let fk : FitsSigned w128 c.args.constant = search rules in
    let fd : FitsSigned w64 c.args.d = search rules in
    rw (to_z-of_z w128 c.args.constant fk, to_z-of_z w64 c.args.constant (constant_short norm most c.args.coeffs.now c.args.constant small), to_z-of_z w64 c.args.d fd)
    (part_sum_in_range norm most c.args.coeffs.now c.args.constants.now c.args.constant c.args.d c.args.named.now small c.requires.named c.requires.columns within dw 0)

pub loop-k-init : goal.loop-k-init
loop-k-init c =
    let (norm, most, small, within, dw) = c.requires.small in
    let fk : FitsSigned w128 c.args.constant = search rules in
    let fd : FitsSigned w64 c.args.d = search rules in
    let fz : FitsSigned w128 c.add_long_product-sum.result = search rules in
    let k = to_z-of_z w128 c.args.constant fk in
    let d = to_z-of_z w64 c.args.d fd in
    rw (to_z-of_z w128 c.add_long_product-sum.result fz, k, d)
    (rw (k, to_z-of_z w64 c.args.constant (constant_short norm most c.args.coeffs.now c.args.constant small), d) at c.add_long_product-sum.ensures.value)

pub bounds-coeffs-t : goal.bounds-coeffs-t
bounds-coeffs-t c = subst (λ n. get_or c.args.named.now c.loop-k.k 0 < n) c.requires.columns
    (c.requires.inside (get_or c.args.named.now c.loop-k.k 0) (member_at c.args.named.now c.loop-k.k c.loop-k-test.true))

pub bounds-constants-t : goal.bounds-constants-t
bounds-constants-t c = c.requires.inside (get_or c.args.named.now c.loop-k.k 0) (member_at c.args.named.now c.loop-k.k c.loop-k-test.true)

pub overflow_cast-coeffs : goal.overflow_cast-coeffs
overflow_cast-coeffs c =
    let (norm, most, small, within, dw) = c.requires.small in
    let inside = c.requires.inside (get_or c.args.named.now c.loop-k.k 0) (member_at c.args.named.now c.loop-k.k c.loop-k-test.true) in
    let lt = subst (λ n. get_or c.args.named.now c.loop-k.k 0 < n) c.requires.columns inside in
    let fa : FitsSigned w128 (number_at c.args.coeffs.now (get_or c.args.named.now c.loop-k.k 0)) = search rules in
    rw (to_z-of_z w128 (number_at c.args.coeffs.now (get_or c.args.named.now c.loop-k.k 0)) fa)
    (coefficient_short norm most c.args.coeffs.now c.args.constant small (get_or c.args.named.now c.loop-k.k 0) lt)

pub add_long_product-sum-requires-in-loop-k : goal.add_long_product-sum-requires-in-loop-k
add_long_product-sum-requires-in-loop-k c =
    let (norm, most, small, within, dw) = c.requires.small in
    let inside = c.requires.inside (get_or c.args.named.now c.loop-k.k 0) (member_at c.args.named.now c.loop-k.k c.loop-k-test.true) in
    let lt = subst (λ n. get_or c.args.named.now c.loop-k.k 0 < n) c.requires.columns inside in
    let fk : FitsSigned w128 c.args.constant = search rules in
    let fd : FitsSigned w64 c.args.d = search rules in
    let fa : FitsSigned w128 (number_at c.args.coeffs.now (get_or c.args.named.now c.loop-k.k 0)) = search rules in
    let fx : FitsSigned w64 (number_at c.args.constants.now (get_or c.args.named.now c.loop-k.k 0)) = search rules in
    let short = coefficient_short norm most c.args.coeffs.now c.args.constant small (get_or c.args.named.now c.loop-k.k 0) lt in
    let before = rw (to_z-of_z w128 c.args.constant fk, to_z-of_z w64 c.args.d fd) at c.loop-k.invariant in
    rw (
      to_z-of_z w128 (number_at c.args.coeffs.now (get_or c.args.named.now c.loop-k.k 0)) fa,
      to_z-of_z w64 (number_at c.args.coeffs.now (get_or c.args.named.now c.loop-k.k 0)) short,
      to_z-of_z w64 (number_at c.args.constants.now (get_or c.args.named.now c.loop-k.k 0)) fx,
    )
    (next_in_range norm most c.args.coeffs.now c.args.constants.now c.args.constant c.args.d c.args.named.now small c.requires.named
    c.requires.columns within dw c.loop-k.k _ c.loop-k-test.true before)

pub loop-k-preserved : goal.loop-k-preserved
loop-k-preserved c =
    let (norm, most, small, within, dw) = c.requires.small in
    let inside = c.requires.inside (get_or c.args.named.now c.loop-k.k 0) (member_at c.args.named.now c.loop-k.k c.loop-k-test.true) in
    let lt = subst (λ n. get_or c.args.named.now c.loop-k.k 0 < n) c.requires.columns inside in
    let fk : FitsSigned w128 c.args.constant = search rules in
    let fd : FitsSigned w64 c.args.d = search rules in
    let fz : FitsSigned w128 c.add_long_product-sum-in-loop-k.result = search rules in
    let fa : FitsSigned w128 (number_at c.args.coeffs.now (get_or c.args.named.now c.loop-k.k 0)) = search rules in
    let fx : FitsSigned w64 (number_at c.args.constants.now (get_or c.args.named.now c.loop-k.k 0)) = search rules in
    let short = coefficient_short norm most c.args.coeffs.now c.args.constant small (get_or c.args.named.now c.loop-k.k 0) lt in
    let k = to_z-of_z w128 c.args.constant fk in
    let d = to_z-of_z w64 c.args.d fd in
    let before = rw (k, d) at c.loop-k.invariant in
    let total = rw (
      to_z-of_z w128 (number_at c.args.coeffs.now (get_or c.args.named.now c.loop-k.k 0)) fa,
      to_z-of_z w64 (number_at c.args.coeffs.now (get_or c.args.named.now c.loop-k.k 0)) short,
      to_z-of_z w64 (number_at c.args.constants.now (get_or c.args.named.now c.loop-k.k 0)) fx,
    ) at c.add_long_product-sum-in-loop-k.ensures.value in
    rw (to_z-of_z w128 c.add_long_product-sum-in-loop-k.result fz, k, d)
    (total ∙ next_total (λ t. number_at c.args.coeffs.now t *ℤ number_at c.args.constants.now t) c.args.named.now c.loop-k.k _ _ (c.args.constant *ℤ c.args.d) c.loop-k-test.true before refl)

pub returns-clause-value : goal.returns-clause-value
returns-clause-value c =
    let fk : FitsSigned w128 c.args.constant = search rules in
    let fd : FitsSigned w64 c.args.d = search rules in
    let before = rw (to_z-of_z w128 c.args.constant fk, to_z-of_z w64 c.args.d fd) at c.loop-k.invariant in
    whole_total c.args.coeffs.now c.args.constants.now c.args.named.now c.loop-k.k _ c.args.constant c.args.d c.requires.named c.requires.columns (omega arith) before

pub returns-clause-in_range : goal.returns-clause-in_range
returns-clause-in_range c =
    let (norm, most, small, within, dw) = c.requires.small in
    let fk : FitsSigned w128 c.args.constant = search rules in
    let fd : FitsSigned w64 c.args.d = search rules in
    let before = rw (to_z-of_z w128 c.args.constant fk, to_z-of_z w64 c.args.d fd) at c.loop-k.invariant in
    subst InRange (sym before)
    (part_sum_in_range norm most c.args.coeffs.now c.args.constants.now c.args.constant c.args.d c.args.named.now small c.requires.named c.requires.columns within dw c.loop-k.k)
