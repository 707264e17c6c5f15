use Rattle.std.proofs.Common.{rules, ◌≡◌, suc, ◌-◌, ◌<◌, length, refl, ap, sym, ◌∙◌, arith}
use Rattle.std.specs.Prelude.{FitsSigned}
use Rattle.std.specs.Int.{w64, w128}
use Rattle.std.proofs.lemmas.Int.{to_z-of_z}
use Rattle.rg_integers.specs.Sum.{number_at}
use Rattle.rg_linear.specs.Table.{row_at}
use Rattle.rg_linear.proofs.TableRows.{row_is, length-row}
use Rattle.rg_revised.specs.Reading.{column_sum}
use Rattle.rg_revised.proofs.Sizes.{coefficient_short, constant_short, part_in_range, whole_in_range}
use Rattle.rg_revised.proofs.ColumnSums.{numbers_within, next_sum, next_zero, read_whole, read_in_range}
use Rattle.rg_revised.proofs.long_reading.sum_row.Goals as goal
use Rattle.rg_revised.proofs.long_reading.sum_row.Goals.{then-by-ne0, else-by-ne0}

pub overflow_cast-by : goal.overflow_cast-by
overflow_cast-by c =
    let (norm, most, small, within, dw) = c.requires.small in
    let fw : FitsSigned w128 (number_at c.args.coeffs.now c.loop-t.t) = search rules in
    rw (to_z-of_z w128 (number_at c.args.coeffs.now c.loop-t.t) fw) (coefficient_short norm most c.args.coeffs.now c.args.constant small c.loop-t.t c.loop-t-test.true)

pub add_long_row-requires-clause-sums : goal.add_long_row-requires-clause-sums
add_long_row-requires-clause-sums c = λ s lt.
    let (norm, most, small, within, dw) = c.requires.small in
    let fw : FitsSigned w128 (number_at c.args.coeffs.now c.loop-t.t) = search rules in
    let fit = coefficient_short norm most c.args.coeffs.now c.args.constant small c.loop-t.t c.loop-t-test.true in
    let cleared = c.clear_long.ensures.same_length in
    let is = row_is (length c.args.sums.now) c.args.table.now c.loop-t.t _ refl in
    let width = length-row (length c.args.sums.now) c.args.table.now (length c.args.coeffs.now) c.loop-t.t c.requires.size c.loop-t-test.true in
    let less : s < length c.args.sums.now = rw (cleared, ← is, width) at lt in
    rw (cleared, to_z-of_z w128 (number_at c.args.coeffs.now c.loop-t.t) fw, to_z-of_z w64 (number_at c.args.coeffs.now c.loop-t.t) fit, ← is, c.loop-t.invariant.sums s less)
    (part_in_range norm most c.args.coeffs.now c.args.constant small (λ t. number_at (row_at (length c.args.sums.now) c.args.table.now t) s) (suc c.loop-t.t) (omega arith)
    (λ t below. numbers_within (length c.args.sums.now) (length c.args.coeffs.now) most c.args.table.now c.requires.size within t s below less))

pub loop-t-preserved : goal.loop-t-preserved
loop-t-preserved c =
    let (norm, most, small, within, dw) = c.requires.small in
    let fw : FitsSigned w128 (number_at c.args.coeffs.now c.loop-t.t) = search rules in
    let back = to_z-of_z w128 (number_at c.args.coeffs.now c.loop-t.t) fw in
    let fit = coefficient_short norm most c.args.coeffs.now c.args.constant small c.loop-t.t c.loop-t-test.true in
    let same : length c.loop-t.sums ≡ length c.args.sums.now = c.loop-t.invariant.same_length in
    let cleared = c.clear_long.ensures.same_length in
    let is = row_is (length c.args.sums.now) c.args.table.now c.loop-t.t _ refl in
    elim c.if-by-ne0.branch [
      | then-by-ne0 w ↦ (
          let added = rw (cleared, back, to_z-of_z w64 (number_at c.args.coeffs.now c.loop-t.t) fit, ← is) at w.add_long_row.ensures in
          record {
            same_length = ap length w.sums-is ∙ added.same_length ∙ same;
            sums = λ s lt. ap (λ xs. number_at xs s) w.sums-is ∙ next_sum (length c.args.sums.now) (length c.args.sums.now) c.args.coeffs.now c.args.table.now c.loop-t.sums
                w.add_long_row.new.sums c.loop-t.t s refl added lt (c.loop-t.invariant.sums s lt) same;
          })
      | else-by-ne0 w ↦ record {
        same_length = ap length w.sums-is ∙ same;
        sums = λ s lt. ap (λ xs. number_at xs s) w.sums-is ∙ next_zero (length c.args.sums.now) c.args.coeffs.now c.args.table.now c.loop-t.sums c.loop-t.t s (search rules)
            (c.loop-t.invariant.sums s lt);
      }
    ]

pub overflow_cast-constant : goal.overflow_cast-constant
overflow_cast-constant c =
    let (norm, most, small, within, dw) = c.requires.small in
    let fw : FitsSigned w128 c.args.constant = search rules in
    rw (to_z-of_z w128 c.args.constant fw) (constant_short norm most c.args.coeffs.now c.args.constant small)

pub add_long_product-requires : goal.add_long_product-requires
add_long_product-requires c =
    let (norm, most, small, within, dw) = c.requires.small in
    let fw : FitsSigned w128 c.args.constant = search rules in
    let fd : FitsSigned w64 c.args.d = search rules in
    let fx : FitsSigned w128 (number_at c.loop-t.sums (length c.args.sums.now - 1)) = search rules in
    let end : c.loop-t.t ≡ length c.args.coeffs.now = omega arith in
    let last : length c.args.sums.now - 1 < length c.args.sums.now = (let some = c.requires.width in omega arith) in
    let is = c.loop-t.invariant.sums (length c.args.sums.now - 1) last
    ∙ ap (λ n. column_sum (length c.args.sums.now) c.args.coeffs.now c.args.table.now n (length c.args.sums.now - 1)) end in
    rw (
      c.clear_long.ensures.same_length,
      to_z-of_z w128 c.args.constant fw,
      to_z-of_z w64 c.args.constant (constant_short norm most c.args.coeffs.now c.args.constant small),
      to_z-of_z w64 c.args.d fd,
      to_z-of_z w128 (number_at c.loop-t.sums (length c.args.sums.now - 1)) fx,
      is,
    )
    (whole_in_range norm most c.args.coeffs.now c.args.constant small (λ t. number_at (row_at (length c.args.sums.now) c.args.table.now t) (length c.args.sums.now - 1)) c.args.d
    (λ t below. numbers_within (length c.args.sums.now) (length c.args.coeffs.now) most c.args.table.now c.requires.size within t (length c.args.sums.now - 1) below last) dw)

pub returns-clause-read : goal.returns-clause-read
returns-clause-read c =
    let (norm, most, small, within, dw) = c.requires.small in
    let fw : FitsSigned w128 c.args.constant = search rules in
    let fd : FitsSigned w64 c.args.d = search rules in
    let fx : FitsSigned w128 (number_at c.loop-t.sums (length c.args.sums.now - 1)) = search rules in
    let fz : FitsSigned w128 c.add_long_product.result = search rules in
    let same : length c.loop-t.sums ≡ length c.args.sums.now = c.loop-t.invariant.same_length in
    let end : c.loop-t.t ≡ length c.args.coeffs.now = omega arith in
    let is = rw (
      c.clear_long.ensures.same_length,
      to_z-of_z w128 c.args.constant fw,
      to_z-of_z w64 c.args.constant (constant_short norm most c.args.coeffs.now c.args.constant small),
      to_z-of_z w64 c.args.d fd,
      to_z-of_z w128 (number_at c.loop-t.sums (length c.args.sums.now - 1)) fx,
      ← same,
    ) at c.add_long_product.ensures.value in
    rw (c.clear_long.ensures.same_length, to_z-of_z w128 c.add_long_product.result fz, ap (λ n. n - 1) (sym same))
    (read_whole (length c.args.sums.now) c.args.coeffs.now c.args.constant c.args.table.now c.args.d c.loop-t.sums c.add_long_product.result same c.requires.width
    (λ s lt. c.loop-t.invariant.sums s lt ∙ ap (λ n. column_sum (length c.args.sums.now) c.args.coeffs.now c.args.table.now n s) end) is)

pub returns-clause-in_range : goal.returns-clause-in_range
returns-clause-in_range c =
    let (norm, most, small, within, dw) = c.requires.small in
    read_in_range (length c.args.sums.now) norm most c.args.coeffs.now c.args.constant c.args.table.now c.args.d _ (returns-clause-read c) small c.requires.size within dw
