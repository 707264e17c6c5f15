use Rattle.std.proofs.Common.{rules, ◌≡◌, ⊎_elim, ℕ, suc, ◌-◌, ◌<◌, List, length, get_or, get_or-set_same, get_or-set_other, refl, subst, sym, ap, ◌∙◌, arith}
use Rattle.std.specs.Prelude.{ℤ, FitsSigned}
use Rattle.std.specs.Int.{w64, w128}
use Rattle.std.proofs.lemmas.Int.{to_z-of_z}
use Rattle.std.proofs.lemmas.List.{get_or_default}
use Rattle.std.proofs.Math.ListN.{set, length-set}
use Rattle.rg_integers.specs.Sum.{number_at}
use Rattle.rg_linear.specs.Table.{row_at}
use Rattle.rg_linear.proofs.Members.{equal_or_not}
use Rattle.rg_revised.specs.Reading.{column_sum}
use Rattle.rg_revised.specs.Supports.{IsSupport, AreSupports, blank}
use Rattle.rg_revised.specs.declared.support.Support.{Support}
use Rattle.rg_revised.proofs.Sizes.{coefficient_fits, constant_fits, term_fits, sum_fits, share_fits, whole_fits}
use Rattle.rg_revised.proofs.ColumnSums.{numbers_within, next_sum, next_zero, read_whole}
use Rattle.rg_revised.proofs.reading.read_row.Goals as goal
use Rattle.rg_revised.proofs.reading.read_row.Goals.{then-by-ne0, else-by-ne0}

-- the support of row t, with any default
support_at : (width n : ℕ) (table : List ℤ) (supports : List Support) (t : ℕ) (d : Support) → AreSupports width table supports → n ≡ width → t < length supports
    → IsSupport (row_at n table t) (get_or supports t d)
support_at width n table supports t d known same lt = rw (same, get_or_default supports t d blank lt) (known t lt)

-- another support of row t is put in its place
supports_set : (width n : ℕ) (table : List ℤ) (supports : List Support) (t : ℕ) (s : Support) → AreSupports width table supports → n ≡ width → t < length supports
    → IsSupport (row_at n table t) s → AreSupports width table (set supports t s)
supports_set width n table supports t s known same lt is v less = ⊎_elim
    (λ e. subst (λ k. IsSupport (row_at width table k) (get_or (set supports t s) k blank)) (sym e) (rw (get_or-set_same supports t s blank lt) (subst (λ w. IsSupport (row_at w table t) s) same is)))
    (λ ne. rw (get_or-set_other supports t v s blank ne) (known v (subst (λ k. v < k) (length-set supports t s) less)))
    (equal_or_not v t)

pub overflow_cast-by : goal.overflow_cast-by
overflow_cast-by c =
    let (norm, most, small, within, dw) = c.requires.small in
    let fw : FitsSigned w128 (number_at c.args.coeffs.now c.loop-t.t) = search rules in
    rw (to_z-of_z w128 (number_at c.args.coeffs.now c.loop-t.t) fw) (coefficient_fits norm most c.args.coeffs.now c.args.constant small c.loop-t.t c.loop-t-test.true)

pub add_column-requires-clause-support : goal.add_column-requires-clause-support
add_column-requires-clause-support c =
    support_at (length c.args.numbers.now) (length c.loop-t.numbers) c.args.relations.table.now c.loop-t.supports c.loop-t.t _ c.loop-t.invariant.known c.loop-t.invariant.same_length (omega arith)

pub add_column-requires-clause-products : goal.add_column-requires-clause-products
add_column-requires-clause-products c = λ s lt.
    let (norm, most, small, within, dw) = c.requires.small in
    let fw : FitsSigned w128 (number_at c.args.coeffs.now c.loop-t.t) = search rules in
    let fit = coefficient_fits norm most c.args.coeffs.now c.args.constant small c.loop-t.t c.loop-t-test.true in
    let same : length c.loop-t.numbers ≡ length c.args.numbers.now = c.loop-t.invariant.same_length in
    rw (to_z-of_z w128 (number_at c.args.coeffs.now c.loop-t.t) fw, to_z-of_z w64 (number_at c.args.coeffs.now c.loop-t.t) fit, same)
    (term_fits norm most c.args.coeffs.now c.args.constant small c.loop-t.t _ c.loop-t-test.true
    (numbers_within (length c.args.numbers.now) (length c.args.relations.slots.now) most c.args.relations.table.now c.requires.size within c.loop-t.t s (omega arith) (omega arith)))

pub add_column-requires-clause-sums : goal.add_column-requires-clause-sums
add_column-requires-clause-sums c = λ s lt.
    let (norm, most, small, within, dw) = c.requires.small in
    let fw : FitsSigned w128 (number_at c.args.coeffs.now c.loop-t.t) = search rules in
    let fit = coefficient_fits norm most c.args.coeffs.now c.args.constant small c.loop-t.t c.loop-t-test.true in
    let same : length c.loop-t.numbers ≡ length c.args.numbers.now = c.loop-t.invariant.same_length in
    let is = c.loop-t.invariant.sums s (omega arith) in
    rw (to_z-of_z w128 (number_at c.args.coeffs.now c.loop-t.t) fw, to_z-of_z w64 (number_at c.args.coeffs.now c.loop-t.t) fit, same, is)
    (sum_fits norm most c.args.coeffs.now c.args.constant small (λ t. number_at (row_at (length c.args.numbers.now) c.args.relations.table.now t) s) (suc c.loop-t.t) (omega arith)
    (λ t below. numbers_within (length c.args.numbers.now) (length c.args.relations.slots.now) most c.args.relations.table.now c.requires.size within t s (omega arith) (omega arith)))

pub loop-t-preserved : goal.loop-t-preserved
loop-t-preserved c =
    let (norm, most, small, within, dw) = c.requires.small in
    let fw : FitsSigned w128 (number_at c.args.coeffs.now c.loop-t.t) = search rules in
    let back = to_z-of_z w128 (number_at c.args.coeffs.now c.loop-t.t) fw in
    let fit = coefficient_fits norm most c.args.coeffs.now c.args.constant small c.loop-t.t c.loop-t-test.true in
    let same : length c.loop-t.numbers ≡ length c.args.numbers.now = c.loop-t.invariant.same_length in
    elim c.if-by-ne0.branch [
      | then-by-ne0 w ↦ (
          let added = rw (back, to_z-of_z w64 (number_at c.args.coeffs.now c.loop-t.t) fit) at w.add_column.ensures.added in
          record {
            same_length = ap length w.numbers-is ∙ added.same_length ∙ same;
            sums = λ s lt. ap (λ xs. number_at xs s) w.numbers-is ∙ next_sum (length c.args.numbers.now) (length c.loop-t.numbers) c.args.coeffs.now c.args.relations.table.now c.loop-t.numbers
                w.add_column.new.numbers c.loop-t.t s same added lt (c.loop-t.invariant.sums s lt) refl;
            known = rw w.supports-is (supports_set (length c.args.numbers.now) (length c.loop-t.numbers) c.args.relations.table.now c.loop-t.supports c.loop-t.t
                w.add_column.new.support c.loop-t.invariant.known same (omega arith) w.add_column.ensures.support);
          })
      | else-by-ne0 w ↦ record {
        same_length = ap length w.numbers-is ∙ same;
        sums = λ s lt. ap (λ xs. number_at xs s) w.numbers-is ∙ next_zero (length c.args.numbers.now) c.args.coeffs.now c.args.relations.table.now c.loop-t.numbers c.loop-t.t s (search rules)
            (c.loop-t.invariant.sums s lt);
        known = rw w.supports-is c.loop-t.invariant.known;
      }
    ]

pub overflow_cast-constant : goal.overflow_cast-constant
overflow_cast-constant c =
    let (norm, most, small, within, dw) = c.requires.small in
    let fw : FitsSigned w128 c.args.constant = search rules in
    rw (to_z-of_z w128 c.args.constant fw) (constant_fits norm most c.args.coeffs.now c.args.constant small)

pub add_product-requires-clause-product : goal.add_product-requires-clause-product
add_product-requires-clause-product c =
    let (norm, most, small, within, dw) = c.requires.small in
    let fw : FitsSigned w128 c.args.constant = search rules in
    let fd : FitsSigned w64 c.args.relations.d = search rules in
    rw (to_z-of_z w128 c.args.constant fw, to_z-of_z w64 c.args.constant (constant_fits norm most c.args.coeffs.now c.args.constant small), to_z-of_z w64 c.args.relations.d fd)
    (share_fits norm most c.args.coeffs.now c.args.constant small c.args.relations.d dw)

pub add_product-requires-clause-sum : goal.add_product-requires-clause-sum
add_product-requires-clause-sum c =
    let (norm, most, small, within, dw) = c.requires.small in
    let fw : FitsSigned w128 c.args.constant = search rules in
    let fd : FitsSigned w64 c.args.relations.d = search rules in
    let fx : FitsSigned w64 (number_at c.loop-t.numbers (length c.loop-t.numbers - 1)) = search rules in
    let same : length c.loop-t.numbers ≡ length c.args.numbers.now = c.loop-t.invariant.same_length in
    let end : c.loop-t.t ≡ length c.args.coeffs.now = omega arith in
    let is = c.loop-t.invariant.sums (length c.loop-t.numbers - 1) (omega arith)
    ∙ ap (λ n. column_sum (length c.args.numbers.now) c.args.coeffs.now c.args.relations.table.now n (length c.loop-t.numbers - 1)) end in
    rw (
      to_z-of_z w128 c.args.constant fw,
      to_z-of_z w64 c.args.constant (constant_fits norm most c.args.coeffs.now c.args.constant small),
      to_z-of_z w64 c.args.relations.d fd,
      to_z-of_z w64
          (number_at c.loop-t.numbers (length c.loop-t.numbers - 1)) fx,
      is,
    )
    (whole_fits norm most c.args.coeffs.now c.args.constant small (λ t. number_at (row_at (length c.args.numbers.now) c.args.relations.table.now t) (length c.loop-t.numbers - 1)) c.args.relations.d
    (λ t below. numbers_within (length c.args.numbers.now) (length c.args.relations.slots.now) most c.args.relations.table.now c.requires.size within t
    (length c.loop-t.numbers - 1) (omega arith) (omega arith)) dw)

pub returns-clause-read : goal.returns-clause-read
returns-clause-read c =
    let (norm, most, small, within, dw) = c.requires.small in
    let fw : FitsSigned w128 c.args.constant = search rules in
    let fd : FitsSigned w64 c.args.relations.d = search rules in
    let fx : FitsSigned w64 (number_at c.loop-t.numbers (length c.loop-t.numbers - 1)) = search rules in
    let fz : FitsSigned w64 c.add_product.result = search rules in
    let same : length c.loop-t.numbers ≡ length c.args.numbers.now = c.loop-t.invariant.same_length in
    let end : c.loop-t.t ≡ length c.args.coeffs.now = omega arith in
    let is = rw (
      to_z-of_z w128 c.args.constant fw,
      to_z-of_z w64 c.args.constant (constant_fits norm most c.args.coeffs.now c.args.constant small),
      to_z-of_z w64 c.args.relations.d fd,
      to_z-of_z w64
          (number_at c.loop-t.numbers (length c.loop-t.numbers - 1)) fx,
    ) at c.add_product.ensures in
    rw (to_z-of_z w64 c.add_product.result fz)
    (read_whole (length c.args.numbers.now) c.args.coeffs.now c.args.constant c.args.relations.table.now c.args.relations.d c.loop-t.numbers c.add_product.result same (omega arith)
    (λ s lt. c.loop-t.invariant.sums s lt ∙ ap (λ n. column_sum (length c.args.numbers.now) c.args.coeffs.now c.args.relations.table.now n s) end) is)
