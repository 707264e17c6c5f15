use Rattle.std.proofs.Common.{rules, ◌≡◌, ◌<◌, length, refl, subst, arith}
use Rattle.std.specs.Prelude.{FitsSigned, ◌+ℤ◌, ◌*ℤ◌, slice_index}
use Rattle.std.specs.Int.{w64}
use Rattle.std.proofs.lemmas.Int.{to_z-of_z}
use Rattle.rg_integers.specs.Sum.{number_at}
use Rattle.rg_linear.proofs.TableRows.{length-row, part_is}
use Rattle.rg_linear.specs.Table.{row_at}
use Rattle.rg_revised.proofs.Sizes.{own_at, own_added}
use Rattle.rg_revised.proofs.reading.add_column.Goals as goal

pub add_product-requires-clause-product : goal.add_product-requires-clause-product
add_product-requires-clause-product c =
    let here : slice_index c.args.relations.slots.now c.args.t ≡ c.args.t = search rules in
    let fb : FitsSigned w64 c.args.by = search rules in
    let fd : FitsSigned w64 c.args.relations.d = search rules in
    let b = to_z-of_z w64 c.args.by fb in
    let d = to_z-of_z w64 c.args.relations.d fd in
    let own = c.requires.own in
    let products = c.requires.products in
    let size = length-row (length c.args.numbers.now) c.args.relations.table.now (length c.args.relations.slots.now) c.args.t c.requires.size c.requires.column in
    let lt : c.args.t < length c.args.numbers.now = omega arith in
    rw (b, d) (subst (λ z. FitsSigned w64 (c.args.by *ℤ z))
    (own_at (row_at (length c.args.numbers.now) c.args.relations.table.now c.args.t) c.args.t c.args.relations.d (own here) (omega arith)) (products c.args.t lt))

pub add_product-requires-clause-sum : goal.add_product-requires-clause-sum
add_product-requires-clause-sum c =
    let here : slice_index c.args.relations.slots.now c.args.t ≡ c.args.t = search rules in
    let fb : FitsSigned w64 c.args.by = search rules in
    let fd : FitsSigned w64 c.args.relations.d = search rules in
    let fx : FitsSigned w64 (number_at c.args.numbers.now c.args.t) = search rules in
    let b = to_z-of_z w64 c.args.by fb in
    let d = to_z-of_z w64 c.args.relations.d fd in
    let x = to_z-of_z w64 (number_at c.args.numbers.now c.args.t) fx in
    let own = c.requires.own in
    let sums = c.requires.sums in
    let size = length-row (length c.args.numbers.now) c.args.relations.table.now (length c.args.relations.slots.now) c.args.t c.requires.size c.requires.column in
    let lt : c.args.t < length c.args.numbers.now = omega arith in
    rw (b, d, x) (subst (λ z. FitsSigned w64 (number_at c.args.numbers.now c.args.t +ℤ (c.args.by *ℤ z)))
    (own_at (row_at (length c.args.numbers.now) c.args.relations.table.now c.args.t) c.args.t c.args.relations.d (own here) (omega arith)) (sums c.args.t lt))

pub returns-then-relations-t-clause-added : goal.returns-then-relations-t-clause-added
returns-then-relations-t-clause-added c =
    let here : slice_index c.args.relations.slots.now c.args.t ≡ c.args.t = search rules in
    let fb : FitsSigned w64 c.args.by = search rules in
    let fd : FitsSigned w64 c.args.relations.d = search rules in
    let fx : FitsSigned w64 (number_at c.args.numbers.now c.args.t) = search rules in
    let fz : FitsSigned w64 c.add_product.result = search rules in
    let b = to_z-of_z w64 c.args.by fb in
    let d = to_z-of_z w64 c.args.relations.d fd in
    let x = to_z-of_z w64 (number_at c.args.numbers.now c.args.t) fx in
    let z = to_z-of_z w64 c.add_product.result fz in
    let own = c.requires.own in
    let is = rw (x, b, d) at c.add_product.ensures in
    let size = length-row (length c.args.numbers.now) c.args.relations.table.now (length c.args.relations.slots.now) c.args.t c.requires.size c.requires.column in
    let lt : c.args.t < length c.args.numbers.now = omega arith in
    rw z (own_added c.args.by c.args.relations.d (row_at (length c.args.numbers.now) c.args.relations.table.now c.args.t) c.args.numbers.now c.args.t c.add_product.result (own here) size lt is)

pub is_listed-requires : goal.is_listed-requires
is_listed-requires c =
    let is = part_is (length c.args.numbers.now) c.args.relations.table.now c.args.relations.table.now c.args.t refl in
    rw is c.requires.support

pub add_few-requires-clause-products : goal.add_few-requires-clause-products
add_few-requires-clause-products c =
    let fb : FitsSigned w64 c.args.by = search rules in
    let is = part_is (length c.args.numbers.now) c.args.relations.table.now c.args.relations.table.now c.args.t refl in
    let size = length-row (length c.args.numbers.now) c.args.relations.table.now (length c.args.relations.slots.now) c.args.t c.requires.size c.requires.column in
    rw (to_z-of_z w64 c.args.by fb, is) (λ s lt. c.requires.products s (omega arith))

pub add_row-requires-clause-products : goal.add_row-requires-clause-products
add_row-requires-clause-products c =
    let fb : FitsSigned w64 c.args.by = search rules in
    let is = part_is (length c.args.numbers.now) c.args.relations.table.now c.args.relations.table.now c.args.t refl in
    let size = length-row (length c.args.numbers.now) c.args.relations.table.now (length c.args.relations.slots.now) c.args.t c.requires.size c.requires.column in
    rw (to_z-of_z w64 c.args.by fb, is) (λ s lt. c.requires.products s (omega arith))

pub returns-then-is_listed-clause-added : goal.returns-then-is_listed-clause-added
returns-then-is_listed-clause-added c =
    let fb : FitsSigned w64 c.args.by = search rules in
    let is = part_is (length c.args.numbers.now) c.args.relations.table.now c.args.relations.table.now c.args.t refl in
    rw (to_z-of_z w64 c.args.by fb, is) at c.add_few.ensures

pub returns-then-is_listed-clause-support : goal.returns-then-is_listed-clause-support
returns-then-is_listed-clause-support c =
    let is = part_is (length c.args.numbers.now) c.args.relations.table.now c.args.relations.table.now c.args.t refl in
    rw is at c.is_listed.ensures.right

pub returns-else-is_listed-clause-added : goal.returns-else-is_listed-clause-added
returns-else-is_listed-clause-added c =
    let fb : FitsSigned w64 c.args.by = search rules in
    let is = part_is (length c.args.numbers.now) c.args.relations.table.now c.args.relations.table.now c.args.t refl in
    rw (to_z-of_z w64 c.args.by fb, is) at c.add_row.ensures

pub returns-else-is_listed-clause-support : goal.returns-else-is_listed-clause-support
returns-else-is_listed-clause-support c =
    let is = part_is (length c.args.numbers.now) c.args.relations.table.now c.args.relations.table.now c.args.t refl in
    rw is at c.is_listed.ensures.right
