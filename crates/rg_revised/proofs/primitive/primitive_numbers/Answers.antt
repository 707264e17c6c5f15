use Rattle.std.proofs.Common.{rules, suc, length, List, [], ◌∷◌, map, ap, ap₂, ◌∙◌, arith}
use Rattle.std.specs.Prelude.{ℤ, FitsSigned}
use Rattle.std.specs.Int.{w64}
use Rattle.std.proofs.lemmas.Int.{to_z-of_z}
use Rattle.std.proofs.lemmas.List.{take_all}
use Rattle.std.proofs.lemmas.List.Elements.{Contains-get_or}
use Rattle.rg_integers.specs.Sum.{number_at}
use Rattle.rg_integers.proofs.Casts.{back}
use Rattle.rg_revised.proofs.Primitives.{d_shown, constant_shown, member_shown, first_shown, range_two, shown_more, range_more, length_more}
use Rattle.rg_revised.proofs.primitive.primitive_numbers.Goals as goal

pub divide_by_factor-requires-clause-divides : goal.divide_by_factor-requires-clause-divides
divide_by_factor-requires-clause-divides c =
    let fits : FitsSigned w64 c.args.d = search rules in
    let common = rw (to_z-of_z w64 c.args.d fits) at c.common_factor-factor.ensures.factor in
    rw (back c.common_factor-factor.result c.common_factor-factor.ensures.in_range, to_z-of_z w64 c.args.d fits) (common.greatest.divides 0 (omega arith))

pub divide_by_factor-requires-2-clause-divides : goal.divide_by_factor-requires-2-clause-divides
divide_by_factor-requires-2-clause-divides c =
    let fits : FitsSigned w64 c.args.d = search rules in
    let fr : FitsSigned w64 (number_at c.args.row.now (length c.args.slots.now)) = search rules in
    let common = rw (to_z-of_z w64 c.args.d fits) at c.common_factor-factor.ensures.factor in
    let width = c.requires.row in
    rw (back c.common_factor-factor.result c.common_factor-factor.ensures.in_range, to_z-of_z w64 (number_at c.args.row.now (length c.args.slots.now)) fr)
    (common.greatest.divides (suc (length c.args.slots.now)) (omega arith))

pub loop-index-init : goal.loop-index-init
loop-index-init c =
    let fits : FitsSigned w64 c.args.d = search rules in
    let d = to_z-of_z w64 c.args.d fits in
    let fr : FitsSigned w64 (number_at c.args.row.now (length c.args.slots.now)) = search rules in
    let common = rw d at c.common_factor-factor.ensures.factor in
    let factor = back c.common_factor-factor.result c.common_factor-factor.ensures.in_range in
    let a = back c.divide_by_factor.result c.divide_by_factor.ensures.in_range in
    let b = back c.divide_by_factor-2.result c.divide_by_factor-2.ensures.in_range in
    let first = rw (factor, d) at c.divide_by_factor.ensures.value in
    let second = rw (factor, to_z-of_z w64 (number_at c.args.row.now (length c.args.slots.now)) fr) at c.divide_by_factor-2.ensures.value in
    let one = rw a at c.in_ok-push.ensures.items in
    let two = rw b at c.in_ok-push-2.ensures.items in
    let items = first_shown c.new-numbers.result.items c.push.new.self.items c.push-2.new.self.items c.divide_by_factor.result c.divide_by_factor-2.result c.new-numbers.ensures.items one two in
    record {
      size = ap (λ (xs : List ℤ). length xs) items;
      in_range = range_two c.push-2.new.self.items c.divide_by_factor.result c.divide_by_factor-2.result items c.divide_by_factor.ensures.in_range c.divide_by_factor-2.ensures.in_range;
      shown = rw d (λ k distinct reduced. items ∙ ap₂ (λ (x : ℤ) (y : ℤ). x ∷ y ∷ [])
          (d_shown c.args.slots.now c.args.d c.args.row.now c.requires.row c.common_factor-factor.result common k distinct reduced c.divide_by_factor.result first)
          (constant_shown c.args.slots.now c.args.d c.args.row.now c.requires.row c.common_factor-factor.result common k distinct reduced c.divide_by_factor-2.result second));
    }

pub primitive_number-number-requires-clause-slot : goal.primitive_number-number-requires-clause-slot
primitive_number-number-requires-clause-slot c = c.requires.members _ (Contains-get_or c.args.members.now c.loop-index.index 0 c.loop-index-test.true)

pub loop-index-preserved : goal.loop-index-preserved
loop-index-preserved c =
    let fits : FitsSigned w64 c.args.d = search rules in
    let d = to_z-of_z w64 c.args.d fits in
    let common = rw d at c.common_factor-factor.ensures.factor in
    let factor = back c.common_factor-factor.result c.common_factor-factor.ensures.in_range in
    let z = back c.primitive_number-number.result c.primitive_number-number.ensures.in_range in
    let value = rw factor at c.primitive_number-number.ensures.value in
    let items = rw z at c.in_ok-push-3.ensures.items in
    let shown = rw d at c.loop-index.invariant.shown in
    record {
      size = length_more c.loop-index.numbers.items c.push-in-loop-index.new.self.items _ c.loop-index.index items c.loop-index.invariant.size;
      in_range = rw items (range_more c.loop-index.numbers.items c.primitive_number-number.result c.loop-index.invariant.in_range c.primitive_number-number.ensures.in_range);
      shown = rw d (λ k distinct reduced. items ∙ shown_more k.coefficient k.d k.constant c.args.members.now c.loop-index.index c.loop-index.numbers.items c.primitive_number-number.result
          c.loop-index-test.true (shown k distinct reduced)
          (member_shown c.args.slots.now c.args.d c.args.row.now c.requires.row c.common_factor-factor.result common k distinct reduced _ c.primitive_number-number.result value));
    }

pub returns-clause-numbers : goal.returns-clause-numbers
returns-clause-numbers c = λ k distinct reduced.
    let fits : FitsSigned w64 c.args.d = search rules in
    let shown = rw (to_z-of_z w64 c.args.d fits) at c.loop-index.invariant.shown in
    shown k distinct reduced ∙ ap (λ ms. k.d ∷ k.constant ∷ map k.coefficient ms) (take_all c.loop-index.index c.args.members.now c.loop-index-test.false)
