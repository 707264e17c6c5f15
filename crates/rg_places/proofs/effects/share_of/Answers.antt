use Rattle.std.proofs.Common.{subst, sym, ◌∙◌}
use Rattle.std.proofs.lemmas.List.{get_or_default}
use Rattle.rg_integers.specs.Range.{InRange}
use Rattle.rg_integers.specs.Sum.{number_at}
use Rattle.rg_integers.proofs.Casts.{back, zero_of_bits}
use Rattle.rg_integers.proofs.Order.{positive_differs}
use Rattle.rg_places.proofs.FractionSteps.{share_step, share_of_no_value, share_of_no_number}
use Rattle.rg_places.proofs.effects.share_of.Goals as goal

pub returns-then-numerator-eq0 : goal.returns-then-numerator-eq0
returns-then-numerator-eq0 c =
    let none = sym c.numerator.ensures.value ∙ zero_of_bits c.numerator.result c.numerator.ensures.in_range c.if-numerator-eq0.true in
    share_of_no_value (number_at c.args.relation.now.free.items c.args.column.now.index) c.args.relation.now.d c.args.column.now.value c.new.result
    (positive_differs _ c.requires.in_range.positive) (c.requires.in_range.free c.args.column.now.index) c.requires.in_range.d none c.new.ensures

pub returns-then-number-eq0 : goal.returns-then-number-eq0
returns-then-number-eq0 c =
    let number = c.index-number.ensures ∙ get_or_default c.args.relation.now.free.items c.args.column.now.index c.index-number.result.now _ c.requires.index in
    let none = sym number ∙ zero_of_bits c.index-number.result.now (subst InRange (sym number) (c.requires.in_range.free c.args.column.now.index)) c.if-number-eq0.true in
    share_of_no_number (number_at c.args.relation.now.free.items c.args.column.now.index) c.args.relation.now.d c.args.column.now.value
    c.new-then-number-eq0.result (positive_differs _ c.requires.in_range.positive) none c.new-then-number-eq0.ensures

pub returns : goal.returns
returns c =
    let number = c.index-number.ensures ∙ get_or_default c.args.relation.now.free.items c.args.column.now.index c.index-number.result.now _ c.requires.index in
    let d = back c.args.relation.now.d c.requires.in_range.d in
    let z = back c.index-number.result.now (subst InRange (sym number) (c.requires.in_range.free c.args.column.now.index)) in
    share_step (number_at c.args.relation.now.free.items c.args.column.now.index) c.args.relation.now.d c.args.column.now.value c.new-2.result
    c.mul.result (positive_differs _ c.requires.in_range.positive) (rw (z, number, d) at c.new-2.ensures) c.mul.ensures.product
