use Rattle.std.proofs.Common.{subst, sym, ◌∙◌}
use Rattle.rg_integers.specs.Range.{InRange}
use Rattle.rg_integers.specs.Sum.{number_at}
use Rattle.rg_integers.proofs.Casts.{back}
use Rattle.rg_integers.proofs.Order.{positive_differs}
use Rattle.std.proofs.lemmas.List.{get_or_default}
use Rattle.rg_cycles.proofs.Folding.{term_told}
use Rattle.rg_cycles.proofs.substitution.term_of.Goals as goal

pub returns : goal.returns
returns c =
    let number = c.index.ensures ∙ get_or_default c.args.relation.now.free.items c.args.index c.index.result.now _ c.requires.index in
    let d = back c.args.relation.now.d c.requires.relation_in_range.d in
    let z = back c.index.result.now (subst InRange (sym number) (c.requires.relation_in_range.free c.args.index)) in
    let n = back c.args.count c.requires.count_in_range in
    term_told (number_at c.args.relation.now.free.items c.args.index) c.args.relation.now.d c.args.count c.new-share.result c.new.result c.mul.result
    (positive_differs _ c.requires.relation_in_range.positive) (rw (z, number, d) at c.new-share.ensures) (rw n at c.new.ensures) c.mul.ensures.product
