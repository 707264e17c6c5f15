use Rattle.std.specs.Prelude.{pos, slice_index_or}
use Rattle.std.proofs.lemmas.List.Elements.{All-set}
use Rattle.rg_integers.specs.Range.{InRange}
use Rattle.rg_integers.proofs.Casts.{back}
use Rattle.rg_farkas.proofs.AddendSums.{set_added}
use Rattle.rg_farkas.proofs.summed.add_at.Goals as goal

pub returns-clause-added : goal.returns-clause-added
returns-clause-added c = λ _ q below.
    let own = back (slice_index_or c.args.sums.now c.args.state (pos 0)) (c.requires.sums c.args.state (pos 0) c.if-index-sums.false) in
    let number = back c.args.number c.requires.number in
    let is = rw (own, number) at c.in-Ok.ensures.sum in
    rw (back c.in-Ok.sum c.in-Ok.ensures.in_range) (set_added c.args.sums.now c.args.state q c.args.number c.in-Ok.sum c.if-index-sums.false is)

pub returns-clause-in_range : goal.returns-clause-in_range
returns-clause-in_range c = λ _.
    rw (back c.in-Ok.sum c.in-Ok.ensures.in_range) (All-set InRange c.args.sums.now c.args.state c.in-Ok.sum c.in-Ok.ensures.in_range c.requires.sums)
