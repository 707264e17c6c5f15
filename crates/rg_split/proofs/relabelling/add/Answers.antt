use Rattle.std.proofs.Common.{slice_set, ap, sym, ◌∙◌, pos, arith}
use Rattle.std.proofs.lemmas.Option.{slice_get_within}
use Rattle.rg_integers.specs.Sum.{number_at}
use Rattle.rg_lts.proofs.OrderedArcs.{ordered_from}
use Rattle.rg_verify.proofs.Arcs.{found_at, not_there}
use Rattle.rg_split.proofs.ArcNumbers.{added_none, set_added, sum_read}
use Rattle.rg_split.proofs.relabelling.add.Goals as goal

pub returns-in-Ok : goal.returns-in-Ok
returns-in-Ok c =
    let arcs = c.args.arcs.now in
    let sums = c.args.sums.now in
    let at = found_at arcs c.args.arc.now c.in-Ok.index c.in-Ok.ensures.bound c.in-Ok.ensures.position in
    let lt = slice_get_within arcs c.in-Ok.index c.args.arc.now at in
    let each = c.requires.each in
    ap (slice_set sums c.in-Ok.index) (sum_read (number_at sums c.in-Ok.index) c.args.multiplier
    (c.requires.in_range c.in-Ok.index (pos 0) (omega arith)) c.ranges.multiplier (c.requires.fits c.in-Ok.index at))
    ∙ set_added c.args.arc.now c.args.multiplier arcs sums c.in-Ok.index (ordered_from arcs c.requires.order) each at

pub returns-in_default : goal.returns-in_default
returns-in_default c =
    sym (added_none c.args.arc.now c.args.multiplier c.args.arcs.now c.args.sums.now c.requires.each
    (not_there c.args.arcs.now c.args.arc.now c.in_default.field-0 c.requires.order c.in_default.ensures.position))
