-- A state other than the initial one is met where an arc entered it.
use Rattle.std.proofs.Common.{◌<◌, ◌∙◌, sym, None, length, arith}
use Rattle.std.proofs.lemmas.List.{get_or_default}
use Rattle.rg_spanning.proofs.TreeGrowth.{met_entered}
use Rattle.rg_spanning.proofs.growth.is_met.Goals as goal

pub returns-else-s-initial : goal.returns-else-s-initial
returns-else-s-initial c =
    let growth = c.args.growth.now in
    let within : c.args.s < length growth.entries.items = (let e = c.requires.growing.one_each in let r = c.requires.state in omega arith) in
    let here = c.index.ensures ∙ get_or_default growth.entries.items c.args.s c.index.result.now None within in
    let met = met_entered c.args.lts.now growth.order.items growth.arcs.items growth.entries.items c.requires.growing c.args.s
    (λ e. c.if-s-initial.false (e ∙ sym c.initial.ensures.value)) in
    rw (c.is_some.ensures, here) met
