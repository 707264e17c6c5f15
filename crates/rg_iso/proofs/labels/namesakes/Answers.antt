-- One number more.
use Rattle.rg_iso.proofs.Numbers.{number_more}
use Rattle.rg_iso.proofs.labels.namesakes.Goals as goal

pub loop-t-preserved : goal.loop-t-preserved
loop-t-preserved c =
    let more = number_more c.args.a.now c.args.b.now c.loop-t.numbers.items c.loop-t.t c.in-Some.u c.loop-t.invariant.long c.loop-t.invariant.each
    (c.label_name.result.now, c.label_name.ensures, c.in-Some.ensures.found) c.push.new.self.items c.in_ok-push-in-Some.ensures.items in
    record { long = more.0; each = more.1 }
