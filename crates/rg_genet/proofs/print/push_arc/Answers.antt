use Rattle.std.proofs.Common.{◌∙◌}
use Rattle.rg_genet.proofs.PrintSteps.{arc_text, name_is}
use Rattle.rg_genet.proofs.print.push_arc.Goals as goal

pub returns : goal.returns
returns c =
    let lts = c.args.lts.now in
    let a = c.args.arc in
    arc_text lts a c.args.text.now.items c.extend_from_slice.new.self.items c.push.new.self.items
    c.extend_from_slice-2.new.self.items c.push-2.new.self.items c.extend_from_slice-3.new.self.items c.push-3.new.self.items
    c.as_bytes.result.now c.as_bytes-2.result.now c.as_bytes-3.result.now
    (c.as_bytes.ensures.value ∙ name_is lts.state_names a.from c.state_name.result.now c.state_name.ensures)
    (c.as_bytes-2.ensures.value ∙ name_is lts.label_names a.label c.label_name.result.now c.label_name.ensures)
    (c.as_bytes-3.ensures.value ∙ name_is lts.state_names a.to c.state_name-2.result.now c.state_name-2.ensures)
    c.in_ok-extend_from_slice.ensures.items c.in_ok-push.ensures.items c.in_ok-extend_from_slice-2.ensures.items
    c.in_ok-push-2.ensures.items c.in_ok-extend_from_slice-3.ensures.items c.in_ok-push-3.ensures.items
