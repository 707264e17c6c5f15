use Rattle.std.proofs.Common.{◌≡◌, ◌∙◌, slice_get, Some, subst}
use Rattle.rg_genet.proofs.PrintSteps.{name_is, whole_graph}
use Rattle.rg_genet.proofs.print.push_graph.Goals as goal

pub returns-clause-text : goal.returns-clause-text
returns-clause-text c =
    let lts = c.args.lts.now in
    let at = subst (λ s. slice_get lts.state_names s ≡ Some c.state_name.result.now) c.initial.ensures.value c.state_name.ensures in
    whole_graph lts c.arcs.result.now c.as_bytes.result.now c.args.text.now.items c.extend_from_slice.new.self.items c.push_labels.new.text.items
    c.extend_from_slice-2.new.self.items c.push_arcs.new.text.items c.extend_from_slice-3.new.self.items c.extend_from_slice-4.new.self.items c.extend_from_slice-5.new.self.items
    c.arcs.ensures.value (c.as_bytes.ensures.value ∙ name_is lts.state_names lts.initial c.state_name.result.now at)
    c.in_ok-extend_from_slice.ensures.items c.in_ok-push_labels.ensures c.in_ok-extend_from_slice-2.ensures.items c.in_ok-push_arcs.ensures
    c.in_ok-extend_from_slice-3.ensures.items c.in_ok-extend_from_slice-4.ensures.items c.in_ok-extend_from_slice-5.ensures.items
