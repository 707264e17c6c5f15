use Rattle.std.proofs.Common.{sym, subst}
use Rattle.rg_apt.specs.Spells.{Spells}
use Rattle.rg_apt.proofs.PrintSteps.{whole_text}
use Rattle.rg_apt.proofs.PlainTexts.{printed_spelled}
use Rattle.rg_apt.proofs.print.print_lts.Goals as goal

pub returns-clause-text : goal.returns-clause-text
returns-clause-text c =
    whole_text c.args.lts.now c.arcs.result.now c.new-text.result.items c.extend_from_slice.new.self.items c.push_states.new.text.items
    c.extend_from_slice-2.new.self.items c.push_labels.new.text.items c.extend_from_slice-3.new.self.items c.push_arcs.new.text.items
    c.arcs.ensures.value c.new-text.ensures.items c.in_ok-extend_from_slice.ensures.items c.in_ok-push_states.ensures
    c.in_ok-extend_from_slice-2.ensures.items c.in_ok-push_labels.ensures c.in_ok-extend_from_slice-3.ensures.items
    c.in_ok-push_arcs.ensures

pub returns-clause-read_again : goal.returns-clause-read_again
returns-clause-read_again c =
    let lts = c.args.lts.now in
    subst (λ t. Spells t lts) (sym (returns-clause-text c)) (printed_spelled lts c.arcs.ensures.well_formed)
