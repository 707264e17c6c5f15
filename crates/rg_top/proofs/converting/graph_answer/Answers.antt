use Rattle.std.proofs.Common.{List, ℕ, Err, ap, subst}
use Rattle.rg_theory.specs.System.{System}
use Rattle.rg_genet.specs.Same.{IsSameByNames}
use Rattle.rg_genet.specs.Spells.{Spells}
use Rattle.rg_genet.specs.Text.{graph_text}
use Rattle.rg_commands.specs.declared.forms.Target.TheVariants.{Graph}
use Rattle.rg_messages.specs.LostTexts.{lost_label_line, lost_state_line}
use Rattle.rg_top.specs.Convert.{ConvertEnds, as_graph, label_lost, state_lost}
use Rattle.rg_top.proofs.Written.{yes_so, no_so}
use Rattle.rg_top.proofs.converting.graph_answer.Goals as goal

pub label_loss_text-requires : goal.label_loss_text-requires
label_loss_text-requires c =
    c.loss_has_name.ensures.label c.args.lts.now c.in-Err-Label.t ((c.in-Err-Label.ensures.label c.in-Err-Label.t).0 (ap Err c.in-Err-Label.field-0-is))

pub state_loss_text-requires : goal.state_loss_text-requires
state_loss_text-requires c =
    c.loss_has_name.ensures.state c.args.lts.now c.in-Err-State.s ((c.in-Err-State.ensures.state c.in-Err-State.s).0 (ap Err c.in-Err-State.field-0-is))

pub returns-in-Ok : goal.returns-in-Ok
returns-in-Ok c =
    let lts = c.args.lts.now in
    let again = subst (λ (text : List ℕ). (read : System) × Spells text read × IsSameByNames lts read) c.in-Ok.ensures.text c.in-Ok.ensures.read_again in
    yes_so (ConvertEnds lts Graph) c.in-Ok.text.items (graph_text lts) c.in-Ok.ensures.text (as_graph c.in-Ok.ensures.kept.0 c.in-Ok.ensures.kept.1 again)

pub returns-in_ok-label_loss_text-in-Err-Label : goal.returns-in_ok-label_loss_text-in-Err-Label
returns-in_ok-label_loss_text-in-Err-Label c =
    let lts = c.args.lts.now in
    let t = c.in-Err-Label.t in
    let made = c.in_ok-label_loss_text-in-Err-Label in
    no_so (ConvertEnds lts Graph) made.field-0.items (lost_label_line lts t) made.ensures
    (label_lost t ((c.in-Err-Label.ensures.label t).0 (ap Err c.in-Err-Label.field-0-is)))

pub returns-in_ok-state_loss_text-in-Err-State : goal.returns-in_ok-state_loss_text-in-Err-State
returns-in_ok-state_loss_text-in-Err-State c =
    let lts = c.args.lts.now in
    let s = c.in-Err-State.s in
    let made = c.in_ok-state_loss_text-in-Err-State in
    no_so (ConvertEnds lts Graph) made.field-0.items (lost_state_line lts s) made.ensures
    (state_lost s ((c.in-Err-State.ensures.state s).0 (ap Err c.in-Err-State.field-0-is)))
