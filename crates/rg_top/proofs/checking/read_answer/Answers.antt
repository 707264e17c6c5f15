use Rattle.std.proofs.Common.{Ok, Err, subst, sym, ap}
use Rattle.rg_net_verdict.specs.declared.verdict.NetVerdict.{NetVerdict}
use Rattle.rg_net_verdict.specs.Verdict.{IsVerdict}
use Rattle.rg_messages.specs.CheckedTexts.{yes_line, no_line}
use Rattle.rg_net_verdict.specs.declared.verdict.CheckWide.{CheckWide}
use Rattle.rg_top.specs.End.{shows_term}
use Rattle.rg_top.specs.Terms.{of_check}
use Rattle.rg_top.specs.Requests.{TellsNet, yes, no, passes}
use Rattle.rg_top.proofs.Written.{yes_so, no_so}
use Rattle.rg_top.proofs.checking.read_answer.Goals as goal

pub returns-in_ok-yes_text-in-Ok-Yes : goal.returns-in_ok-yes_text-in-Ok-Yes
returns-in_ok-yes_text-in-Ok-Yes c =
    let lts = c.args.lts.now in
    let net = c.args.net.now in
    let judged = subst (λ (v : NetVerdict). IsVerdict lts net c.args.class (Ok v)) c.in-Ok-Yes.field-0-is c.in-Ok-Yes.ensures.verdict in
    let sound = c.verdict_is_sound.ensures.yes lts net c.args.class c.is_well_formed.ensures.in_range c.requires judged in
    let made = c.in_ok-yes_text-in-Ok-Yes in
    yes_so (TellsNet net c.args.class lts) made.field-0.items yes_line made.ensures
    (yes judged sound.0 sound.1 (c.in-Ok-Yes.ensures.in_range c.in-Ok-Yes.field-0-is))

pub returns-in_ok-check_text-in-Ok-No : goal.returns-in_ok-check_text-in-Ok-No
returns-in_ok-check_text-in-Ok-No c =
    let lts = c.args.lts.now in
    let net = c.args.net.now in
    let found = c.in-Ok-No.no in
    let judged = subst (λ (v : NetVerdict). IsVerdict lts net c.args.class (Ok v)) c.in-Ok-No.field-0-is c.in-Ok-No.ensures.verdict in
    let made = c.in_ok-check_text-in-Ok-No in
    no_so (TellsNet net c.args.class lts) made.field-0.items (no_line lts found) made.ensures
    (no found judged (c.verdict_is_sound.ensures.no lts net c.args.class found c.is_well_formed.ensures.in_range c.requires judged))

pub returns-in-Err-Wide : goal.returns-in-Err-Wide
returns-in-Err-Wide c =
    let at = c.in-Err-Wide.at in
    subst (λ (w : CheckWide). TellsNet c.args.net.now c.args.class c.args.lts.now (shows_term (of_check w))) (sym c.in-Err-Wide.at-is)
    (passes at (c.in-Err-Wide.ensures.wide at (ap Err c.in-Err-Wide.field-0-is)))
