use Rattle.std.proofs.Common.{◌∙◌, sym}
use Rattle.rg_checks.proofs.Shutting.{no_step}
use Rattle.rg_verify.proofs.judging.is_shut_out.Goals as goal

pub returns : goal.returns
returns c =
    no_step c.args.lts.now c.in_ok-steps.steps.items c.args.s c.index.result.now c.is_none.result c.requires.in_range c.in_ok-steps.ensures c.requires.state
    (λ e. c.if-s-initial.false (e ∙ sym c.initial.ensures.value)) c.index.ensures c.is_none.ensures
