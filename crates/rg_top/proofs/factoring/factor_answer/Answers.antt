use Rattle.std.proofs.Common.{Option, IfSome, subst}
use Rattle.rg_checks.specs.declared.flaw.Flaw.{Flaw}
use Rattle.rg_checks.specs.Flaws.{IsFirstFlaw}
use Rattle.rg_messages.specs.FlawTexts.{flaw_line}
use Rattle.rg_top.specs.Factor.{FactorEnds, a_flaw}
use Rattle.rg_top.proofs.Written.{no_so}
use Rattle.rg_top.proofs.factoring.factor_answer.Goals as goal

pub returns-in_ok-text-in-Some : goal.returns-in_ok-text-in-Some
returns-in_ok-text-in-Some g c =
    let lts = c.args.lts.now in
    let flaw = c.in-Some.flaw in
    let first = subst (λ (o : Option Flaw). IfSome o (IsFirstFlaw lts)) c.in-Some.is c.in_ok-flaw.ensures.first in
    no_so (FactorEnds lts c.args.class) c.in_ok-text-in-Some.text.items (flaw_line lts flaw) c.in_ok-text-in-Some.ensures (a_flaw c.args.class flaw first)
