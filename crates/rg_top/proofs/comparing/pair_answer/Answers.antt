use Rattle.std.proofs.Common.{Option, IfSome, IfNone, subst}
use Rattle.rg_checks.specs.declared.flaw.Flaw.{Flaw}
use Rattle.rg_checks.specs.Flaws.{IsFlawless, IsFirstFlaw}
use Rattle.rg_messages.specs.FlawTexts.{file_flaw_line}
use Rattle.rg_top.specs.Isomorphic.{PairEnds, first_flawed, second_flawed}
use Rattle.rg_top.proofs.Written.{no_so}
use Rattle.rg_top.proofs.comparing.pair_answer.Goals as goal

pub returns-in-Some-clause-ends : goal.returns-in-Some-clause-ends
returns-in-Some-clause-ends c =
    let a = c.args.a.now in
    let flaw = c.in-Some.flaw in
    let first = subst (λ (o : Option Flaw). IfSome o (IsFirstFlaw a)) c.in-Some.is c.in_ok-flaw.ensures.first in
    no_so (PairEnds a c.args.b.now) c.in_ok-text.text.items (file_flaw_line 1 a flaw) c.in_ok-text.ensures (first_flawed flaw first)

pub returns-in-Some-2-clause-ends : goal.returns-in-Some-2-clause-ends
returns-in-Some-2-clause-ends c =
    let a = c.args.a.now in
    let b = c.args.b.now in
    let flaw = c.in-Some-2.flaw in
    let flawless = subst (λ (o : Option Flaw). IfNone o (IsFlawless a)) c.in_default.is c.in_ok-flaw.ensures.none in
    let first = subst (λ (o : Option Flaw). IfSome o (IsFirstFlaw b)) c.in-Some-2.is c.in_ok-flaw-2.ensures.first in
    no_so (PairEnds a b) c.in_ok-text-2.text.items (file_flaw_line 2 b flaw) c.in_ok-text-2.ensures (second_flawed flaw flawless first)
