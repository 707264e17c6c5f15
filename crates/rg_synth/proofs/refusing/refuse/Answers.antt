use Rattle.std.proofs.Common.{rules}
use Rattle.rg_checks.specs.Flaws.{IsFlawless}
use Rattle.rg_synth.proofs.Answers.{ok_refused, ok_unrefused, no_numbers}
use Rattle.rg_synth.proofs.refusing.refuse.Goals as goal

pub flaw_certificate-certificate-requires-clause-bound : goal.flaw_certificate-certificate-requires-clause-bound
flaw_certificate-certificate-requires-clause-bound g c = no_numbers

pub returns-in-None-clause-refused : goal.returns-in-None-clause-refused
returns-in-None-clause-refused g c =
    let flawless : IsFlawless c.args.lts.now = search rules in
    ok_refused c.args.lts.now c.is_well_formed.ensures.in_range flawless c.find_refusal.result c.find_refusal.ensures.refused

pub returns-in-None-clause-not_refused : goal.returns-in-None-clause-not_refused
returns-in-None-clause-not_refused g c =
    let flawless : IsFlawless c.args.lts.now = search rules in
    ok_unrefused c.args.lts.now c.is_well_formed.ensures.in_range flawless c.find_refusal.result c.find_refusal.ensures.not_refused
