use Rattle.rg_checks.specs.declared.flaw.Flaw.TheVariants.{Unreachable}
use Rattle.rg_split.specs.Rounds.{labelling}
use Rattle.rg_split.specs.declared.splitting.Splitting.TheVariants as of
use Rattle.rg_messages.specs.FlawTexts.{flaw_line}
use Rattle.rg_messages.specs.SplitTexts.{full_line}
use Rattle.rg_top.specs.Split.{SplitEnds, a_state}
use Rattle.rg_top.proofs.ToldApart.{result_is, solved_by, solved_ends, full_ends, wide_ends}
use Rattle.rg_top.proofs.Written.{no_so}
use Rattle.rg_top.proofs.splitting.split_answer.Goals as goal

pub solved_text-requires : goal.solved_text-requires
solved_text-requires g c =
    let lts = c.args.lts.now in
    let found = c.in-Done in
    solved_by lts found.system found.old c.deref.result.now found.net c.is_well_formed.ensures c.deref.ensures.value
    (result_is lts c.in_ok-system.field-0 (of.Done found.system found.old found.net) found.is c.in_ok-system.ensures.outcome c.in_ok-system.ensures.says)

pub flaw_text-requires : goal.flaw_text-requires
flaw_text-requires g c =
    let lts = c.args.lts.now in
    (result_is lts c.in_ok-system.field-0 (of.Unreachable c.in-Unreachable.s) c.in-Unreachable.is c.in_ok-system.ensures.outcome c.in_ok-system.ensures.says).says

pub returns-in-Done : goal.returns-in-Done
returns-in-Done g c =
    let lts = c.args.lts.now in
    let found = c.in-Done in
    let numbers = c.deref.result.now in
    let solved = solved_by lts found.system found.old numbers found.net c.is_well_formed.ensures c.deref.ensures.value
    (result_is lts c.in_ok-system.field-0 (of.Done found.system found.old found.net) found.is c.in_ok-system.ensures.outcome c.in_ok-system.ensures.says) in
    let made = c.in_ok-text-in-Done in
    solved_ends lts (labelling found.system numbers) found.net c.args.output made.text.items c.is_well_formed.ensures solved made.ensures

pub returns-in-Unreachable : goal.returns-in-Unreachable
returns-in-Unreachable g c =
    let lts = c.args.lts.now in
    let s = c.in-Unreachable.s in
    let result = result_is lts c.in_ok-system.field-0 (of.Unreachable s) c.in-Unreachable.is c.in_ok-system.ensures.outcome c.in_ok-system.ensures.says in
    let made = c.in_ok-text-in-Unreachable in
    no_so (SplitEnds lts c.args.output) made.text.items (flaw_line lts (Unreachable s)) made.ensures (a_state s result.says)

pub returns-in-Full : goal.returns-in-Full
returns-in-Full g c =
    let lts = c.args.lts.now in
    let found = c.in-Full in
    let result = result_is lts c.in_ok-system.field-0 (of.Full found.system found.old found.certificate) found.is c.in_ok-system.ensures.outcome c.in_ok-system.ensures.says in
    let made = c.in_ok-full_text-in-Full in
    no_so (SplitEnds lts c.args.output) made.field-0.items full_line made.ensures (full_ends lts c.args.output found.system found.old found.certificate result)

pub returns : goal.returns
returns g c =
    let lts = c.args.lts.now in
    let found = c.in-TooWide in
    wide_ends lts c.args.output found.system found.old found.at
    (result_is lts c.in_ok-system.field-0 (of.TooWide found.system found.old found.at) found.is c.in_ok-system.ensures.outcome c.in_ok-system.ensures.says)
