use Rattle.std.proofs.Common.{ap, ◌∙◌}
use Rattle.rg_report.specs.Facts.{facts_of}
use Rattle.rg_top.specs.Examine.{report_text, ExamineEnds, reported}
use Rattle.rg_top.proofs.Written.{yes_so}
use Rattle.rg_top.proofs.examining.report_answer.Goals as goal

pub returns : goal.returns
returns c =
    let lts = c.args.lts.now in
    let how = c.args.output in
    let found = c.in_ok-found.found in
    yes_so (ExamineEnds how lts) c.in_ok-text.text.items (report_text how (facts_of lts found)) (c.in_ok-text.ensures ∙ ap (report_text how) c.in_ok-report.ensures.facts)
    (reported found c.in_ok-found.ensures)
