use Rattle.rg_line_formats.proofs.Cuts.{one_line, more_lines}
use Rattle.std.proofs.Common.{◌<◌, length, arith}
use Rattle.rg_line_formats.proofs.lines.cut_line.Goals as goal

pub returns-then-at-text-clause-lines : goal.returns-then-at-text-clause-lines
returns-then-at-text-clause-lines c = one_line c.args.text.now c.len_before-at.result c.len_before-at.ensures.value c.if-at-text.true

pub returns-else-at-text-clause-lines : goal.returns-else-at-text-clause-lines
returns-else-at-text-clause-lines c =
    let less : c.len_before-at.result < length c.args.text.now = omega (arith, c.len_before-at.ensures.within, c.if-at-text.false) in
    more_lines c.args.text.now c.len_before-at.result c.len_before-at.ensures.value less
