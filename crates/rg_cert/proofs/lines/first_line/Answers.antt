use Rattle.std.proofs.Common.{◌<◌, length, arith}
use Rattle.rg_cert.proofs.Cuts.{whole_run, first_cut}
use Rattle.rg_cert.proofs.lines.first_line.Goals as goal

pub returns-then-at-text-clause-none : goal.returns-then-at-text-clause-none
returns-then-at-text-clause-none c = whole_run 10 c.args.text.now c.len_before-at.result c.len_before-at.ensures.value c.if-at-text.true

pub returns-clause-some : goal.returns-clause-some
returns-clause-some c =
    let less : c.len_before-at.result < length c.args.text.now = omega (arith, c.len_before-at.ensures.within, c.if-at-text.false) in
    first_cut 10 c.args.text.now c.len_before-at.result c.len_before-at.ensures.value less
