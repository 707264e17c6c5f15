use Rattle.std.proofs.Common.{◌+◌, [], subst}
use Rattle.std.proofs.lemmas.Result.{err_from_is_err_and}
use Rattle.rg_line_formats.specs.Numbered.{lines_left}
use Rattle.std.specs.Option.{option_map}
use Rattle.rg_words.specs.Contents.{uses}
use Rattle.rg_words.specs.Reading.{Stands, uses_in}
use Rattle.rg_words.proofs.reading.read_lines.Goals as goal

pub returns-in_err-take_line-clause-fault : goal.returns-in_err-take_line-clause-fault
returns-in_err-take_line-clause-fault c =
    let p = err_from_is_err_and c.from_residual.result c.from_residual.ensures.1 in
    let all = uses c.args.bytes.now in
    let n = c.loop-left.number in
    let s = subst (λ l. Stands all (uses_in n l) [] c.loop-left.tree.builder.label_names c.loop-left.tree.steps.keys 0) c.cut_line.ensures.lines c.loop-left.invariant.stands in
    rw (p.1, p.2) (λ real. c.in_err-take_line.ensures.fault real all (uses_in (n + 1) (lines_left (option_map (λ s. s.now) c.cut_line.result.1))) s)
