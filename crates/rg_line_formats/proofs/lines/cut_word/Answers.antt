use Rattle.std.proofs.Common.{◌-◌, length, take, drop, refl, sym, ◌∙◌, arith}
use Rattle.std.proofs.lemmas.List.{length-take}
use Rattle.rg_line_formats.proofs.WordCuts.{no_word, first_word, is_none, is_some}
use Rattle.rg_line_formats.proofs.lines.cut_word.Goals as goal

pub returns-then-is_empty-clause-none : goal.returns-then-is_empty-clause-none
returns-then-is_empty-clause-none c =
    let line = c.args.line.now in
    let n = c.blanks_before.result in
    no_word line n c.blanks_before.ensures.value (is_none (length (take (length line - n) (drop n line))) (sym c.is_empty.ensures ∙ c.if-is_empty.true))

pub returns-clause-words : goal.returns-clause-words
returns-clause-words c =
    let line = c.args.line.now in
    let n = c.blanks_before.result in
    let text = take (length line - n) (drop n line) in
    let cut = first_word line text n c.word_len-at.result c.blanks_before.ensures.value refl (is_some (length text) (sym c.is_empty.ensures ∙ c.if-is_empty.false)) c.word_len-at.ensures.value in
    cut.2

pub returns-clause-some : goal.returns-clause-some
returns-clause-some c =
    let line = c.args.line.now in
    let n = c.blanks_before.result in
    let text = take (length line - n) (drop n line) in
    let cut = first_word line text n c.word_len-at.result c.blanks_before.ensures.value refl (is_some (length text) (sym c.is_empty.ensures ∙ c.if-is_empty.false)) c.word_len-at.ensures.value in
    omega (arith, cut.0, cut.1, length-take c.word_len-at.result text)
