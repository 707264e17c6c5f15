use Rattle.std.proofs.Common.{rules, tests, length, not, ◌==◌}
use Rattle.std.proofs.lemmas.Iterator.Consumers.{map_from_collect, YieldsList-from_filter}
use Rattle.std.proofs.lemmas.Iterator.Splits.{YieldsList-from_slice_split}
use Rattle.rg_text.specs.Byte.{is_blank_byte}
use Rattle.rg_line_formats.proofs.lines.words.Goals as goal

pub returns : goal.returns
returns c =
    map_from_collect _ c.collect.ensures.ran
    (YieldsList-from_filter _ (λ word. not (length word == 0))
    (YieldsList-from_slice_split _ is_blank_byte c.args.line.now (cc (c.filter.ensures.source, c.split.ensures.rest))
    (cc (c.filter.ensures.source, c.split.ensures.done)) (cc (c.filter.ensures.source, c.split.ensures.closure)) (λ x b q k. search (rules, tests)))
    c.filter.ensures.closure (λ x b q k. search (rules, tests)))
