use Rattle.std.proofs.Common.{rules, tests, ◌==◌, ap, ◌∙◌}
use Rattle.std.specs.Slice.Iter.{split_rest, split_done, split_callee}
use Rattle.std.proofs.lemmas.Iterator.{YieldsList-from_take}
use Rattle.std.proofs.lemmas.Iterator.Consumers.{map_from_collect}
use Rattle.std.proofs.lemmas.Iterator.Splits.{YieldsList-from_slice_split}
use Rattle.rg_cert.proofs.lines.first_fields.Goals as goal

pub returns : goal.returns
returns c =
    let source = c.take.ensures.source in
    map_from_collect _ c.collect.ensures.ran
    (YieldsList-from_take {s = c.take.result} 6
    (YieldsList-from_slice_split _ (λ b. b == 32) c.args.line.now (ap split_rest source ∙ c.split.ensures.rest) (ap split_done source ∙ c.split.ensures.done)
    (ap split_callee source ∙ c.split.ensures.closure) (λ x b q k. search (rules, tests))) c.take.ensures.count)
