use Rattle.std.proofs.Common.{refl}
use Rattle.std.proofs.lemmas.Result.{IfOk-weaker}
use Rattle.rg_words.proofs.Going.{all_there}
use Rattle.rg_words.proofs.reading.read_words.Goals as goal

pub returns-clause-ok : goal.returns-clause-ok
returns-clause-ok c =
    let tree = c.read_lines.new.tree in
    IfOk-weaker c.finish.result _ _
    (λ lts h. all_there c.args.bytes.now _ tree.steps.keys tree.builder lts c.in_ok-read_lines.ensures.ok refl c.in_ok-read_lines.ensures.draft h.0 h.1) c.finish.ensures.ok
