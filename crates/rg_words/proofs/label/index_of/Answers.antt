use Rattle.rg_words.proofs.Steps.{fresh, pair_eq, pair_itself}
use Rattle.rg_words.proofs.label.index_of.Goals as goal

pub returns-clause-new : goal.returns-clause-new
returns-clause-new c =
    fresh pair_eq pair_itself c.args.steps.now.keys c.insert_full.new.self.keys (c.args.state, c.args.label) c.in_ok-insert_full.field-0.0 c.in_ok-insert_full.field-0.1
    c.in_ok-insert_full.ensures.added c.in_ok-insert_full.ensures.keys c.in_ok-insert_full.ensures.index
