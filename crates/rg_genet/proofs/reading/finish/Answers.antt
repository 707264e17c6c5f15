use Rattle.rg_genet.proofs.Whole.{finished_is}
use Rattle.rg_genet.proofs.reading.finish.Goals as goal

pub returns-in-Ok-clause-ok : goal.returns-in-Ok-clause-ok
returns-in-Ok-clause-ok c =
    finished_is c.args.graph.builder c.mark_state.new.builder c.as_str.result.now c.in-Ok.lts c.in-Some.marking c.args.graph.marking
    c.in_ok-mark_state.ensures.ok c.in-Ok.ensures.ok c.in-Ok.ensures.well_formed c.in-Some.is c.as_str.ensures.value
