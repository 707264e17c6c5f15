use Rattle.rg_separate.proofs.DeadLabels.{dead_from_arcs}
use Rattle.rg_separate.proofs.dead.is_dead.Goals as goal

pub returns : goal.returns
returns c =
    let told = c.is_without.ensures in
    let dead = dead_from_arcs c.args.lts.now c.arcs.result.now c.args.t c.arcs.ensures.value in
    (λ yes. dead.0 (told.0 yes), λ none. told.1 (dead.1 none))
