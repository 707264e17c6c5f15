-- The finished system is well formed.
use Rattle.rg_lts.specs.Draft.{draft_of}
use Rattle.rg_lts.proofs.Drafts.{finished_fine}
use Rattle.rg_lts.proofs.builder.LtsBuilder.finish.Goals as goal

pub from_parts-requires : goal.from_parts-requires
from_parts-requires c =
    let inside = c.self.inside in
    rw c.in_ok-arcs.ensures (finished_fine (draft_of inside.state_names inside.label_names
    inside.arcs.keys inside.initial) c.in-Some.initial c.self.invariant c.in-Some.is)
