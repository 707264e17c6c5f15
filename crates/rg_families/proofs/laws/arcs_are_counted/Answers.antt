use Rattle.rg_families.proofs.ArcCounts.{grid_arcs, doubling_arcs}
use Rattle.rg_families.proofs.laws.arcs_are_counted.Goals as goal

pub returns : goal.returns
returns c = record { grid = grid_arcs; doubling = doubling_arcs }
