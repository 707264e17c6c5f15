use Rattle.std.proofs.Common.{◌≡◌, map, take}
use Rattle.rg_cert_data.specs.Trees.{named_row}
use Rattle.rg_split.specs.Parts.{arc_multiplier}
use Rattle.rg_split.proofs.relabelling.multipliers.Given as goal

abbrev pub invariant-loop-name : goal.invariant-loop-name
invariant-loop-name l = l.sums.items ≡ map (arc_multiplier (map named_row (take l.name-index l.rows))) l.arcs
