use Rattle.std.proofs.Common.{take}
use Rattle.rg_line_formats.specs.Parts.{HasArcsOf}
use Rattle.rg_line_formats.proofs.building.add_arcs.Given as goal

abbrev pub invariant-loop-arc : goal.invariant-loop-arc
invariant-loop-arc l = HasArcsOf l.fn.builder l.builder (take l.arc-index l.arcs)
