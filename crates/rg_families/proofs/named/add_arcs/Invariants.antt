use Rattle.std.proofs.Common.{take, map}
use Rattle.rg_families.specs.Named.{HasArcs, triple_of}
use Rattle.rg_families.proofs.named.add_arcs.Given as goal

abbrev pub invariant-loop-arc : goal.invariant-loop-arc
invariant-loop-arc l = HasArcs l.fn.builder l.builder (take l.arc-index (map triple_of l.arcs))
