use Rattle.std.proofs.Common.{take}
use Rattle.rg_apt.specs.Contents.{Declared, arc_fault}
use Rattle.rg_apt.specs.View.{arc_in, arcs_in}
use Rattle.rg_apt.specs.Built.{HasLabels, HasArcs}
use Rattle.rg_text.proofs.Left.{LeftAt}
use Rattle.rg_apt.proofs.building.add_arcs.Given as goal

-- the arcs so far are there, without a fault
abbrev pub invariant-loop-arc : goal.invariant-loop-arc
invariant-loop-arc l = record {
  has : (d : Declared) → HasLabels d.states d.labels l.fn.builder → HasArcs d (arcs_in l.bytes (take l.arc-index l.arcs)) l.builder;
  left : (d : Declared) → HasLabels d.states d.labels l.fn.builder → LeftAt (arc_in l.bytes) (arc_fault d) l.arcs l.arc-index;
}
