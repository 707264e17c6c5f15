use Rattle.std.proofs.Common.{◌≡◌, ◌++◌, drop, map}
use Rattle.rg_text.specs.Line.{fed}
use Rattle.rg_apt.specs.Plain.{arc_line}
use Rattle.rg_apt.proofs.print.push_arcs.Given as goal

-- the text so far, and the lines that are left
abbrev pub invariant-loop-arc : goal.invariant-loop-arc
invariant-loop-arc l =
    l.text.items ++ fed (map (arc_line l.lts) (drop l.arc-index l.arcs)) ≡ l.fn.text.items ++ fed (map (arc_line l.lts) l.arcs)
