use Rattle.std.proofs.Common.{◌+◌, ◌≤◌, List, length}
use Rattle.rg_text.specs.Limits.{most_bytes}
use Rattle.rg_line_formats.specs.Numbered.{Line}
use Rattle.rg_genet.specs.Reading.{IsMarkNamed, ReadsTo, Shows, lines_from}
use Rattle.rg_genet.proofs.reading.read_body.Given as goal

abbrev pub invariant-loop-text : goal.invariant-loop-text
invariant-loop-text l = record {
  within : l.left.number + length l.left.text.now ≤ most_bytes + 1;
  named : IsMarkNamed l.graph.marking;
  goes : (before : List Line) × ReadsTo (lines_from l.fn.body.number l.fn.body.text.now) before (lines_from l.left.number l.left.text.now)
      × Shows before l.graph.builder l.graph.has_arcs l.graph.marking;
}

abbrev pub decreases-loop-text : goal.decreases-loop-text
decreases-loop-text l = length l.left.text.now
