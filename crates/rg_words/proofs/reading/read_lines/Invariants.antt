use Rattle.std.proofs.Common.{◌+◌, ◌≤◌, [], length}
use Rattle.rg_text.specs.Line.{lines}
use Rattle.rg_text.specs.Limits.{most_bytes}
use Rattle.rg_words.specs.Contents.{uses}
use Rattle.rg_words.specs.Reading.{IsDraftOf, Stands, uses_in}
use Rattle.rg_words.proofs.reading.read_lines.Given as goal

abbrev pub invariant-loop-left : goal.invariant-loop-left
invariant-loop-left l = record {
  within : l.number + length l.text ≤ most_bytes + 1;
  draft : IsDraftOf l.tree.builder l.tree.steps.keys;
  stands : Stands (uses l.bytes) (uses_in l.number (lines l.text)) [] l.tree.builder.label_names l.tree.steps.keys 0;
}

abbrev pub decreases-loop-left : goal.decreases-loop-left
decreases-loop-left l = length l.text
