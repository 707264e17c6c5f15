use Rattle.std.proofs.Common.{◌≡◌, map, take}
use Rattle.rg_lexer.specs.Lexeme.{lexeme}
use Rattle.rg_apt.specs.Contents.{label_fault}
use Rattle.rg_apt.specs.View.{labels_in}
use Rattle.rg_apt.specs.Built.{label_text}
use Rattle.rg_text.proofs.Left.{LeftAt}
use Rattle.rg_apt.proofs.building.add_labels.Given as goal

-- the labels so far are there, without a fault
abbrev pub invariant-loop-label : goal.invariant-loop-label
invariant-loop-label l = record {
  has : l.builder ≡ record l.fn.builder { label_names = map label_text (labels_in l.bytes (take l.label-index l.labels)) };
  left : LeftAt (lexeme l.bytes) label_fault l.labels l.label-index;
}
