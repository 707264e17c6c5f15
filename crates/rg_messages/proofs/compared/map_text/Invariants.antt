use Rattle.std.proofs.Common.{◌≡◌, ◌++◌, drop}
use Rattle.rg_text.specs.Line.{fed}
use Rattle.rg_messages.specs.CheckedTexts.{yes_line}
use Rattle.rg_messages.specs.ComparedTexts.{pair_lines}
use Rattle.rg_messages.proofs.compared.map_text.Given as goal

-- the text so far, and the lines that are left
abbrev pub invariant-loop-s : goal.invariant-loop-s
invariant-loop-s l = l.text.items ++ fed (pair_lines l.a l.b l.s (drop l.s l.states)) ≡ yes_line ++ fed (pair_lines l.a l.b 0 l.states)
