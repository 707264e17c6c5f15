use Rattle.std.proofs.Common.{◌≡◌, ◌++◌, drop}
use Rattle.rg_text.specs.Line.{fed}
use Rattle.rg_apt.proofs.print.push_labels.Given as goal

-- the text so far, and the lines that are left
abbrev pub invariant-loop-t : goal.invariant-loop-t
invariant-loop-t l = l.text.items ++ fed (drop l.t l.lts.label_names) ≡ l.fn.text.items ++ fed l.lts.label_names
