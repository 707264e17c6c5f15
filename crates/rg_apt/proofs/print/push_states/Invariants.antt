use Rattle.std.proofs.Common.{◌≡◌, ◌++◌, drop}
use Rattle.rg_text.specs.Line.{fed}
use Rattle.rg_apt.specs.Plain.{state_lines}
use Rattle.rg_apt.proofs.print.push_states.Given as goal

-- the text so far, and the lines that are left
abbrev pub invariant-loop-s : goal.invariant-loop-s
invariant-loop-s l =
    l.text.items ++ fed (state_lines l.lts.initial l.s (drop l.s l.lts.state_names))
    ≡ l.fn.text.items ++ fed (state_lines l.lts.initial 0 l.lts.state_names)
