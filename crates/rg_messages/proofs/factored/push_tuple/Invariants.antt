use Rattle.std.proofs.Common.{◌≡◌, ◌++◌, map, take, codes}
use Rattle.rg_cert.specs.Text.{state_name}
use Rattle.rg_factor.specs.View.{shown_factor}
use Rattle.rg_messages.specs.FactorTexts.{entries_text}
use Rattle.rg_messages.proofs.factored.push_tuple.Given as goal

abbrev pub invariant-loop-i : goal.invariant-loop-i
invariant-loop-i l = l.text.items ≡ l.fn.text.items ++ (state_name l.lts l.s ++ codes ":" ++ entries_text (take l.i (map shown_factor l.factors)) (take l.i l.tuple))
