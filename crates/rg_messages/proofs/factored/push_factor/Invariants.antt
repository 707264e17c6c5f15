use Rattle.std.proofs.Common.{◌≡◌, ◌++◌, take, codes, decimal}
use Rattle.rg_messages.specs.FactorTexts.{names_text}
use Rattle.rg_messages.proofs.factored.push_factor.Given as goal

abbrev pub invariant-loop-t : goal.invariant-loop-t
invariant-loop-t l = l.text.items ≡ l.fn.text.items ++ (codes "factor " ++ decimal l.i ++ codes ": labels" ++ names_text (take l.t l.factor.label_names))

abbrev pub invariant-loop-s : goal.invariant-loop-s
invariant-loop-s l =
    l.text.items ≡ l.fn.text.items ++ (codes "factor " ++ decimal l.i ++ codes ": labels" ++ names_text l.factor.label_names ++ codes " states" ++ names_text (take l.s l.factor.state_names))
