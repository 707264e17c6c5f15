use Rattle.std.proofs.Common.{◌≡◌, ◌++◌, take, codes}
use Rattle.rg_messages.specs.FactorTexts.{numbers_text}
use Rattle.rg_messages.proofs.factored.sizes_text.Given as goal

abbrev pub invariant-loop-size : goal.invariant-loop-size
invariant-loop-size l = l.text.items ≡ codes "no: sizes" ++ numbers_text (take l.size-index l.sizes)
