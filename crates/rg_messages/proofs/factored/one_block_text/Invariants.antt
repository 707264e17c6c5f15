use Rattle.std.proofs.Common.{◌≡◌, ◌++◌, take, codes}
use Rattle.std.specs.List.{flat_map}
use Rattle.rg_messages.specs.FactorTexts.{broken_line}
use Rattle.rg_messages.proofs.factored.one_block_text.Given as goal

abbrev pub invariant-loop-b : goal.invariant-loop-b
invariant-loop-b l = l.text.items ≡ codes "no: one block\n" ++ flat_map (broken_line l.lts) (take l.b-index l.squares)
