use Rattle.std.proofs.Common.{codes}
use Rattle.rg_product.specs.declared.Broken.{Broken}
use Rattle.rg_messages.specs.FactorTexts.{broken_line}
use Rattle.rg_messages.proofs.FactorLines.{line_more}
use Rattle.rg_messages.proofs.factored.one_block_text.Goals as goal

abbrev nowhere : Broken
nowhere = record { s = 0; t = 0; u = 0 }

pub loop-b-preserved : goal.loop-b-preserved
loop-b-preserved c =
    line_more (broken_line c.args.lts.now) c.args.squares.now c.loop-b.b-index nowhere (codes "no: one block\n") c.loop-b.text.items c.push_broken.new.text.items c.loop-b-test.true
    c.in_ok-push_broken.ensures c.loop-b.invariant
