use Rattle.std.proofs.Common.{◌≡◌, length, IfSome}
use Rattle.rg_theory.specs.Problem.{IsProblem}
use Rattle.rg_outcome.specs.Blocks.{IsBlock, last_of}
use Rattle.rg_blocks.proofs.block.next_block.Given as goal

abbrev pub invariant-loop-i : goal.invariant-loop-i
invariant-loop-i g l =
    IsBlock l.lts (g.K.Keeping.places l.kept) l.fn.last l.block.items
    × (l.at ≡ last_of l.fn.last l.block.items)
    × IfSome l.at (IsProblem l.lts)
    × (length l.block.items ≡ l._i)
