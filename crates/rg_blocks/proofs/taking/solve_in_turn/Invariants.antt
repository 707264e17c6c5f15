use Rattle.std.proofs.Common.{take}
use Rattle.rg_blocks.specs.Taking.{IsTakenOver}
use Rattle.rg_blocks.specs.Searching.{IsSearching}
use Rattle.rg_blocks.proofs.taking.solve_in_turn.Given as goal

abbrev pub invariant-loop-i : goal.invariant-loop-i
invariant-loop-i g l =
    IsSearching l.search g.K.Keeping.keeps_for g.S.Solving.serves g.S.Solving.proves l.progress
    × IsTakenOver l.search.lts.now (g.S.Solving.comes l.search.solving.now) (g.K.Keeping.places l.initial.progress.kept) (take l.i l.problems) (g.K.Keeping.places l.progress.kept) l.refuted
