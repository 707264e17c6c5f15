use Rattle.std.proofs.Common.{◌≡◌, ◌++◌}
use Rattle.rg_outcome.specs.Blocks.{AfterBlock.kept_places, TakenOver}
use Rattle.rg_blocks.specs.Taking.{problems_of}
use Rattle.rg_blocks.specs.Searching.{IsSearching}
use Rattle.rg_blocks.proofs.taking.take_over.Given as goal

abbrev pub invariant-loop-s : goal.invariant-loop-s
invariant-loop-s g l =
    IsSearching l.search g.K.Keeping.keeps_for g.S.Solving.serves g.S.Solving.proves l.progress
    × TakenOver l.search.lts.now (g.S.Solving.comes l.search.solving.now) (g.K.Keeping.places l.initial.progress.kept) (problems_of l.yielded) (kept_places (g.K.Keeping.places l.progress.kept))
    × (l.fn.solved.items ≡ l.yielded ++ l.s-iterator.rest.items)
