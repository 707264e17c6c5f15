use Rattle.std.proofs.Common.{IfSome}
use Rattle.rg_theory.specs.Problem.{IsProblem}
use Rattle.rg_outcome.specs.Coming.{IsSound}
use Rattle.rg_blocks.proofs.SeparationLemmas.{LeadsTo}
use Rattle.rg_blocks.specs.Searching.{IsSearching}
use Rattle.rg_blocks.proofs.RankLemmas.{problems_after}
use Rattle.rg_blocks.proofs.separation.solve_all.Given as goal

abbrev pub invariant-loop-block : goal.invariant-loop-block
invariant-loop-block g l =
    let lts = l.search.lts.now in
    let comes = g.S.Solving.comes l.search.solving.now in
    let now = g.K.Keeping.places l.progress.kept in
    LeadsTo lts comes (g.K.Keeping.places l.initial.progress.kept) now l.last
    × IfSome l.last (IsProblem lts)
    × IsSound lts comes l.last now
    × IsSearching l.search g.K.Keeping.keeps_for g.S.Solving.serves g.S.Solving.proves l.progress

abbrev pub decreases-loop-block : goal.decreases-loop-block
decreases-loop-block g l = problems_after l.search.lts.now l.last
