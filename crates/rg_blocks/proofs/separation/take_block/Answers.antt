use Rattle.std.proofs.Common.{All, refl, sym, subst}
use Rattle.rg_theory.specs.Problem.{IsProblem}
use Rattle.rg_blocks.proofs.TakingLemmas.{ok_with_first_known}
use Rattle.rg_blocks.proofs.SolvedLemmas.{of_solved}
use Rattle.rg_blocks.proofs.separation.take_block.Goals as goal

pub take_over-requires-clause-problems : goal.take_over-requires-clause-problems
take_over-requires-clause-problems g c =
    of_solved (IsProblem c.args.search.now.lts.now) c.in_ok-solved.solved.items
    (subst (λ xs. All (IsProblem c.args.search.now.lts.now) xs) (sym c.in_ok-solved.ensures.same) (λ i d lt. (c.requires.left i d lt).0))

pub take_over-requires-clause-asked : goal.take_over-requires-clause-asked
take_over-requires-clause-asked g c =
    let asks = g.S.Solving.asks c.args.search.now.solving.now in
    of_solved asks c.in_ok-solved.solved.items
    (subst (λ xs. All asks xs) (sym c.in_ok-solved.ensures.same) (λ i d lt. c.requires.can.asked _ (c.requires.left i d lt).0))

pub returns-clause-taken : goal.returns-clause-taken
returns-clause-taken g c =
    ok_with_first_known c.args.search.now.lts.now (g.S.Solving.comes c.args.search.now.solving.now) c.requires.can.separating
    (g.K.Keeping.places c.args.progress.now.kept) (g.K.Keeping.places c.solve_left.new.progress.kept) (g.K.Keeping.places c.take_over.new.progress.kept)
    c.args.problems.now _ _ _ c.take_over.result c.requires.some c.in_ok-solved.ensures.same refl c.requires.left c.in_ok-solve_left.ensures.kept c.take_over.ensures.taken

pub returns-then-is_some-clause-taken : goal.returns-then-is_some-clause-taken
returns-then-is_some-clause-taken g c =
    ok_with_first_known c.args.search.now.lts.now (g.S.Solving.comes c.args.search.now.solving.now) c.requires.can.separating
    (g.K.Keeping.places c.args.progress.now.kept) (g.K.Keeping.places c.solve_left.new.progress.kept) (g.K.Keeping.places c.solve_in_turn-then-is_some.new.progress.kept)
    c.args.problems.now _ _ _ c.solve_in_turn-then-is_some.result c.requires.some refl refl c.requires.left c.in_ok-solve_left.ensures.kept c.solve_in_turn-then-is_some.ensures.taken
