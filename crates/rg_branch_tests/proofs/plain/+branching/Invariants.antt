use Rattle.rg_branch_tests.proofs.plain.+branching.Given as goal

abbrev pub decreases-branching : goal.decreases-branching
decreases-branching l = l.depth
