use Rattle.rg_linear_tests.proofs.plain.+below.Given as goal

abbrev pub decreases-below : goal.decreases-below
decreases-below l = l.end
