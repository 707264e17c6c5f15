use Rattle.rg_marks.specs.Separated.{AreSome}
use Rattle.rg_net_tests.proofs.separated.all_wanted.Given as goal

abbrev pub invariant-loop-one : goal.invariant-loop-one
invariant-loop-one l = AreSome l.lts l.separated
