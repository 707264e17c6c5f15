use Rattle.rg_revised.proofs.FewAdded.{AreAddedAt}
use Rattle.rg_revised.proofs.reading.add_few.Given as goal

abbrev pub invariant-loop-k : goal.invariant-loop-k
invariant-loop-k l = AreAddedAt l.by l.row l.fn.numbers l.numbers l.support.indices l.support.count l.k
