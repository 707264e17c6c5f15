use Rattle.std.proofs.Common.{◌≡◌, length}
use Rattle.rg_revised.proofs.FewIndices.{AreFewBelow}
use Rattle.rg_revised.proofs.support.Support.list.Given as goal

abbrev pub invariant-loop-n : goal.invariant-loop-n
invariant-loop-n l = record {
  few : AreFewBelow l.row l.self.indices l.self.count l.n;
  size : length l.self.indices ≡ 8;
}
