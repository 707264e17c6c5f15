use Rattle.std.specs.Prelude.{unsigned_abs}
use Rattle.rg_revised.proofs.FewRenewed.{AreRenewedAt}
use Rattle.rg_revised.proofs.row.renew_few.Given as goal

abbrev pub invariant-loop-k : goal.invariant-loop-k
invariant-loop-k l = AreRenewedAt l.pivot l.fn.row l.row l.fn.d.value l.leaving (unsigned_abs l.most) l.few.indices l.few.count l.k
