use Rattle.std.proofs.Common.{◌-◌, ◌+◌, arith}
use Rattle.rg_fraction.proofs.Newton.{refines}
use Rattle.rg_fraction.proofs.exact.refine_inverse.Goals as goal

pub returns : goal.returns
returns c = λ j some small right. refines c.args.number c.args.inverse j (128 - (j + j)) some (omega arith) right
