use Rattle.std.proofs.Common.{arith}
use Rattle.rg_fraction.proofs.Newton.{share_is}
use Rattle.rg_fraction.proofs.exact.Divisor.share.Goals as goal

pub returns : goal.returns
returns c = share_is c.args.n c.args.self.size c.args.self.twos c.args.self.inverse c.args.self.taken_apart c.requires (omega arith)
