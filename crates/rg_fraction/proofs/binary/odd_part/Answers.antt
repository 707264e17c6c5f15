use Rattle.std.proofs.Common.{arith}
use Rattle.std.specs.Int.{w128, trailing_zeros}
use Rattle.rg_fraction.proofs.Twos.{odd_part_is, is_odd}
use Rattle.rg_fraction.proofs.binary.odd_part.Goals as goal

pub returns-clause-part : goal.returns-clause-part
returns-clause-part c = (trailing_zeros w128 c.args.x, odd_part_is c.args.x (trailing_zeros w128 c.args.x) c.requires (omega arith) (omega arith))

pub returns-clause-odd : goal.returns-clause-odd
returns-clause-odd c = is_odd c.args.x c.requires (omega arith)
