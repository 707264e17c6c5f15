use Rattle.std.proofs.Common.{arith}
use Rattle.rg_rows.proofs.forms.index_of.Goals as goal

pub unreachable-requires : goal.unreachable-requires
unreachable-requires c = let (k, lt, at) = c.requires in c.loop-i.invariant k c.args.name (let past = c.loop-i-test.false in omega arith) at
