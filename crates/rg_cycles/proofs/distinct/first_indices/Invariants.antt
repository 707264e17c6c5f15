use Rattle.rg_cycles.proofs.Firsts.{KeptSoFar, has_key}
use Rattle.rg_cycles.proofs.distinct.first_indices.Given as goal

abbrev pub invariant-loop-i : goal.invariant-loop-i
invariant-loop-i g l = KeptSoFar g.R.ChordRows.row_of (g.R.ChordRows.rows l.rows) (has_key g.R.Key.PartialEq.eq l.seen.keys) l.i l.kept.items
