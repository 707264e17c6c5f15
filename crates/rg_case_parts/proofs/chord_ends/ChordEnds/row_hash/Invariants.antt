use Rattle.std.proofs.Common.{◌≡◌, map}
use Rattle.rg_linear.specs.Dictionary.{numbers_from}
use Rattle.rg_case_parts.specs.ChordRows.{entry_between, row_hash}
use Rattle.rg_case_parts.proofs.chord_ends.ChordEnds.row_hash.Given as goal

abbrev pub invariant-loop-t : goal.invariant-loop-t
invariant-loop-t l = l.hash ≡ row_hash (map (entry_between l.self.source.now l.self.target.now l.self.label) (numbers_from 0 l.t))
