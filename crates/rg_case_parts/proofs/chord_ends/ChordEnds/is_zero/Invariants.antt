use Rattle.std.proofs.Common.{◌≡◌, ◌<◌, ℕ, pos}
use Rattle.rg_case_parts.specs.ChordRows.{entry_between}
use Rattle.rg_case_parts.proofs.chord_ends.ChordEnds.is_zero.Given as goal

abbrev pub invariant-loop-t : goal.invariant-loop-t
invariant-loop-t l = (k : ℕ) → k < l.t → entry_between l.self.source.now l.self.target.now l.self.label k ≡ pos 0
