use Rattle.std.proofs.Common.{◌≡◌, ◌<◌, ℕ}
use Rattle.rg_case_parts.specs.ChordRows.{entry_between}
use Rattle.rg_case_parts.proofs.chord_ends.ChordEndsPartialEq.eq.Given as goal

abbrev pub invariant-loop-t : goal.invariant-loop-t
invariant-loop-t l = (k : ℕ) → k < l.t → entry_between l.self.source.now l.self.target.now l.self.label k ≡ entry_between l.other.source.now l.other.target.now l.other.label k
