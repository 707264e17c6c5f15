use Rattle.std.proofs.Common.{◌≡◌, ℕ, ◌<◌, length, get_or, true}
use Rattle.rg_revised.proofs.table.change_all.Given as goal

abbrev pub invariant-loop-t : goal.invariant-loop-t
invariant-loop-t l = record {
  same_length : length l.changed ≡ length l.fn.changed;
  done : (v : ℕ) → v < l.t → get_or l.changed v true ≡ true;
}
