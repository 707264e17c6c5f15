use Rattle.std.proofs.Common.{◌≡◌, ℕ, ◌<◌, length, None, slice_index_or}
use Rattle.rg_cycles.specs.Reading.{IsRead}
use Rattle.rg_cycles.proofs.reading.relations.Given as goal

abbrev pub invariant-loop-t : goal.invariant-loop-t
invariant-loop-t l = record {
  one_each : length l.relations.items ≡ l.t;
  each : (t : ℕ) → t < l.t → IsRead l.found l.kept t (slice_index_or l.relations.items t None);
}
