use Rattle.std.proofs.Common.{ℕ, ◌<◌, ◌≤◌}
use Rattle.std.specs.Prelude.{slice_index, IfSome, IfNone}
use Rattle.rg_revised.specs.Reading.{IsVacant}
use Rattle.rg_revised.proofs.choosing.least_vacant.Given as goal

abbrev pub invariant-loop-s : goal.invariant-loop-s
invariant-loop-s l = record {
  is : IfSome l.best (IsVacant l.columns l.slots l.stack l.numbers);
  least : IfSome l.best (λ p. (q : ℕ) → q < l.s → IsVacant l.columns l.slots l.stack l.numbers q → slice_index l.slots p ≤ slice_index l.slots q);
  none : IfNone l.best ((q : ℕ) → q < l.s → ¬ IsVacant l.columns l.slots l.stack l.numbers q);
}
