use Rattle.std.proofs.Common.{◌≡◌, ◌+◌, length, take}
use Rattle.rg_linear.specs.Dictionary.{numbers_from}
use Rattle.rg_linear.specs.Cycle.{vector_system}
use Rattle.rg_feasible.specs.Contents.{IsDictionary}
use Rattle.rg_cycles.proofs.solving.fill.Given as goal

abbrev pub invariant-loop-index : goal.invariant-loop-index
invariant-loop-index g l = record {
  whole : IsDictionary (vector_system l.labels (g.R.ChordRows.rows l.rows) (take l.index-index l.kept)) l.dictionary;
  start : l.dictionary.members ≡ numbers_from 0 l.labels;
  columns : l.dictionary.columns ≡ l.labels;
  room : l.dictionary.room + l.index-index ≡ length l.kept;
}
