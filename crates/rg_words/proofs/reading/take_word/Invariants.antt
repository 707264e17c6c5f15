use Rattle.std.proofs.Common.{ℕ, ◌≤◌, ◌++◌, [], List, length}
use Rattle.rg_line_formats.specs.Words.{words}
use Rattle.rg_words.specs.Contents.{Use, uses_from}
use Rattle.rg_words.specs.Reading.{IsDraftOf, Stands}
use Rattle.rg_words.proofs.reading.take_word.Given as goal

abbrev pub invariant-loop-label : goal.invariant-loop-label
invariant-loop-label l = record {
  draft : IsDraftOf l.tree.builder l.tree.steps.keys;
  state : l.state ≤ length l.tree.steps.keys;
  stands : (all more : List Use) → Stands all (uses_from l.number [] (words l.word) ++ more) [] l.fn.tree.builder.label_names l.fn.tree.steps.keys 0
      → (before : List (List ℕ)) × Stands all (uses_from l.number before (words l.rest) ++ more) before l.tree.builder.label_names l.tree.steps.keys l.state;
}

abbrev pub decreases-loop-label : goal.decreases-loop-label
decreases-loop-label l = length l.rest
