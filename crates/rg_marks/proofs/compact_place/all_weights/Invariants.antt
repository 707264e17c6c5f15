use Rattle.std.proofs.Common.{◌≡◌, drop}
use Rattle.rg_marks.specs.Compact.{kept_numbers}
use Rattle.rg_marks.proofs.compact_place.all_weights.Given as goal

abbrev pub invariant-loop-k : goal.invariant-loop-k
invariant-loop-k l = record {
  pre : l.pre.items ≡ kept_numbers (λ w. w.pre) l.labels (drop l.k l.weights);
  post : l.post.items ≡ kept_numbers (λ w. w.post) l.labels (drop l.k l.weights);
}
