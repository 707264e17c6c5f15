use Rattle.std.proofs.Common.{◌≡◌, ◌*◌, ◌^◌, drop}
use Rattle.std.specs.Prelude.{pos, neg_ℤ, ◌+ℤ◌, ◌≤ℤ◌}
use Rattle.rg_case_folds.specs.Rewriting.{count_of}
use Rattle.rg_cert_data.specs.Sums.{terms_in}
use Rattle.rg_case_parts.proofs.term_counts.count.Given as goal

abbrev pub invariant-loop-entry : goal.invariant-loop-entry
invariant-loop-entry l = record {
  total : l.sum +ℤ count_of l.tree.arcs (terms_in (drop l.entry-index l.expression.terms)) l.t ≡ count_of l.tree.arcs (terms_in l.expression.terms) l.t;
  low : neg_ℤ (pos (l.entry-index * 2 ^ 32)) ≤ℤ l.sum;
  high : l.sum ≤ℤ pos (l.entry-index * 2 ^ 32);
}
