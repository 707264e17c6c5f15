use Rattle.std.proofs.Common.{◌≡◌, drop}
use Rattle.std.specs.Prelude.{pos, neg_ℤ, ◌+ℤ◌, ◌≤ℤ◌}
use Rattle.rg_case_folds.specs.Rewriting.{start_of}
use Rattle.rg_cert_data.specs.Sums.{terms_in}
use Rattle.rg_case_parts.proofs.term_counts.start.Given as goal

abbrev pub invariant-loop-entry : goal.invariant-loop-entry
invariant-loop-entry l = record {
  total : l.sum +ℤ start_of (terms_in (drop l.entry-index l.expression.terms)) ≡ start_of (terms_in l.expression.terms);
  low : neg_ℤ (pos l.entry-index) ≤ℤ l.sum;
  high : l.sum ≤ℤ pos l.entry-index;
}
