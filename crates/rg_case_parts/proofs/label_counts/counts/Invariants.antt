use Rattle.std.proofs.Common.{◌≡◌, ℕ, ◌*◌, ◌^◌, ◌<◌, ◌≤◌, length, drop}
use Rattle.std.specs.Prelude.{◌+ℤ◌, unsigned_abs}
use Rattle.rg_integers.specs.Sum.{number_at}
use Rattle.rg_case_folds.specs.Rewriting.{count_of}
use Rattle.rg_cert_data.specs.Sums.{terms_in}
use Rattle.rg_case_parts.proofs.label_counts.counts.Given as goal

abbrev pub invariant-loop-entry : goal.invariant-loop-entry
invariant-loop-entry l = record {
  one_each : length l.counts.items ≡ l.labels;
  totals : (t : ℕ) → t < l.labels → number_at l.counts.items t +ℤ count_of l.tree.arcs (terms_in (drop l.entry-index l.expression.terms)) t ≡ count_of l.tree.arcs (terms_in l.expression.terms) t;
  small : (t : ℕ) → t < l.labels → unsigned_abs (number_at l.counts.items t) ≤ l.entry-index * 2 ^ 32;
}
