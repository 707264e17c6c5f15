use Rattle.std.proofs.Common.{◌≡◌, drop}
use Rattle.std.specs.Prelude.{pos, neg_ℤ, ◌+ℤ◌, ◌≤ℤ◌}
use Rattle.rg_cert_meaning.specs.Expression.{coefficient_in}
use Rattle.rg_cert_data.specs.Sums.{terms_in}
use Rattle.rg_farkas.proofs.sums.coefficient.Given as goal

abbrev pub invariant-loop-entry : goal.invariant-loop-entry
invariant-loop-entry l = record {
  total : l.sum +ℤ coefficient_in (terms_in (drop l.entry-index l.expression.terms)) l.variable ≡ coefficient_in (terms_in l.expression.terms) l.variable;
  low : neg_ℤ (pos l.entry-index) ≤ℤ l.sum;
  high : l.sum ≤ℤ pos l.entry-index;
}
