use Rattle.std.proofs.Common.{◌≡◌, ℕ, ◌<◌, drop, length, All}
use Rattle.std.specs.Prelude.{pos, ◌+ℤ◌, ◌*ℤ◌, slice_index_or}
use Rattle.rg_integers.specs.Range.{InRange}
use Rattle.rg_cert_meaning.specs.Expression.{coefficient_in}
use Rattle.rg_cert_meaning.specs.declared.Variable.TheVariants.{Tokens}
use Rattle.rg_cert_data.specs.Sums.{terms_in}
use Rattle.rg_farkas.proofs.summed.add_row.Given as goal

abbrev pub invariant-loop-entry : goal.invariant-loop-entry
invariant-loop-entry l = record {
  added : (q : ℕ) → q < length l.initial.sums
      → slice_index_or l.sums q (pos 0) +ℤ (l.row.multiplier *ℤ coefficient_in (terms_in (drop l.entry-index l.row.expression.terms)) (Tokens q))
      ≡ slice_index_or l.initial.sums q (pos 0) +ℤ (l.row.multiplier *ℤ coefficient_in (terms_in l.row.expression.terms) (Tokens q));
  in_range : All InRange l.sums;
}
