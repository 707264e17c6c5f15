use Rattle.std.proofs.Common.{suc, ◌∷◌}
use Rattle.std.specs.Prelude.{pos, ◌<ℤ◌, unsigned_abs}
use Rattle.rg_integers.specs.Range.{InRange}
use Rattle.rg_integers.specs.Divisor.{IsGcdBelow}
use Rattle.rg_integers.specs.Sum.{number_at}
use Rattle.rg_revised.proofs.factor.common_factor.Given as goal

abbrev pub invariant-loop-number : goal.invariant-loop-number
invariant-loop-number l = record {
  positive : pos 0 <ℤ l.factor;
  greatest : IsGcdBelow (suc l.number-index) (λ k. unsigned_abs (number_at (l.d ∷ l.numbers) k)) (unsigned_abs l.factor);
  in_range : InRange l.factor;
}
