use Rattle.std.proofs.Common.{◌≡◌, unsigned_abs}
use Rattle.rg_integers.specs.Sum.{number_at}
use Rattle.rg_linear.specs.Room.{total}
use Rattle.rg_linear.specs.Norm.{kept_norm}
use Rattle.rg_linear.proofs.row.norm.Given as goal

abbrev pub invariant-loop-coefficient : goal.invariant-loop-coefficient
invariant-loop-coefficient l = l.norm ≡ kept_norm (total l.coefficient-index (λ t. unsigned_abs (number_at l.coeffs t)))
