use Rattle.std.proofs.Common.{◌≡◌, ℕ, ◌<◌, ◌≤◌, length}
use Rattle.std.specs.Prelude.{◌*ℤ◌, ◌-ℤ◌, unsigned_abs}
use Rattle.rg_integers.specs.Sum.{number_at}
use Rattle.rg_revised.specs.Rows.{RowWithin}
use Rattle.rg_revised.proofs.row.renew_each.Given as goal

abbrev pub invariant-loop-n : goal.invariant-loop-n
invariant-loop-n l = record {
  same_length : length l.row ≡ length l.fn.row;
  done : (k : ℕ) → k < l.n → l.fn.d.value *ℤ number_at l.row k ≡ (number_at l.fn.row k *ℤ number_at l.pivot l.p) -ℤ (number_at l.pivot k *ℤ l.leaving);
  left : (k : ℕ) → l.n ≤ k → number_at l.row k ≡ number_at l.fn.row k;
  within : RowWithin (unsigned_abs l.most) l.row;
}
