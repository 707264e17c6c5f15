use Rattle.std.proofs.Common.{◌≡◌, ℕ, ◌+◌, ◌<◌, length, subst}
use Rattle.rg_integers.specs.Sum.{number_at}
use Rattle.rg_linear.specs.Table.{row_at}
use Rattle.rg_revised.specs.View.{BasisState}
use Rattle.rg_revised.proofs.basis.Basis.copy_constants.Goals as goal

pub returns-clause-values : goal.returns-clause-values
returns-clause-values c = subst
    (λ (b : BasisState). (t : ℕ) → t < length b.slots → number_at c.read_constants.new.constants t ≡ number_at (row_at (length b.slots + 1) b.table t) (length b.slots))
    c.self.view_is (rw (c.deref.ensures.value, c.deref-2.ensures.value, c.self.invariant.count) at c.read_constants.ensures.values)
