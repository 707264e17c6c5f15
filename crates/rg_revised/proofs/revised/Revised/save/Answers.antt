use Rattle.std.proofs.Common.{subst}
use Rattle.std.specs.Prelude.{IfOk}
use Rattle.rg_linear.specs.System.{LinearSystem}
use Rattle.rg_revised.specs.Reaching.{IsSavedAt}
use Rattle.rg_revised.specs.Settling.{IsAtPoint}
use Rattle.rg_revised.specs.View.{RevisedState}
use Rattle.rg_revised.proofs.Extending.{saved_if}
use Rattle.rg_revised.proofs.revised.Revised.save.Goals as goal

pub returns-clause-point : goal.returns-clause-point
returns-clause-point c = subst (λ (r : RevisedState). IfOk c.save.result (λ s. (system : LinearSystem) → IsAtPoint system r → IsSavedAt system s)) c.self.view_is
    (saved_if c.save.result c.self.inside.tableau c.save.ensures)
