-- The start of the loop over the rows, and its end at a term out of range.
use Rattle.std.proofs.Common.{ℕ, ◌<◌, List, reverse, subst, sym}
use Rattle.rg_linear.specs.System.{LinearSystem}
use Rattle.rg_linear.specs.Dictionary.{IsFree}
use Rattle.rg_linear.specs.Descent.{Outcome.wide, DescentFromStart}
use Rattle.rg_linear.proofs.Stacks.{step_wide}
use Rattle.rg_linear.proofs.Descending.{LeadsOn}
use Rattle.rg_feasible.specs.declared.settled.PivotWide.{PivotWide}
use Rattle.rg_feasible.specs.declared.step.Step.TheVariants.{Wide}
use Rattle.rg_feasible.specs.Settling.{wide_at}
use Rattle.rg_feasible.specs.Steps.{StepTells}

module _ (system : LinearSystem) (members stack : List ℕ) (below i : ℕ) (is : LeadsOn system members stack below i) (lt : i < below) where
  pub leads_wide : (new : List ℕ) (w : PivotWide) → StepTells system members (reverse stack) i new (Wide w) → DescentFromStart system (wide (wide_at new w))
  leads_wide new w (chooses, first, pivot, same) = subst (λ ms. DescentFromStart system (wide (wide_at ms w))) (sym same)
      (subst (λ v. DescentFromStart system (wide (record { members = members; pivot = v; leaves = w.leaves; target = w.target; entry = w.entry; term = w.wide }))) (sym pivot)
      (is.leads _ (step_wide system (reverse stack) members i w.leaves w.target w.entry w.wide (subst (λ n. i < n) is.limit lt) chooses first)))

  pub wide_free : (new : List ℕ) (w : PivotWide) → StepTells system members (reverse stack) i new (Wide w) → IsFree system new
  wide_free new w (chooses, first, pivot, same) = subst (IsFree system) (sym same) chooses.row.free
