-- What a step of a descent tells.
use Rattle.std.proofs.Common.{◌≡◌, ℕ, ◌+◌, ◌<◌, ◌≤◌, List, reverse, length, get_or, ap, subst, sym, arith}
use Rattle.std.specs.Prelude.{ℤ, pos, ◌<ℤ◌, slice_index}
use Rattle.rg_linear.specs.System.{LinearSystem, row_variable}
use Rattle.rg_linear.specs.Stack.{fixed_of}
use Rattle.rg_integers.specs.Sum.{number_at}
use Rattle.rg_revised.specs.Basis.{IsRelationOf}
use Rattle.rg_revised.specs.Held.{relation_of}
use Rattle.rg_revised.specs.Reading.{IsVacant, constant_over}
use Rattle.rg_revised.specs.View.{TableauState}
use Rattle.rg_revised.specs.State.{IsTableauOf, IsRow, IsTableauExchange, CanExchange, HasShortNumbers, StepTells}
use Rattle.rg_revised.specs.declared.step.Step.TheVariants.{Satisfied, Stuck, Exchanged}
use Rattle.rg_revised.proofs.Stepping.{step_outside, step_stuck, step_chooses}
use Rattle.rg_revised.proofs.ConstantsHeld.{passes_at}

pub tells_satisfied : (system : LinearSystem) (members : List ℕ) (t : TableauState) (i : ℕ) (coeffs : List ℤ) (constant : ℤ)
    → IsTableauOf system members t → IsRow system i coeffs constant → (stack : List ℕ)
    → ¬ (constant_over coeffs t.constants constant t.basis.d <ℤ pos 0) → StepTells system members (fixed_of system (reverse stack)) i t Satisfied
tells_satisfied system members t i coeffs constant is row stack none = (passes_at _ _ _ is.constants _ _ _ is.held _ _ _ row none, is)

-- the numbers are those of a relation of row i, which fails
module _ (system : LinearSystem) (members : List ℕ) (t : TableauState) (i : ℕ) (inside : i < length system.rows) (is : IsTableauOf system members t)
    (relation : IsRelationOf system members (row_variable system i) (relation_of t.basis.slots t.over t.numbers)) (fails : number_at t.numbers (length t.basis.slots) <ℤ pos 0) (stack : List ℕ) where
  moved : row_variable system i ≡ length t.basis.slots + i
  moved = ap (λ n. n + i) (sym is.held.held.count)

  pub tells_stuck : ((q : ℕ) → ¬ IsVacant (length t.basis.slots) t.basis.slots stack t.numbers q) → StepTells system members (fixed_of system (reverse stack)) i t Stuck
  tells_stuck none = (step_stuck _ _ _ is.held.held i t.over t.numbers is.width inside relation fails stack none, is, relation)

  module _ (p : ℕ) (vacant : IsVacant (length t.basis.slots) t.basis.slots stack t.numbers p) where
    pub can_exchange : HasShortNumbers t → CanExchange t p (length t.basis.slots + i)
    can_exchange short = record {
      system = system;
      members = members;
      whole = is;
      relation = subst (λ v. IsRelationOf system members v (relation_of t.basis.slots t.over t.numbers)) moved relation;
      short = short;
      inside = vacant.within;
      named = vacant.named;
    }

    pub tells_exchanged : ((q : ℕ) → IsVacant (length t.basis.slots) t.basis.slots stack t.numbers q → slice_index t.basis.slots p ≤ slice_index t.basis.slots q) → (after : TableauState)
        → IsTableauExchange t p (length t.basis.slots + i) after → StepTells system members (fixed_of system (reverse stack)) i after Exchanged
    tells_exchanged least after exchange =
        let (fits, held) = subst (λ v. IsTableauExchange t p v after) (sym moved) exchange system members is (omega arith)
        (step_outside _ _ _ is.held.held i t.over t.numbers is.width inside relation fails) relation in
        (get_or t.basis.slots p 0, step_chooses _ _ _ is.held.held i t.over t.numbers is.width inside relation fails stack p vacant least, fits, held)
