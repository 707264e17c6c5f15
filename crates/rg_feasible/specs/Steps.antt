-- What came of one row.
use Rattle.std.specs.Prelude.{◌≡◌, ◌≢◌, ℕ, ◌+◌, ◌<◌, List, length, Contains, slice_index, ℤ, pos}
use Rattle.rg_integers.specs.Sum.{number_at}
use Rattle.rg_linear.specs.System.{LinearSystem, row_variable}
use Rattle.rg_linear.specs.Exchange.{exchanged, AllFit, FirstWide}
use Rattle.rg_linear.specs.Descent.{IsSatisfied, IsStuck, Chooses}
use Rattle.rg_linear.specs.Stack.{fixed_of}
use Rattle.rg_feasible.specs.declared.step.Step.{Step}
use Rattle.rg_feasible.specs.declared.step.Step.TheVariants.{Satisfied, Stuck, Exchanged, Wide}

-- the member at this index isn't fixed, and the relation with these numbers names it
pub record NamesFree (columns : ℕ) (members stack : List ℕ) (numbers : List ℤ) (index : ℕ) : Type 0 where
  pub within : index < length members
  pub not_fixed : (s : ℕ) → Contains stack s → slice_index members index ≢ columns + s
  pub named : number_at numbers (index + 2) ≢ pos 0

-- row i at the set old, with the rows of the stack fixed, the last one first, and the set after the step
abbrev pub StepTells : LinearSystem → List ℕ → List ℕ → ℕ → List ℕ → Step → Type 0
StepTells system old stack i new Satisfied = IsSatisfied system old i × (new ≡ old)
StepTells system old stack i new Stuck = IsStuck system old (fixed_of system stack) i × (new ≡ old)
StepTells system old stack i new Exchanged = (j : ℕ) × Chooses system old (fixed_of system stack) i j × AllFit system old (row_variable system i) j × (new ≡ exchanged old (row_variable system i) j)
StepTells system old stack i new (Wide w) = Chooses system old (fixed_of system stack) i w.leaves
    × FirstWide system old (row_variable system i) w.leaves w.target w.entry w.wide × (w.pivot ≡ row_variable system i) × (new ≡ old)

-- the step leaves a dictionary
abbrev pub IsNotRefused : Step → Type 0
IsNotRefused Satisfied = Unit {0}
IsNotRefused Stuck = Unit {0}
IsNotRefused Exchanged = Unit {0}
IsNotRefused (Wide w) = ⊥
