-- A descent with an explicit stack of the fixed rows, the last one first.
use Rattle.std.specs.Prelude.{ℕ, suc, ◌+◌, ◌-◌, ◌^◌, ◌<◌, List, [], ◌∷◌, length, map, Contains}
use Rattle.rg_linear.specs.System.{LinearSystem, row_variable}
use Rattle.rg_linear.specs.Descent.{Outcome, Outcome.point, IsStop, DescentFrom}

-- the variables of the fixed rows
abbrev pub fixed_of : LinearSystem → List ℕ → List ℕ
fixed_of system stack = map (row_variable system) stack

-- the rows below the one that was fixed last are taken, or all rows
abbrev pub limit : LinearSystem → List ℕ → ℕ
limit system [] = length system.rows
limit system (s ∷ stack) = s

-- what is left to do at row i leads to the outcome: a point below resumes the row after the last fixed one
pub data Resumes (system : LinearSystem) : List ℕ → List ℕ → ℕ → Outcome → Type 0 where
  last : {members : List ℕ} {i : ℕ} {o : Outcome} → DescentFrom system members [] (length system.rows) i o → Resumes system [] members i o
  returns : {s : ℕ} {stack members : List ℕ} {i : ℕ} {o : Outcome} (after : List ℕ) → DescentFrom system members (fixed_of system (s ∷ stack)) s i (point after)
      → Resumes system stack after (suc s) o → Resumes system (s ∷ stack) members i o
  ends : {s : ℕ} {stack members : List ℕ} {i : ℕ} {o : Outcome} → DescentFrom system members (fixed_of system (s ∷ stack)) s i o
      → IsStop o → Resumes system (s ∷ stack) members i o

-- a number that falls with each step: of the rows that are left in each frame, where the frame below resumes after its fixed row
abbrev pub work_left : ℕ → List ℕ → ℕ → ℕ
work_left rows [] i = 3 ^ rows - 3 ^ i
work_left rows (s ∷ stack) i = (3 ^ s - 3 ^ i) + suc (work_left rows stack (suc s))

-- each row is below the one that was fixed before it
abbrev pub IsFalling : LinearSystem → List ℕ → Type 0
IsFalling system [] = Unit {0}
IsFalling system (s ∷ stack) = (s < limit system stack) × IsFalling system stack

-- the rows of a stack fall, and are members
pub record IsStackOf (system : LinearSystem) (stack members : List ℕ) : Type 0 where
  pub falls : IsFalling system stack
  pub all : (m : ℕ) → Contains (fixed_of system stack) m → Contains members m
