-- Where the walk over cycle equations passes the range of numbers.
use Rattle.std.specs.Prelude.{ℕ, ℤ, List}
use Rattle.rg_linear.specs.Descent.{WideAt}
use Rattle.rg_linear.specs.Cycle.{CycleWalk, CycleOutcome.too_wide, KeepsVectors, vector_system}
use Rattle.rg_cycles.specs.declared.stop.CycleWide.{CycleWide}

-- the walk over the vectors ends at this term, which is out of range
pub record PassesAt (labels : ℕ) (vectors : List (List ℤ)) (at : WideAt) : Type 0 where
  pub kept : List ℕ
  pub keeps : KeepsVectors vectors kept
  pub walk : CycleWalk (vector_system labels vectors kept) (too_wide at)

-- what is shown of a term out of range
abbrev pub shown_term : CycleWide → WideAt
shown_term w = record { members = w.members.items; pivot = w.pivot; leaves = w.leaves; target = w.target; entry = w.entry; term = w.wide }
