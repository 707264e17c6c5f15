-- The three families, and the systems that they have.
use Rattle.std.specs.Prelude.{ℕ, ◌≤◌}
use Rattle.rg_theory.specs.System.{System}
use Rattle.rg_families.specs.declared.Kind.{Kind}
use Rattle.rg_families.specs.declared.Kind.TheVariants.{Grid, Doubling, Lock}
use Rattle.rg_families.specs.Named.{Drawing, IsSystemOf}
use Rattle.rg_families.specs.Grid.{most_grid, grid}
use Rattle.rg_families.specs.Doubling.{most_doubling, doubling}
use Rattle.rg_families.specs.Lock.{most_lock, lock}

-- the greatest number of a family's systems; all are within the limits of a system
abbrev pub greatest : Kind → ℕ
greatest Grid = most_grid
greatest Doubling = most_doubling
greatest Lock = most_lock

abbrev pub IsFamilyNumber : Kind → ℕ → Type 0
IsFamilyNumber kind n = (1 ≤ n) × (n ≤ greatest kind)

abbrev pub drawn : Kind → ℕ → Drawing
drawn Grid n = grid n
drawn Doubling n = doubling n
drawn Lock n = lock n

-- the system is the one that the family has for this number
abbrev pub IsOfFamily : Kind → ℕ → System → Type 0
IsOfFamily kind n lts = IsSystemOf (drawn kind n) lts
