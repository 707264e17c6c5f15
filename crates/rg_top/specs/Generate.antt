-- How `generate KIND N` ends.
use Rattle.std.specs.Prelude.{ℕ}
use Rattle.rg_theory.specs.System.{System}
use Rattle.rg_lts.specs.WellFormed.{IsWellFormed}
use Rattle.rg_apt.specs.Plain.{lts_text}
use Rattle.rg_apt.specs.Spells.{Spells}
use Rattle.rg_families.specs.declared.Kind.{Kind}
use Rattle.rg_families.specs.Families.{IsOfFamily}
use Rattle.rg_top.specs.End.{End, says_yes}
use Rattle.rg_top.specs.declared.status.Status.{Status}
use Rattle.rg_top.specs.declared.status.Status.TheVariants.{Done}

-- the end is the text of the family's system for the number, which is read as that system again
pub data GenerateEnds (kind : Kind) (n : ℕ) : End → Type 0 where
  a_system : (lts : System) → IsOfFamily kind n lts → IsWellFormed lts → Spells (lts_text lts) lts → GenerateEnds kind n (says_yes (lts_text lts))

-- when each status is expected: always that of a system
pub data GenerateIsDue : Status → Type 0 where
  always : GenerateIsDue Done
