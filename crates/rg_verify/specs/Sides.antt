-- The splits above a leaf, and which numbers they may have.
use Rattle.std.specs.Prelude.{List, All}
use Rattle.rg_theory.specs.System.{System}
use Rattle.rg_cert_data.specs.Certificates.{IsFormOf, IsSplitInRange}
use Rattle.rg_cert_meaning.specs.Row.{Side}

-- the form is of a state or label of the system, and the number is in range
abbrev pub IsSideOf : System → Side → Type 0
IsSideOf lts side = IsFormOf lts side.form × IsSplitInRange side.at

-- the sides are splits of the system
abbrev pub AreSidesOf : System → List Side → Type 0
AreSidesOf lts above = All (IsSideOf lts) above
