-- Faults of a list of things, each by the things before it.
use Rattle.std.specs.Prelude.{◌≡◌, Bool, List, [], ◌∷◌, ◌++◌, Option, None, Some, if◌then◌else◌}

-- the fault of each thing of a list, by those before it
abbrev pub faults_after : {X F : Type 0} → (List X → X → Option F) → List X → List X → List (Option F)
faults_after fault before [] = []
faults_after fault before (x ∷ more) = fault before x ∷ faults_after fault (before ++ x ∷ []) more

abbrev pub if_not : {F : Type 0} → Bool → F → List (Option F)
if_not test fault = (if test then None else Some fault) ∷ []

-- the first fault of a list
abbrev pub IsFirst : {F : Type 0} → List (Option F) → F → Type 0
IsFirst [] fault = ⊥
IsFirst (None ∷ more) fault = IsFirst more fault
IsFirst (Some first ∷ more) fault = fault ≡ first

-- no fault is in a list
abbrev pub AreNone : {F : Type 0} → List (Option F) → Type 0
AreNone [] = Unit {0}
AreNone (None ∷ more) = AreNone more
AreNone (Some first ∷ more) = ⊥
