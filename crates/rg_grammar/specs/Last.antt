-- The last thing of a list.
use Rattle.std.specs.Prelude.{List, [], ◌∷◌}

-- the last thing of a list is changed
abbrev pub change_last : {X : Type 0} → (X → X) → List X → List X
change_last change [] = []
change_last change (x ∷ []) = change x ∷ []
change_last change (x ∷ y ∷ more) = x ∷ change_last change (y ∷ more)
