-- Arcs with other labels. Contracts of the crate's private functions cite it.
use Rattle.std.specs.Prelude.{ℕ, List, [], ◌∷◌}
use Rattle.rg_theory.specs.declared.Arc.{Arc}
use Rattle.rg_theory.specs.System.{arc}

-- the arcs with these labels in the places of their own, one for each
abbrev pub arcs_with : List ℕ → List Arc → List Arc
arcs_with [] arcs = []
arcs_with (t ∷ ts) [] = []
arcs_with (t ∷ ts) (a ∷ arcs) = arc a.from t a.to ∷ arcs_with ts arcs
