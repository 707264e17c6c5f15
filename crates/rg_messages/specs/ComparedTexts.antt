-- The lines that `isomorphic` writes to out.
use Rattle.std.specs.Prelude.{◌≡◌, ℕ, ◌+◌, ◌<◌, ◌==◌, List, [], ◌∷◌, ◌++◌, All, length, codes, decimal, if◌then◌else◌}
use Rattle.rg_text.specs.Line.{fed}
use Rattle.rg_theory.specs.System.{System, states, labels}
use Rattle.rg_cert.specs.Text.{state_name, label_name}
use Rattle.rg_iso.specs.Words.{Difference, Difference.step as by_step, Difference.target as by_target}
use Rattle.rg_iso.specs.Compared.{Told, Told.map as as_map, Told.label as as_label, Told.differs as as_difference}
use Rattle.rg_messages.specs.CheckedTexts.{yes_line}
use Rattle.rg_messages.specs.FlawTexts.{step_text}

-- the name of state s of the one system and that of state q of the other
abbrev pub pair_line : System → System → ℕ → ℕ → List ℕ
pair_line a b s q = state_name a s ++ codes " " ++ state_name b q

-- a line for each state of the one system from s on, of which these are the states of the other
abbrev pub pair_lines : System → System → ℕ → List ℕ → List (List ℕ)
pair_lines a b s [] = []
pair_lines a b s (q ∷ map) = pair_line a b s q ∷ pair_lines a b (s + 1) map

-- the systems are isomorphic, by this map
abbrev pub map_text : System → System → List ℕ → List ℕ
map_text a b map = yes_line ++ fed (pair_lines a b 0 map)

-- of two systems the one of the file with this number, 1 or 2
abbrev pub numbered : System → System → ℕ → System
numbered a b file = if file == 1 then a else b

abbrev pub difference_text : System → System → Difference → List ℕ
difference_text a b (by_step file s t) = codes "step file " ++ decimal file ++ codes " " ++ step_text (numbered a b file) s t
difference_text a b (by_target s t) = codes "target " ++ step_text a s t

-- what is written of two systems
abbrev pub told_text : System → System → Told → List ℕ
told_text a b (as_map map) = map_text a b map
told_text a b (as_label file t) = codes "no: label file " ++ decimal file ++ codes " " ++ label_name (numbered a b file) t ++ codes "\n"
told_text a b (as_difference d) = codes "no: " ++ difference_text a b d ++ codes "\n"

-- the map has one state of the second system for each of the first
abbrev pub HasPairNames : System → System → List ℕ → Type 0
HasPairNames a b map = (length map ≡ states a) × All (λ q. q < states b) map

abbrev pub HasDifferenceNames : System → System → Difference → Type 0
HasDifferenceNames a b (by_step file s t) = (s < states (numbered a b file)) × (t < labels (numbered a b file))
HasDifferenceNames a b (by_target s t) = (s < states a) × (t < labels a)

-- the states and labels of the result are those of the systems
abbrev pub HasToldNames : System → System → Told → Type 0
HasToldNames a b (as_map map) = HasPairNames a b map
HasToldNames a b (as_label file t) = t < labels (numbered a b file)
HasToldNames a b (as_difference d) = HasDifferenceNames a b d
