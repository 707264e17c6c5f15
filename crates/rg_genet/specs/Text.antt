-- The text of a system as a state graph.
use Rattle.std.specs.Prelude.{ℕ, List, [], ◌∷◌, ◌++◌, map, codes, slice_index_or}
use Rattle.std.specs.List.{flat_map}
use Rattle.rg_text.specs.Line.{fed}
use Rattle.rg_theory.specs.declared.Arc.{Arc}
use Rattle.rg_theory.specs.System.{System}
use Rattle.rg_genet.specs.Contents.{Triple, triple}

-- the name at a number
abbrev pub name_at : List (List ℕ) → ℕ → List ℕ
name_at names i = slice_index_or names i []

-- the names of an arc
abbrev pub names_of : System → Arc → Triple
names_of lts a = triple (name_at lts.state_names a.from) (name_at lts.label_names a.label) (name_at lts.state_names a.to)

-- the line of an arc: its three names with a space between
abbrev pub triple_text : Triple → List ℕ
triple_text t = t.from ++ 32 ∷ (t.label ++ 32 ∷ t.to)

-- each label after a space
abbrev pub labels_text : List (List ℕ) → List ℕ
labels_text names = flat_map (λ name. 32 ∷ name) names

-- the text, a line for each arc
abbrev pub graph_text : System → List ℕ
graph_text lts =
    codes ".model lts\n.outputs"
    ++ (labels_text lts.label_names
    ++ (codes "\n.state graph\n"
    ++ (fed (map (λ a. triple_text (names_of lts a)) lts.arcs)
    ++ (codes ".marking {" ++ (name_at lts.state_names lts.initial ++ codes "}\n.end\n")))))
