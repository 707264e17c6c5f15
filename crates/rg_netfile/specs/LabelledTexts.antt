-- The text of a net whose transitions have labels, in the shape of APT's files of labelled nets.
use Rattle.std.specs.Prelude.{◌≡◌, ℕ, ◌==◌, Bool, true, false, not, List, [], ◌∷◌, ◌++◌, length, map, codes, slice_index_or, All, if◌then◌else◌}
use Rattle.std.specs.List.{range_with_len}
use Rattle.rg_text.specs.Byte.{IsName}
use Rattle.rg_text.specs.Line.{fed}
use Rattle.rg_theory.specs.System.{System, labels}
use Rattle.rg_theory.specs.Net.{Net}
use Rattle.rg_net.specs.Range.{IsNetInRange}
use Rattle.rg_net.specs.NetText.{place_name, place_prefix, flow_lines, set_text, starts}

-- the lines of a net, with this first line and these lines of transitions: with `.type PN` and the names alone they are `net_lines`
abbrev pub lines_with : List ℕ → List (List ℕ) → List ℕ → Net → List (List ℕ) → List (List ℕ)
lines_with first transitions prefix net names =
    first ∷ codes ".places"
    ∷ (map (place_name prefix) (range_with_len 0 (length net.places))
    ++ codes ".transitions"
    ∷ (transitions
    ++ codes ".flows"
    ∷ (flow_lines prefix net 0 names ++ (codes ".initial_marking " ++ set_text prefix (starts net)) ∷ [])))

-- a transition with its label: the name, and the label as its option
abbrev pub labelled_line : List ℕ → List ℕ → List ℕ
labelled_line name label = name ++ codes "[label=\"" ++ label ++ codes "\"]"

-- one line for each transition, with its label
abbrev pub labelled_lines : List (List ℕ) → List (List ℕ) → List (List ℕ)
labelled_lines [] labels = []
labelled_lines (name ∷ names) [] = []
labelled_lines (name ∷ names) (label ∷ labels) = labelled_line name label ∷ labelled_lines names labels

-- the name of each of these labels of the system
abbrev pub named_labels : System → List ℕ → List (List ℕ)
named_labels lts ts = map (λ t. slice_index_or lts.label_names t []) ts

-- the text of a labelled net: its transitions are the system's labels, and each has one of these labels
abbrev pub labelled_text : Net → System → List (List ℕ) → List ℕ
labelled_text net system labels =
    fed (lines_with (codes ".type LPN") (labelled_lines system.label_names labels) (place_prefix system.label_names) net system.label_names)

-- the net's transitions are the system's labels, and each has one of these names as its label
pub record IsLabelledNet (system : System) (net : Net) (names : List (List ℕ)) : Type 0 where
  pub transitions : net.labels ≡ labels system
  pub in_range : IsNetInRange net
  pub each : length names ≡ labels system
  pub are : All IsName names

-- the bytes but those in brackets, where the first byte is in brackets or not
abbrev pub outside : Bool → List ℕ → List ℕ
outside bracketed [] = []
outside true (b ∷ bytes) = outside (not (b == 93)) bytes
outside false (b ∷ bytes) = if b == 91 then outside true bytes else b ∷ outside false bytes

-- the bytes without each `[` and those after it to the next `]`
abbrev pub without_options : List ℕ → List ℕ
without_options bytes = outside false bytes
