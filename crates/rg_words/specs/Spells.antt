-- What a word list spells, and its first fault.
use Rattle.std.specs.Prelude.{ℕ, List, length, map}
use Rattle.rg_theory.specs.System.{System}
use Rattle.rg_text.specs.Faults.{IsFirst, AreNone}
use Rattle.rg_line_formats.specs.Parts.{IsSystemWith}
use Rattle.rg_words.specs.declared.fault.WordFault.{WordFault}
use Rattle.rg_words.specs.Contents.{Use, uses, prefixes, label_names, state_names, arc_of, faults}

-- the tree of the prefixes: a state for each, the empty word initial, and an arc from each prefix to each that has one label more
abbrev pub IsTreeOf : List Use → System → Type 0
IsTreeOf all lts =
    let states = prefixes all in
    let labels = label_names all in
    IsSystemWith (state_names (length states)) labels (map (arc_of states labels) all) 0 lts

-- no label is wrong, and the system is the tree of the words
pub record Spells (bytes : List ℕ) (lts : System) : Type 0 where
  pub none : AreNone (faults bytes)
  pub tree : IsTreeOf (uses bytes) lts

-- the first fault of a text
abbrev pub FirstFault : List ℕ → WordFault → Type 0
FirstFault bytes fault = IsFirst (faults bytes) fault
