-- The words of a list, their prefixes, and what may be wrong with them.
use Rattle.std.specs.Prelude.{ℕ, ◌==◌, nat_lt, Bool, false, List, [], ◌∷◌, ◌++◌, length, map, Option, None, Some, decimal, if◌then◌else◌}
use Rattle.std.specs.List.{flat_map, prefix_len, range_with_len}
use Rattle.std.specs.Str.{bytes_eq}
use Rattle.std.specs.Cmp.Lexicographic.{pointwise}
use Rattle.rg_text.specs.Byte.{is_name_byte}
use Rattle.rg_text.specs.Limits.{most_name_bytes}
use Rattle.rg_line_formats.specs.Words.{words}
use Rattle.rg_theory.specs.declared.Arc.{Arc}
use Rattle.rg_text.specs.Faults.{faults_after}
use Rattle.rg_theory.specs.Limits.{most_states, most_labels}
use Rattle.rg_line_formats.specs.First.{firsts, number_of}
use Rattle.rg_line_formats.specs.Numbered.{Line, numbered}
use Rattle.rg_words.specs.declared.fault.WordFault.{WordFault}
use Rattle.rg_words.specs.declared.fault.WordFault.TheVariants.{BadByte, TooManyStates, TooManyLabels, LongName}

-- a word: its labels in order
abbrev pub Word : Type 0
Word = List (List ℕ)

-- a label in a line, and the part of its word before it
pub record Use : Type 0 where
  pub line : ℕ
  pub before : Word
  pub label : List ℕ

-- the labels of a word, from one on, each with the part before it
abbrev pub uses_from : ℕ → Word → Word → List Use
uses_from n before [] = []
uses_from n before (label ∷ labels) =
    record { line = n; before = before; label = label } ∷ uses_from n (before ++ label ∷ []) labels

-- a line whose first word begins with `#` is passed over, and each other one is a word
abbrev pub begins_with_hash : List ℕ → Bool
begins_with_hash [] = false
begins_with_hash (b ∷ more) = b == 35

abbrev pub word_of : List (List ℕ) → Word
word_of [] = []
word_of (first ∷ more) = if begins_with_hash first then [] else first ∷ more

-- all labels of a text, in order
abbrev pub uses : List ℕ → List Use
uses bytes = flat_map (λ (line : Line). uses_from line.0 [] (word_of (words line.1))) (numbered bytes)

-- the part of the word up to a label and with it
abbrev pub prefix : Use → Word
prefix u = u.before ++ u.label ∷ []

abbrev pub same_word : Word → Word → Bool
same_word = pointwise bytes_eq

-- the different labels, and the different prefixes of all words, in the order of first appearance; the first is the empty word
abbrev pub label_names : List Use → List (List ℕ)
label_names all = firsts bytes_eq (map (λ (u : Use). u.label) all)

abbrev pub prefixes : List Use → List Word
prefixes all = firsts same_word ([] ∷ map prefix all)

-- `s0`, `s1`, and so on: n names
abbrev pub state_names : ℕ → List (List ℕ)
state_names n = map (λ i. 115 ∷ decimal i) (range_with_len 0 n)

-- the arc of a label: from the prefix before it to the one with it
abbrev pub arc_of : List Word → List (List ℕ) → Use → Arc
arc_of states labels u = record {
  from = number_of same_word states u.before;
  label = number_of bytes_eq labels u.label;
  to = number_of same_word states (prefix u);
}

-- ---- what may be wrong

abbrev pub name_bytes : List ℕ → ℕ
name_bytes label = prefix_len is_name_byte label

-- the fault of a label in line n, the last of these
abbrev pub fault_of : ℕ → List ℕ → List Use → Option WordFault
fault_of n label all =
    if nat_lt most_name_bytes (name_bytes label) then Some (LongName n)
    else (if nat_lt (name_bytes label) (length label) then Some (BadByte n)
    else (if nat_lt most_labels (length (label_names all)) then Some (TooManyLabels n)
    else (if nat_lt most_states (length (prefixes all)) then Some (TooManyStates n)
    else None)))

abbrev pub use_fault : List Use → Use → Option WordFault
use_fault before u = fault_of u.line u.label (before ++ u ∷ [])

-- all that may be wrong, in the order in which it counts
abbrev pub faults : List ℕ → List (Option WordFault)
faults bytes = faults_after use_fault [] (uses bytes)
