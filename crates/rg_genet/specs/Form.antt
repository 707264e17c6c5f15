-- The lines of a state graph, and what each says.
use Rattle.std.specs.Prelude.{ℕ, ◌==◌, Bool, true, false, not, ◌||◌, ◌&&◌, List, [], ◌∷◌, length, codes, if◌then◌else◌}
use Rattle.std.specs.List.{before_first, flat_map, list_all}
use Rattle.std.specs.Str.{bytes_eq}
use Rattle.rg_text.specs.Byte.{is_name_byte}
use Rattle.rg_line_formats.specs.Words.{words}

-- a line up to its first `#`
abbrev pub uncommented : List ℕ → List ℕ
uncommented line = before_first (λ b. b == 35) line

-- a brace is read as if there were blanks round it
abbrev pub apart : ℕ → List ℕ
apart b = if (b == 123) || (b == 125) then 32 ∷ b ∷ 32 ∷ [] else b ∷ []

-- the words of a line before its comment, each brace a word of its own; no word is empty
abbrev pub tokens : List ℕ → List (List ℕ)
tokens line = words (flat_map apart (uncommented line))

-- some name bytes and no others, however many
abbrev pub is_named : List ℕ → Bool
is_named word = not (length word == 0) && list_all is_name_byte word

-- the two words before the arcs
abbrev pub opens_by : List (List ℕ) → Bool
opens_by (first ∷ second ∷ []) = bytes_eq first (codes ".state") && bytes_eq second (codes "graph")
opens_by _ = false

-- nothing, or a word that begins with a `.`
abbrev pub begins_with_dot : List ℕ → Bool
begins_with_dot [] = false
begins_with_dot (b ∷ more) = b == 46

abbrev pub passes_by : List (List ℕ) → Bool
passes_by [] = true
passes_by (word ∷ more) = begins_with_dot word

-- what a line after `.state graph` says
pub data Form : Type 0 where
  blank : Form  -- no word
  arc_line : List ℕ → List ℕ → List ℕ → Form  -- three words of name bytes
  marking_line : List ℕ → Form  -- `.marking`, `{`, a word of name bytes, `}`
  closing : Form  -- `.end` alone
  other : Form

abbrev pub form_of : List (List ℕ) → Form
form_of [] = blank
form_of (word ∷ []) = if bytes_eq word (codes ".end") then closing else other
form_of (from ∷ label ∷ to ∷ []) = if is_named from && (is_named label && is_named to) then arc_line from label to else other
form_of (word ∷ left ∷ name ∷ right ∷ []) =
    if bytes_eq word (codes ".marking") && (bytes_eq left (codes "{") && (is_named name && bytes_eq right (codes "}"))) then marking_line name
    else other
form_of _ = other

abbrev pub is_closing : Form → Bool
is_closing closing = true
is_closing _ = false
