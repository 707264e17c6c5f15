-- The text of a net, in the shape of APT's net files.
use Rattle.std.specs.Prelude.{ℕ, ◌+◌, ◌==◌, ◌&&◌, Bool, true, false, not, nat_lt, List, [], ◌∷◌, ◌++◌, length, map, drop, take, codes, decimal, if◌then◌else◌, unwrap_or, find}
use Rattle.std.specs.List.{list_any, list_all, range_with_len}
use Rattle.std.specs.Str.{bytes_eq}
use Rattle.std.specs.Char.{is_ascii_digit}
use Rattle.rg_text.specs.Line.{fed}
use Rattle.rg_theory.specs.System.{System}
use Rattle.rg_theory.specs.Net.{Net, pre_weight, post_weight}

-- the name of a place: the prefix and its number
abbrev pub place_name : List ℕ → ℕ → List ℕ
place_name prefix i = prefix ++ decimal i

-- the label is the prefix followed by digits alone, at least one
abbrev pub blocks : List ℕ → List ℕ → Bool
blocks prefix label =
    bytes_eq (take (length prefix) label) prefix
    && (nat_lt (length prefix) (length label) && list_all is_ascii_digit (drop (length prefix) label))

-- `p`, then `p1_`, `p2_` and so on
abbrev pub candidate : ℕ → List ℕ
candidate k = if k == 0 then codes "p" else codes "p" ++ decimal k ++ codes "_"

-- the first of the n candidates from k on that no label blocks, and `p` if each is blocked
abbrev pub first_free : List (List ℕ) → ℕ → ℕ → List ℕ
first_free names k n =
    unwrap_or (find (λ prefix. not (list_any (blocks prefix) names)) (map candidate (range_with_len k n))) (codes "p")

-- of `p`, `p1_`, .., `p256_` the first that no label blocks: with 256 labels at most there is one
unfoldable pub place_prefix : List (List ℕ) → List ℕ
place_prefix names = first_free names 0 257

-- a member of a set: a weight of 1 isn't written
abbrev pub member_text : List ℕ → ℕ → ℕ → List ℕ
member_text prefix i weight =
    if weight == 1 then place_name prefix i else decimal weight ++ codes "*" ++ place_name prefix i

-- a comma and a space, if there is a member before
abbrev pub comma_if : Bool → List ℕ
comma_if later = if later then codes ", " else []

-- the members from place i on, and the closing brace; a weight of 0 isn't written
abbrev pub members_text : List ℕ → Bool → ℕ → List ℕ → List ℕ
members_text prefix later i [] = codes "}"
members_text prefix later i (weight ∷ weights) =
    if weight == 0 then members_text prefix later (i + 1) weights
    else comma_if later ++ (member_text prefix i weight ++ members_text prefix true (i + 1) weights)

-- a set of places with their weights, as `{2*p0, p3}`
abbrev pub set_text : List ℕ → List ℕ → List ℕ
set_text prefix weights = codes "{" ++ members_text prefix false 0 weights

-- what label t takes from each place, and what it puts on each
abbrev pub taken_by : Net → ℕ → List ℕ
taken_by net t = map (λ p. pre_weight p t) net.places

abbrev pub put_by : Net → ℕ → List ℕ
put_by net t = map (λ p. post_weight p t) net.places

-- the flow of label t: its name, what it takes and what it puts
abbrev pub flow_line : List ℕ → Net → ℕ → List ℕ → List ℕ
flow_line prefix net t name = name ++ codes ": " ++ set_text prefix (taken_by net t) ++ codes " -> " ++ set_text prefix (put_by net t)

-- the flows of the labels from t on
abbrev pub flow_lines : List ℕ → Net → ℕ → List (List ℕ) → List (List ℕ)
flow_lines prefix net t [] = []
flow_lines prefix net t (name ∷ names) = flow_line prefix net t name ∷ flow_lines prefix net (t + 1) names

-- the start of each place
abbrev pub starts : Net → List ℕ
starts net = map (λ p. p.start) net.places

-- the lines of a net: the names of its places, the transitions, the flow of each, and the initial marking
abbrev pub net_lines : List ℕ → Net → List (List ℕ) → List (List ℕ)
net_lines prefix net names =
    codes ".type PN" ∷ codes ".places"
    ∷ (map (place_name prefix) (range_with_len 0 (length net.places))
    ++ codes ".transitions"
    ∷ (names
    ++ codes ".flows"
    ∷ (flow_lines prefix net 0 names ++ (codes ".initial_marking " ++ set_text prefix (starts net)) ∷ [])))

-- the text of a net for a system: the transitions are the system's labels
abbrev pub net_text : Net → System → List ℕ
net_text net lts = fed (net_lines (place_prefix lts.label_names) net lts.label_names)
