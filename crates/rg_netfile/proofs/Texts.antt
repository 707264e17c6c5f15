-- The lines of a net that are left, and its text whole, with any first line and any lines of transitions.
use Rattle.std.proofs.Common.{◌≡◌, ℕ, suc, ◌+◌, List, [], ◌∷◌, ◌++◌, Some, slice_get, length, map, drop, codes, sym, ap, ◌∙◌, append_assoc}
use Rattle.std.specs.List.{range_with_len}
use Rattle.rg_text.specs.Line.{fed}
use Rattle.std.proofs.lemmas.Option.{get_or_from_slice_get}
use Rattle.rg_theory.specs.System.{System}
use Rattle.rg_theory.specs.Net.{Net}
use Rattle.rg_text.proofs.Grown.{after, first_left, line_left, fed-append}
use Rattle.rg_net.specs.NetText.{place_name, set_text, flow_line, flow_lines, starts}
use Rattle.rg_netfile.specs.LabelledTexts.{lines_with, labelled_line, labelled_lines, named_labels}

pub place_left : (prefix : List ℕ) (i m n : ℕ) → n ≡ suc m
    → fed (map (place_name prefix) (range_with_len i n)) ≡ (place_name prefix i ++ 10 ∷ []) ++ fed
    (map (place_name prefix) (range_with_len (i + 1) m))
place_left prefix i m n e =
    ap (λ n. fed (map (place_name prefix) (range_with_len i n))) e
    ∙ line_left (place_name prefix i) (map (place_name prefix) (range_with_len (i + 1) m))

pub transition_left : (names : List (List ℕ)) (t : ℕ) (name : List ℕ) → slice_get names t ≡ Some name
    → fed (drop t names) ≡ (name ++ 10 ∷ []) ++ fed (drop (t + 1) names)
transition_left names t name at = ap fed (first_left names t name at) ∙ line_left name (drop (t + 1) names)

pub flow_left : (prefix : List ℕ) (net : Net) (names : List (List ℕ)) (t : ℕ) (name : List ℕ) → slice_get names t ≡ Some name
    → fed (flow_lines prefix net t (drop t names)) ≡ (flow_line prefix net t name ++ 10 ∷ []) ++ fed
    (flow_lines prefix net (t + 1) (drop (t + 1) names))
flow_left prefix net names t name at =
    ap (λ l. fed (flow_lines prefix net t l)) (first_left names t name at)
    ∙ line_left (flow_line prefix net t name) (flow_lines prefix net (t + 1) (drop (t + 1) names))

seven_parts : (a b c d e f g : List ℕ) → (((((a ++ b) ++ c) ++ d) ++ e) ++ f) ++ g ≡ a ++ (b ++ (c ++ (d ++ (e ++ (f ++ g)))))
seven_parts a b c d e f g = simp append_assoc

-- the lines of the places' names, as far as a prefix and a number of them tell
abbrev pub place_lines : List ℕ → ℕ → List ℕ
place_lines prefix count = fed (map (place_name prefix) (range_with_len 0 count))

-- the lines of the flows, and the line of the marking
abbrev pub flows_of : List ℕ → Net → List (List ℕ) → List ℕ
flows_of prefix net names = fed (flow_lines prefix net 0 names)

abbrev pub marking_of : List ℕ → Net → List ℕ
marking_of prefix net = codes ".initial_marking " ++ set_text prefix (starts net) ++ 10 ∷ []

pub parts_with : (head : List ℕ) (first : List ℕ) (transitions : List (List ℕ)) (prefix : List ℕ) (net : Net) (names : List (List ℕ))
    → ((more : List (List ℕ)) → fed (first ∷ codes ".places" ∷ more) ≡ head ++ fed more) → fed (lines_with first transitions prefix net names)
    ≡ head ++ (place_lines prefix (length net.places) ++
    (codes ".transitions\n" ++ (fed transitions ++ (codes ".flows\n" ++ (flows_of prefix net names ++ marking_of prefix net)))))
parts_with head first transitions prefix net names heads =
    heads _
    ∙ ap (λ l. head ++ l) (fed-append (map (place_name prefix) (range_with_len 0 (length net.places))) _
    ∙ ap (λ l. place_lines prefix (length net.places) ++ (codes ".transitions\n" ++ l)) (fed-append transitions _
    ∙ ap (λ l. fed transitions ++ (codes ".flows\n" ++ l)) (fed-append (flow_lines prefix net 0 names) _)))

-- a text that grows by these pieces is that of the net
pub whole_text : (head first : List ℕ) (transitions : List (List ℕ)) (prefix p q r : List ℕ) (count : ℕ) (net : Net) (names : List (List ℕ)) (t₀ t₁ t₂ t₃ t₄ t₅ t₆ t₇ : List ℕ)
    → ((more : List (List ℕ)) → fed (first ∷ codes ".places" ∷ more) ≡ head ++ fed more) → p ≡ prefix → count ≡ length net.places → q ≡ prefix → r ≡ prefix → t₀ ≡ []
    → t₁ ≡ t₀ ++ head → t₂ ≡ t₁ ++ place_lines p count → t₃ ≡ t₂ ++ codes ".transitions\n" → t₄ ≡ t₃ ++ fed transitions
    → t₅ ≡ t₄ ++ codes ".flows\n" → t₆ ≡ t₅ ++ flows_of q net names → t₇ ≡ t₆ ++ marking_of r net → t₇ ≡ fed (lines_with first transitions prefix net names)
whole_text head first transitions prefix p q r count net names t₀ t₁ t₂ t₃ t₄ t₅ t₆ t₇ heads ep ec eq er e₀ e₁ e₂ e₃ e₄ e₅ e₆ e₇ =
    after _ _ _ _ e₇ (after _ _ _ _ e₆ (after _ _ _ _ e₅ (after _ _ _ _ e₄
    (after _ _ _ _ e₃ (after _ _ _ _ e₂ (after _ head _ [] e₁ e₀))))))
    ∙ seven_parts head (place_lines p count) (codes ".transitions\n") (fed transitions) (codes ".flows\n")
    (flows_of q net names) (marking_of r net)
    ∙ (λ i. head ++ (place_lines (ep i) (ec i) ++
    (codes ".transitions\n" ++ (fed transitions ++ (codes ".flows\n" ++ (flows_of (eq i) net names ++ marking_of (er i) net))))))
    ∙ sym (parts_with head first transitions prefix net names heads)

-- the line of a transition with its label, and the lines that are left
pub labelled_left : (names : List (List ℕ)) (lts : System) (old : List ℕ) (t u : ℕ) (name label : List ℕ) → slice_get names t ≡ Some name → slice_get old t ≡ Some u
    → slice_get lts.label_names u ≡ Some label
    → fed (labelled_lines (drop t names) (named_labels lts (drop t old))) ≡ (labelled_line name label ++ 10 ∷ []) ++ fed (labelled_lines (drop (t + 1) names) (named_labels lts (drop (t + 1) old)))
labelled_left names lts old t u name label at here there =
    ap (λ l. fed (labelled_lines l (named_labels lts (drop t old)))) (first_left names t name at)
    ∙ ap (λ l. fed (labelled_lines (name ∷ drop (t + 1) names) (named_labels lts l))) (first_left old t u here)
    ∙ ap (λ l. fed (labelled_line name l ∷ labelled_lines (drop (t + 1) names) (named_labels lts (drop (t + 1) old)))) (get_or_from_slice_get lts.label_names u label [] there)
    ∙ line_left (labelled_line name label) (labelled_lines (drop (t + 1) names) (named_labels lts (drop (t + 1) old)))
