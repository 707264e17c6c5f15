-- The text of a system as it grows, and the lines that are left.
use Rattle.std.proofs.Common.{◌≡◌, ℕ, ◌+◌, List, [], ◌∷◌, ◌++◌, Some, slice_get, map, drop, codes, sym, ap, ◌∙◌, append_assoc}
use Rattle.std.proofs.lemmas.Option.{get_or_from_slice_get}
use Rattle.rg_text.specs.Line.{fed}
use Rattle.rg_theory.specs.declared.Arc.{Arc}
use Rattle.rg_theory.specs.System.{System}
use Rattle.rg_text.proofs.Grown.{after, first_left, line_left, fed-append}
use Rattle.rg_apt.specs.Plain.{state_line, state_lines, arc_line, plain_lines, name_at}

pub state_left : (initial : ℕ) (names : List (List ℕ)) (s : ℕ) (name : List ℕ) → slice_get names s ≡ Some name
    → fed (state_lines initial s (drop s names)) ≡ (state_line initial s name ++ 10 ∷ []) ++ fed (state_lines initial (s + 1) (drop (s + 1) names))
state_left initial names s name at =
    ap (λ l. fed (state_lines initial s l)) (first_left names s name at)
    ∙ line_left (state_line initial s name) (state_lines initial (s + 1) (drop (s + 1) names))

pub label_left : (names : List (List ℕ)) (t : ℕ) (name : List ℕ) → slice_get names t ≡ Some name
    → fed (drop t names) ≡ (name ++ 10 ∷ []) ++ fed (drop (t + 1) names)
label_left names t name at = ap fed (first_left names t name at) ∙ line_left name (drop (t + 1) names)

-- the name at a number
pub name_is : (names : List (List ℕ)) (i : ℕ) (name : List ℕ) → slice_get names i ≡ Some name → name ≡ name_at names i
name_is names i name at = sym (get_or_from_slice_get names i name [] at)

seven_parts : (a b c d e f g : List ℕ) → (((((a ++ b) ++ c) ++ d) ++ e) ++ f) ++ g ≡ a ++ ((b ++ (c ++ (d ++ (e ++ f)))) ++ g)
seven_parts a b c d e f g = simp append_assoc

-- a text that grows by these pieces is longer by the line of the arc
pub arc_text : (lts : System) (a : Arc) (t₀ t₁ t₂ t₃ t₄ t₅ t₆ from label to : List ℕ)
    → from ≡ name_at lts.state_names a.from → label ≡ name_at lts.label_names a.label → to ≡ name_at lts.state_names a.to
    → t₁ ≡ t₀ ++ from → t₂ ≡ t₁ ++ 32 ∷ [] → t₃ ≡ t₂ ++ label → t₄ ≡ t₃ ++ 32 ∷ [] → t₅ ≡ t₄ ++ to → t₆ ≡ t₅ ++ 10 ∷ []
    → t₆ ≡ t₀ ++ (arc_line lts a ++ 10 ∷ [])
arc_text lts a t₀ t₁ t₂ t₃ t₄ t₅ t₆ from label to is_from is_label is_to e₁ e₂ e₃ e₄ e₅ e₆ =
    after _ _ _ _ e₆ (after _ _ _ _ e₅ (after _ _ _ _ e₄ (after _ _ _ _ e₃ (after _ _ _ _ e₂ e₁))))
    ∙ seven_parts t₀ from (32 ∷ []) label (32 ∷ []) to (10 ∷ [])
    ∙ (λ i. t₀ ++ ((is_from i ++ 32 ∷ (is_label i ++ 32 ∷ is_to i)) ++ 10 ∷ []))

-- the parts of a plain text
pub text_parts : (lts : System) (listed : List Arc) → fed (plain_lines lts listed)
    ≡ codes ".type LTS\n.states\n" ++ (fed (state_lines lts.initial 0 lts.state_names)
    ++ (codes ".labels\n" ++ (fed lts.label_names ++ (codes ".arcs\n" ++ fed (map (arc_line lts) listed)))))
text_parts lts listed =
    ap (λ l. codes ".type LTS\n.states\n" ++ l) (fed-append (state_lines lts.initial 0 lts.state_names) _
    ∙ ap (λ l. fed (state_lines lts.initial 0 lts.state_names) ++ (codes ".labels\n" ++ l)) (fed-append lts.label_names _))

six_parts : (a b c d e f : List ℕ) → ((((a ++ b) ++ c) ++ d) ++ e) ++ f ≡ a ++ (b ++ (c ++ (d ++ (e ++ f))))
six_parts a b c d e f = simp append_assoc

-- a text that grows by these pieces is that of the system
pub whole_text : (lts : System) (arcs : List Arc) (t₀ t₁ t₂ t₃ t₄ t₅ t₆ : List ℕ) → arcs ≡ lts.arcs → t₀ ≡ []
    → t₁ ≡ t₀ ++ codes ".type LTS\n.states\n" → t₂ ≡ t₁ ++ fed (state_lines lts.initial 0 lts.state_names) → t₃ ≡ t₂ ++ codes ".labels\n"
    → t₄ ≡ t₃ ++ fed lts.label_names → t₅ ≡ t₄ ++ codes ".arcs\n" → t₆ ≡ t₅ ++ fed (map (arc_line lts) arcs)
    → t₆ ≡ fed (plain_lines lts lts.arcs)
whole_text lts arcs t₀ t₁ t₂ t₃ t₄ t₅ t₆ same e₀ e₁ e₂ e₃ e₄ e₅ e₆ =
    after _ _ _ _ e₆ (after _ _ _ _ e₅ (after _ _ _ _ e₄ (after _ _ _ _ e₃
    (after _ _ _ _ e₂ (after _ (codes ".type LTS\n.states\n") _ [] e₁ e₀)))))
    ∙ six_parts (codes ".type LTS\n.states\n") (fed (state_lines lts.initial 0 lts.state_names)) (codes ".labels\n") (fed lts.label_names)
    (codes ".arcs\n") (fed (map (arc_line lts) arcs))
    ∙ sym (text_parts lts arcs) ∙ ap (λ l. fed (plain_lines lts l)) same
