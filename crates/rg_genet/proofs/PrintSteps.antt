-- The text of a state graph, piece by piece.
use Rattle.std.proofs.Common.{◌≡◌, ℕ, ◌+◌, List, [], ◌∷◌, ◌++◌, Some, slice_get, map, drop, codes, sym, ap, ◌∙◌, append_assoc}
use Rattle.std.proofs.lemmas.Option.{get_or_from_slice_get}
use Rattle.rg_text.specs.Line.{fed}
use Rattle.rg_theory.specs.declared.Arc.{Arc}
use Rattle.rg_theory.specs.System.{System}
use Rattle.rg_text.proofs.Grown.{after, first_left}
use Rattle.rg_genet.specs.Text.{name_at, names_of, triple_text, graph_text, labels_text}

-- the name at a number
pub name_is : (names : List (List ℕ)) (i : ℕ) (name : List ℕ) → slice_get names i ≡ Some name → name ≡ name_at names i
name_is names i name at = sym (get_or_from_slice_get names i name [] at)

pub label_left : (names : List (List ℕ)) (t : ℕ) (name : List ℕ) → slice_get names t ≡ Some name
    → labels_text (drop t names) ≡ (32 ∷ name) ++ labels_text (drop (t + 1) names)
label_left names t name at = ap labels_text (first_left names t name at)

seven_parts : (a b c d e f g : List ℕ) → (((((a ++ b) ++ c) ++ d) ++ e) ++ f) ++ g ≡ a ++ ((b ++ (c ++ (d ++ (e ++ f)))) ++ g)
seven_parts a b c d e f g = simp append_assoc

-- a text that grows by these pieces is longer by the line of the arc
pub arc_text : (lts : System) (a : Arc) (t₀ t₁ t₂ t₃ t₄ t₅ t₆ from label to : List ℕ)
    → from ≡ name_at lts.state_names a.from → label ≡ name_at lts.label_names a.label → to ≡ name_at lts.state_names a.to
    → t₁ ≡ t₀ ++ from → t₂ ≡ t₁ ++ 32 ∷ [] → t₃ ≡ t₂ ++ label → t₄ ≡ t₃ ++ 32 ∷ [] → t₅ ≡ t₄ ++ to → t₆ ≡ t₅ ++ 10 ∷ []
    → t₆ ≡ t₀ ++ (triple_text (names_of lts a) ++ 10 ∷ [])
arc_text lts a t₀ t₁ t₂ t₃ t₄ t₅ t₆ from label to is_from is_label is_to e₁ e₂ e₃ e₄ e₅ e₆ =
    after _ _ _ _ e₆ (after _ _ _ _ e₅ (after _ _ _ _ e₄ (after _ _ _ _ e₃ (after _ _ _ _ e₂ e₁))))
    ∙ seven_parts t₀ from (32 ∷ []) label (32 ∷ []) to (10 ∷ [])
    ∙ (λ i. t₀ ++ ((is_from i ++ 32 ∷ (is_label i ++ 32 ∷ is_to i)) ++ 10 ∷ []))

eight_parts : (a b c d e f g h : List ℕ) → ((((((a ++ b) ++ c) ++ d) ++ e) ++ f) ++ g) ++ h ≡ a ++ (b ++ (c ++ (d ++ (e ++ (f ++ (g ++ h))))))
eight_parts a b c d e f g h = simp append_assoc

pub whole_graph : (lts : System) (arcs : List Arc) (name t₀ t₁ t₂ t₃ t₄ t₅ t₆ t₇ : List ℕ) → arcs ≡ lts.arcs → name ≡ name_at lts.state_names lts.initial
    → t₁ ≡ t₀ ++ codes ".model lts\n.outputs" → t₂ ≡ t₁ ++ labels_text lts.label_names → t₃ ≡ t₂ ++ codes "\n.state graph\n"
    → t₄ ≡ t₃ ++ fed (map (λ a. triple_text (names_of lts a)) arcs) → t₅ ≡ t₄ ++ codes ".marking {" → t₆ ≡ t₅ ++ name → t₇ ≡ t₆ ++ codes "}\n.end\n"
    → t₇ ≡ t₀ ++ graph_text lts
whole_graph lts arcs name t₀ t₁ t₂ t₃ t₄ t₅ t₆ t₇ same named e₁ e₂ e₃ e₄ e₅ e₆ e₇ =
    after _ _ _ _ e₇ (after _ _ _ _ e₆ (after _ _ _ _ e₅ (after _ _ _ _ e₄ (after _ _ _ _ e₃ (after _ _ _ _ e₂ e₁)))))
    ∙ eight_parts t₀ (codes ".model lts\n.outputs") (labels_text lts.label_names) (codes "\n.state graph\n")
    (fed (map (λ a. triple_text (names_of lts a)) arcs)) (codes ".marking {") name (codes "}\n.end\n")
    ∙ (λ i. t₀ ++ (codes ".model lts\n.outputs"
    ++ (labels_text lts.label_names
    ++ (codes "\n.state graph\n" ++ (fed (map (λ a. triple_text (names_of lts a)) (same i)) ++ (codes ".marking {" ++ (named i ++ codes "}\n.end\n")))))))
