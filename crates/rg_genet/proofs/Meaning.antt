-- A text spells one system or has one first fault.
use Rattle.std.proofs.Common.{◌≡◌, ◌⊎◌, inl, inr, ⊎_elim, ℕ, List, [], ◌∷◌, ◌++◌, Option, None, Some, map, refl, sym, ap, subst, ◌∙◌}
use Rattle.std.specs.Str.{bytes_eq}
use Rattle.rg_theory.specs.System.{System}
use Rattle.rg_text.specs.Faults.{faults_after, if_not, AreNone}
use Rattle.rg_text.proofs.Left.{one_first, none_or_first, some_first}
use Rattle.rg_line_formats.specs.First.{number_of}
use Rattle.rg_line_formats.specs.Numbered.{Line}
use Rattle.rg_line_formats.proofs.Parts.{some_with, one_with}
use Rattle.rg_genet.specs.declared.fault.GraphFault.{GraphFault}
use Rattle.rg_genet.specs.declared.fault.GraphFault.TheVariants.{NoEnd}
use Rattle.rg_genet.specs.Contents.{Triple, heading, body, is_closed, heading_fault, line_fault, last_faults, triples, markings, state_names, label_names, arc_of, faults}
use Rattle.rg_genet.specs.Spells.{or_alone, IsGraphOf, Spells, FirstFault}
use Rattle.rg_genet.proofs.Marked.{one_marking}

pub none_both : {F : Type 0} (xs ys : List (Option F)) → AreNone (xs ++ ys) → AreNone xs × AreNone ys
none_both [] ys none = (tt, none)
none_both (None ∷ xs) ys none = none_both xs ys none
none_both (Some f ∷ xs) ys none = absurd none

-- the marking of a text without a fault
marked : (states : List (List ℕ)) (found : List Line) → AreNone (last_faults states found) → (m : Line) × (more : List Line) × (found ≡ m ∷ more)
marked states [] none = absurd none
marked states (m ∷ more) none = (m, more, refl)

pub graph_exists : (arcs : List Triple) (name : List ℕ) → (lts : System) × IsGraphOf arcs name lts
graph_exists arcs name =
    let states = or_alone (state_names arcs) name in
    let labels = label_names arcs in
    some_with states labels (map (arc_of states labels) arcs) (number_of bytes_eq states name)

pub one_graph : (arcs : List Triple) (name : List ℕ) (a b : System) → IsGraphOf arcs name a → IsGraphOf arcs name b → a ≡ b
one_graph arcs name a b x y =
    let states = or_alone (state_names arcs) name in
    let labels = label_names arcs in
    one_with states labels (map (arc_of states labels) arcs) (number_of bytes_eq states name) a b x y

pub spelled_of : (bytes : List ℕ) → AreNone (faults bytes) → (a : System) × Spells bytes a
spelled_of bytes none =
    let lines = body bytes in
    let first = map heading_fault (heading bytes) in
    let second = faults_after line_fault [] lines in
    let third = if_not (is_closed bytes) NoEnd in
    let last = last_faults (state_names (triples lines)) (markings lines) in
    let upper = none_both (first ++ second ++ third) last none in
    let middle = none_both (first ++ second) third upper.0 in
    let parts = none_both first second middle.0 in
    let m = marked (state_names (triples lines)) (markings lines) upper.1 in
    let alone = one_marking [] m.0 m.1 lines refl parts.1 m.2 in
    let system = graph_exists (triples lines) m.0.1 in
    (system.0, record { none = none; marking = m.0; only = m.2 ∙ ap (λ l. m.0 ∷ l) alone; system = system.1 })

pub answered : (bytes : List ℕ) → ((a : System) × Spells bytes a) ⊎ ((f : GraphFault) × FirstFault bytes f)
answered bytes = ⊎_elim (λ none. inl (spelled_of bytes none)) (λ first. inr first) (some_first (faults bytes))

one_head : (m n : Line) → m ∷ [] ≡ n ∷ [] → m ≡ n
one_head m n e = cc

pub one_spelled : (bytes : List ℕ) (a b : System) → Spells bytes a → Spells bytes b → a ≡ b
one_spelled bytes a b x y =
    let arcs = triples (body bytes) in
    let same = one_head y.marking x.marking (sym y.only ∙ x.only) in
    one_graph arcs x.marking.1 a b x.system (subst (λ (m : Line). IsGraphOf arcs m.1 b) same y.system)

pub one_fault : (bytes : List ℕ) (f g : GraphFault) → FirstFault bytes f → FirstFault bytes g → f ≡ g
one_fault bytes f g x y = one_first (faults bytes) f g x y

pub spelled_or_fault : (bytes : List ℕ) (a : System) (f : GraphFault) → Spells bytes a → FirstFault bytes f → ⊥
spelled_or_fault bytes a f x y = none_or_first (faults bytes) f x.none y
