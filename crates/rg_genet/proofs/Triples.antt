-- One arc more: the names on arcs, and the arcs by number.
use Rattle.std.proofs.Common.{◌≡◌, ℕ, zero, suc, List, [], ◌∷◌, ◌++◌, map, Contains, refl, sym, ap, ap₂, ◌∙◌, append_assoc, arith}
use Rattle.std.specs.List.{flat_map}
use Rattle.std.specs.Str.{bytes_eq}
use Rattle.std.proofs.lemmas.List.{map-append}
use Rattle.rg_theory.proofs.Lists.{there_later}
use Rattle.rg_line_formats.specs.First.{with_new, firsts}
use Rattle.rg_line_formats.proofs.Things.{fold-append, grown}
use Rattle.rg_line_formats.proofs.Numbers.{number_stays, met}
use Rattle.rg_genet.specs.Contents.{Triple, ends, state_names, label_names, arc_of, arcs_of}

pub flat_map-append : {X A : Type 0} (f : X → List A) (xs ys : List X) → flat_map f (xs ++ ys) ≡ flat_map f xs ++ flat_map f ys
flat_map-append f [] ys = refl
flat_map-append f (x ∷ xs) ys = ap (λ l. f x ++ l) (flat_map-append f xs ys) ∙ sym (append_assoc (f x) (flat_map f xs) (flat_map f ys))

pub states_more : (arcs : List Triple) (t : Triple) → state_names (arcs ++ t ∷ []) ≡ with_new bytes_eq (with_new bytes_eq (state_names arcs) t.from) t.to
states_more arcs t =
    ap (firsts bytes_eq) (flat_map-append ends arcs (t ∷ [])) ∙ fold-append (with_new bytes_eq) [] (flat_map ends arcs) (t.from ∷ t.to ∷ [])

pub labels_more : (arcs : List Triple) (t : Triple) → label_names (arcs ++ t ∷ []) ≡ with_new bytes_eq (label_names arcs) t.label
labels_more arcs t =
    ap (firsts bytes_eq) (map-append (λ (u : Triple). u.label) arcs (t ∷ [])) ∙ fold-append (with_new bytes_eq) [] (map (λ (u : Triple). u.label) arcs) (t.label ∷ [])

pub end_there : (t : Triple) (arcs : List Triple) → Contains arcs t → Contains (flat_map ends arcs) t.from × Contains (flat_map ends arcs) t.to
end_there t [] (k, lt, e) = absurd (omega arith)
end_there t (u ∷ arcs) (zero, lt, e) = ((zero, omega arith, ap (λ (v : Triple). v.from) e), (suc zero, omega arith, ap (λ (v : Triple). v.to) e))
end_there t (u ∷ arcs) (suc k, lt, e) =
    let r = end_there t arcs (k, omega arith, e) in
    let rest = u.to ∷ flat_map ends arcs in
    (there_later u.from rest t.from (there_later u.to (flat_map ends arcs) t.from r.0), there_later u.from rest t.to (there_later u.to (flat_map ends arcs) t.to r.1))

pub label_there : (t : Triple) (arcs : List Triple) → Contains arcs t → Contains (map (λ (u : Triple). u.label) arcs) t.label
label_there t [] (k, lt, e) = absurd (omega arith)
label_there t (u ∷ arcs) (zero, lt, e) = (zero, omega arith, ap (λ (v : Triple). v.label) e)
label_there t (u ∷ arcs) (suc k, lt, e) = there_later u.label (map (λ (u : Triple). u.label) arcs) t.label (label_there t arcs (k, omega arith, e))

-- the numbers of arcs stay, whatever names come behind
same_numbers : (states labels more_states more_labels : List (List ℕ)) (arcs : List Triple)
    → ((t : Triple) → Contains arcs t → Contains states t.from × Contains labels t.label × Contains states t.to)
    → map (arc_of (states ++ more_states) (labels ++ more_labels)) arcs ≡ map (arc_of states labels) arcs
same_numbers states labels more_states more_labels [] known = refl
same_numbers states labels more_states more_labels (t ∷ arcs) known =
    let k = known t (zero, omega arith, refl) in
    let from = number_stays states more_states t.from k.0 in
    let label = number_stays labels more_labels t.label k.1 in
    let to = number_stays states more_states t.to k.2 in
    let first : arc_of (states ++ more_states) (labels ++ more_labels) t ≡ arc_of states labels t = λ i. record { from = from i; label = label i; to = to i } in
    ap₂ ◌∷◌ first (same_numbers states labels more_states more_labels arcs (λ u h. known u (there_later t arcs u h)))

pub arcs_more : (arcs : List Triple) (t : Triple) → arcs_of (arcs ++ t ∷ []) ≡ arcs_of arcs ++ arc_of (state_names (arcs ++ t ∷ [])) (label_names (arcs ++ t ∷ [])) t ∷ []
arcs_more arcs t =
    let ns = state_names arcs in
    let ls = label_names arcs in
    let one = grown bytes_eq ns t.from in
    let two = grown bytes_eq (with_new bytes_eq ns t.from) t.to in
    let lab = grown bytes_eq ls t.label in
    let states : state_names (arcs ++ t ∷ []) ≡ ns ++ (one.0 ++ two.0) =
    states_more arcs t ∙ two.1 ∙ ap (λ l. l ++ two.0) one.1 ∙ append_assoc ns one.0 two.0 in
    let labels : label_names (arcs ++ t ∷ []) ≡ ls ++ lab.0 = labels_more arcs t ∙ lab.1 in
    let stay = same_numbers ns ls (one.0 ++ two.0) lab.0 arcs
    (λ u h. (
      met [] (flat_map ends arcs) u.from (end_there u arcs h).0,
      met [] (map (λ (v : Triple). v.label) arcs) u.label
          (label_there u arcs h),
      met [] (flat_map ends arcs) u.to (end_there u arcs h).1,
    )) in
    map-append (arc_of (state_names (arcs ++ t ∷ [])) (label_names (arcs ++ t ∷ []))) arcs (t ∷ [])
    ∙ ap (λ l. l ++ arc_of (state_names (arcs ++ t ∷ [])) (label_names (arcs ++ t ∷ [])) t ∷ []) (ap₂ (λ s l. map (arc_of s l) arcs) states labels ∙ stay)
