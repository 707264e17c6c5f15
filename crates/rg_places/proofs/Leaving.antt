-- The numbers of the states that a label leaves, state by state.
use Rattle.std.proofs.Common.{◌≡◌, ℕ, ◌+◌, ◌<◌, List, [], ◌∷◌, ◌++◌, length, map, take, slice_index_or, ap, ap₂, sym, ◌∙◌, arith}
use Rattle.std.specs.Prelude.{slice_index}
use Rattle.std.proofs.lemmas.List.{map-append, take_more}
use Rattle.std.proofs.lemmas.List.Elements.{Contains-get_or}
use Rattle.rg_theory.specs.System.{System, states}
use Rattle.rg_fraction.specs.declared.fraction.Fraction.{Fraction}
use Rattle.rg_folds.specs.Fold.{ratio_of}
use Rattle.rg_case_folds.specs.Rewriting.{has_label_at, states_with}
use Rattle.rg_case_folds.specs.Placing.{ratio_at}
use Rattle.rg_case_folds.proofs.Lists.{where_is}
use Rattle.rg_places.specs.PointValues.{ratios_of}
use Rattle.rg_places.proofs.FractionSteps.{ratio_there}

-- a state with an arc of the label is a state
pub state_below : (lts : System) (t k : ℕ) → k < length (states_with lts t) → slice_index (states_with lts t) k < states lts
state_below lts t k lt =
    let w = where_is (λ q. has_label_at q t lts.arcs) 0 (states lts) (slice_index (states_with lts t) k) (Contains-get_or (states_with lts t) k 0 lt) in
    let below = w.2 in
    omega arith

-- one number more
pub left_next : (numbers left : List Fraction) (found : List ℕ) (i : ℕ) (number : Fraction) → ratios_of left ≡ map (ratio_at (ratios_of numbers)) (take i found) → i < length found
    → slice_index found i < length numbers → number ≡ slice_index_or numbers (slice_index found i) number
    → ratios_of (left ++ number ∷ []) ≡ map (ratio_at (ratios_of numbers)) (take (i + 1) found)
left_next numbers left found i number so_far lt below at =
    map-append ratio_of left (number ∷ [])
    ∙ ap₂ (λ xs x. xs ++ x ∷ []) so_far (ratio_there numbers (slice_index found i) number below at)
    ∙ sym (ap (map (ratio_at (ratios_of numbers))) (take_more found i 0 lt) ∙ map-append (ratio_at (ratios_of numbers)) (take i found) (slice_index found i ∷ []))
