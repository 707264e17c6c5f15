-- Places that the code reads, as places of the theory.
use Rattle.std.proofs.Common.{◌≡◌, ℕ, ◌+◌, ◌<◌, ◌≤◌, List, length, map, get_or, Some, slice_get, All, ⊎_elim, refl, sym, ap, ◌∙◌, subst, arith}
use Rattle.std.specs.Option.{option_map}
use Rattle.std.proofs.lemmas.Bool.{cases_lt}
use Rattle.std.proofs.lemmas.Grind.{get_or_default_zero}
use Rattle.std.proofs.lemmas.List.{length-map}
use Rattle.std.proofs.lemmas.Option.{same_Some, slice_get-map, slice_get_read, slice_get_within, get_or_from_slice_get}
use Rattle.rg_theory.specs.Net.{Place, Net, IsPlaceAt}
use Rattle.rg_net.specs.declared.net.Place.{Place as PlaceOfCode}
use Rattle.rg_net.specs.Range.{IsPlaceInRange, IsNetInRange}
use Rattle.rg_net.specs.Shown.{shown_place}

-- a place that was read is the net's
pub place_read : (net : Net) (ps : List PlaceOfCode) (i : ℕ) (x : PlaceOfCode) → map shown_place ps ≡ net.places → i < length ps → x ≡ get_or ps i x → IsPlaceAt net i (shown_place x)
place_read net ps i x are lt e = subst (λ qs. slice_get qs i ≡ Some (shown_place x)) are (slice_get-map shown_place ps i ∙ ap (option_map shown_place) (slice_get_read ps (length ps) i x refl lt e))

at_place : (P : Place → Type 0) (net : Net) (i : ℕ) (p : Place) → All P net.places → IsPlaceAt net i p → P p
at_place P net i p all at = subst P (get_or_from_slice_get net.places i p p at) (all i p (slice_get_within net.places i p at))

pub place_in_range : (net : Net) (i : ℕ) (p : Place) → IsNetInRange net → IsPlaceAt net i p → IsPlaceInRange p
place_in_range net i p range at = at_place IsPlaceInRange net i p range.places at

-- it has one weight of each kind for each label
pub weights_of : (net : Net) (i : ℕ) (p : Place) → IsNetInRange net → IsPlaceAt net i p → (length p.pre ≡ net.labels) × (length p.post ≡ net.labels)
weights_of net i p range at = at_place (λ q. (length q.pre ≡ net.labels) × (length q.post ≡ net.labels)) net i p range.weights at

-- a number that was read
pub number_read : (xs : List ℕ) (i x : ℕ) → i < length xs → x ≡ get_or xs i x → x ≡ get_or xs i 0
number_read xs i x lt e = e ∙ get_or_default_zero xs i x lt

-- what holds at the places below i and at i holds at those below i + 1, and in the end at all
pub placed_more : (P : ℕ → Place → Type 0) (net : Net) (i : ℕ) (x : Place) → ((j : ℕ) (p : Place) → j < i → IsPlaceAt net j p → P j p)
    → IsPlaceAt net i x → P i x → (j : ℕ) (p : Place) → j < i + 1 → IsPlaceAt net j p → P j p
placed_more P net i x before at here j p lt at' =
    ⊎_elim
    (λ less. before j p less at')
    (λ more. (let e : j ≡ i = omega arith in
    subst (λ k. P k p) (sym e) (subst (P i) (same_Some x p (sym at ∙ subst (λ k. slice_get net.places k ≡ Some p) e at')) here)))
    (cases_lt j i)

pub placed_all : (P : ℕ → Place → Type 0) (net : Net) (i : ℕ) → length net.places ≤ i → ((j : ℕ) (p : Place) → j < i → IsPlaceAt net j p → P j p) → (j : ℕ) (p : Place) → IsPlaceAt net j p → P j p
placed_all P net i past before j p at = before j p (let lt = slice_get_within net.places j p at in omega arith) at

-- as many are read as there are
pub count_of : (net : Net) (ps : List PlaceOfCode) → map shown_place ps ≡ net.places → length ps ≡ length net.places
count_of net ps are = sym (length-map ps shown_place) ∙ ap length are
