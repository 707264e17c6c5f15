-- The nets of the factors side by side have few places.
use Rattle.std.proofs.Common.{◌≡◌, ◌≢◌, ℕ, zero, suc, ◌+◌, ◌*◌, ◌<◌, ◌≤◌, ◌⊎◌, inl, inr, List, [], ◌∷◌, ◌++◌, length, map, get_or, Some, Contains, All, AllPairs, refl, sym, ap, subst, ◌∙◌, arith}
use Rattle.std.specs.List.{AllZip, range_with_len}
use Rattle.std.proofs.lemmas.Option.{slice_get-get_or}
use Rattle.std.proofs.lemmas.List.{length-map, length-append, get_or_default}
use Rattle.std.proofs.lemmas.List.FromFn.{length-range_with_len}
use Rattle.std.proofs.lemmas.List.Elements.{Contains-append_cases, All-head, All-tail}
use Rattle.rg_theory.specs.System.{System, states, labels}
use Rattle.rg_theory.specs.Net.{Net}
use Rattle.rg_theory.proofs.Lists.{index_of}
use Rattle.rg_lts.specs.WellFormed.{IsWellFormed}
use Rattle.rg_line_formats.proofs.Things.{pigeons}
use Rattle.rg_product.specs.Product.{Factor, IsFactorAt, IsLabelAt, ShareLabels, name_at}
use Rattle.rg_product.specs.Factoring.{AreFactors, IsFactoring, IsFactoring.of_factors, Factoring.factors as of_all, choices}
use Rattle.rg_product.specs.Beside.{widened, places_beside}
use Rattle.rg_factor.specs.Sizes.{product_of}
use Rattle.rg_factor.specs.Places.{HasFewPlaces}
use Rattle.rg_factor.proofs.Blocking.{range_there}
use Rattle.rg_factor.proofs.Sizing.{choices_are}
use Rattle.rg_factor.proofs.Partings.{sizes_some, sizes_few}
use Rattle.rg_factor.proofs.FewInAll.{sum_of, most_beside, few_in_all}

-- each label stands once in all
abbrev StandOnce : List Factor → Type 0
StandOnce fs = (t i k j l : ℕ) (f g : Factor) → IsFactorAt fs i f → IsLabelAt f k t → IsFactorAt fs j g → IsLabelAt g l t → (i ≡ j) × (k ≡ l)

abbrev all_labels : List Factor → List ℕ
all_labels [] = []
all_labels (f ∷ fs) = f.labels ++ all_labels fs

record HasHome (fs : List Factor) (t : ℕ) : Type 0 where
  i : ℕ
  k : ℕ
  f : Factor
  at : IsFactorAt fs i f
  label : IsLabelAt f k t

home : (fs : List Factor) (t : ℕ) → Contains (all_labels fs) t → HasHome fs t
home [] t (k, lt, at) = absurd (omega arith)
home (f ∷ fs) t has = by (Contains-append_cases f.labels (all_labels fs) t has) (home fs t)
  where
    by : Contains f.labels t ⊎ Contains (all_labels fs) t → (Contains (all_labels fs) t → HasHome fs t) → HasHome (f ∷ fs) t
    by (inl here) more = let (k, at) = index_of f.labels t here in record { i = zero; k = k; f = f; at = refl; label = at }
    by (inr rest) more = let h = more rest in record { i = suc h.i; k = h.k; f = h.f; at = h.at; label = h.label }

append_differ : (xs ys : List ℕ) → AllPairs (λ a b. a ≢ b) xs → AllPairs (λ a b. a ≢ b) ys → ((x : ℕ) → Contains xs x → Contains ys x → ⊥) → AllPairs (λ a b. a ≢ b) (xs ++ ys)
append_differ [] ys here there apart i j d less lt e = there i j d less lt e
append_differ (x ∷ xs) ys here there apart zero zero d less lt e = absurd (omega arith)
append_differ (x ∷ xs) ys here there apart zero (suc j) d less lt e = by (Contains-append_cases xs ys x (j, omega arith, get_or_default (xs ++ ys) j x d (omega arith) ∙ sym e))
  where
    by : Contains xs x ⊎ Contains ys x → ⊥
    by (inl (k, within, at)) = here zero (suc k) x (omega arith) (omega arith) (sym at)
    by (inr has) = apart x (zero, omega arith, refl) has
append_differ (x ∷ xs) ys here there apart (suc i) zero d less lt e = absurd (omega arith)
append_differ (x ∷ xs) ys here there apart (suc i) (suc j) d less lt e =
    append_differ xs ys (λ a b c p q. here (suc a) (suc b) c (omega arith) (omega arith)) there (λ y (k, within, at) has. apart y (suc k, omega arith, at) has) i j d (omega arith) (omega arith) e

labels_differ : (fs : List Factor) → StandOnce fs → AllPairs (λ a b. a ≢ b) (all_labels fs)
labels_differ [] once = λ i j d less lt e. (absurd (omega arith))
labels_differ (f ∷ fs) once = append_differ f.labels (all_labels fs) own
    (labels_differ fs (λ t i k j l g h at label at' label'. (let (same, equal) = once t (suc i) k (suc j) l g h at label at' label' in (omega arith, equal)))) apart
  where
    own : AllPairs (λ a b. a ≢ b) f.labels
    own i j d less lt e =
        let at = slice_get-get_or f.labels i d (omega arith) in
        let at' = slice_get-get_or f.labels j d lt in
        let (zeros, same) = once (get_or f.labels i d) zero i zero j f f refl at refl (at' ∙ ap (λ t. Some t) (sym e)) in
        omega arith

    apart : (t : ℕ) → Contains f.labels t → Contains (all_labels fs) t → ⊥
    apart t here rest =
        let (k, at) = index_of f.labels t here in
        let h = home fs t rest in
        let (same, equal) = once t zero k (suc h.i) h.k f h.f refl at h.at h.label in
        omega arith

labels_few : (lts : System) (fs : List Factor) → ShareLabels lts fs → length (all_labels fs) ≤ labels lts
labels_few lts fs shared =
    let n = pigeons (all_labels fs) (range_with_len 0 (labels lts)) (labels_differ fs shared.one)
    (λ t has. (let h = home fs t has in range_there (labels lts) t (shared.within h.i h.k t h.f h.at h.label))) in
    let m = length-range_with_len 0 (labels lts) in
    omega arith

sum_is : (fs : List Factor) → sum_of (map (λ (f : Factor). length f.labels) fs) ≡ length (all_labels fs)
sum_is [] = refl
sum_is (f ∷ fs) = ap (λ n. length f.labels + n) (sum_is fs) ∙ sym (length-append f.labels (all_labels fs))

-- as many states as are reached, as many labels as the block has
sizes_are : (lts : System) (blocks reached : List (List ℕ)) (fs : List Factor) → AreFactors lts blocks reached fs → map length reached ≡ map (λ (f : Factor). states f.lts) fs
sizes_are lts [] [] [] are = refl
sizes_are lts [] [] (f ∷ fs) are = absurd are
sizes_are lts [] (r ∷ reached) fs are = absurd are
sizes_are lts (b ∷ blocks) [] fs are = absurd are
sizes_are lts (b ∷ blocks) (r ∷ reached) [] are = absurd are
sizes_are lts (b ∷ blocks) (r ∷ reached) (f ∷ fs) (is, part, rest) =
    let n : length r ≡ states f.lts = sym (ap length part.state_names ∙ length-map r (name_at lts.state_names)) in
    ap (λ k. k ∷ map length reached) n ∙ ap (λ ks. states f.lts ∷ ks) (sizes_are lts blocks reached fs rest)

labels_are : (lts : System) (blocks reached : List (List ℕ)) (fs : List Factor) → AreFactors lts blocks reached fs
    → All (λ (b : List ℕ). 0 < length b) blocks → length fs ≤ sum_of (map (λ (f : Factor). length f.labels) fs)
labels_are lts [] [] [] are filled = omega arith
labels_are lts [] [] (f ∷ fs) are filled = absurd are
labels_are lts [] (r ∷ reached) fs are filled = absurd are
labels_are lts (b ∷ blocks) [] fs are filled = absurd are
labels_are lts (b ∷ blocks) (r ∷ reached) [] are filled = absurd are
labels_are lts (b ∷ blocks) (r ∷ reached) (f ∷ fs) (is, part, rest) filled =
    let some = All-head (λ (c : List ℕ). 0 < length c) b blocks filled in
    let more = labels_are lts blocks reached fs rest (All-tail (λ (c : List ℕ). 0 < length c) b blocks filled) in
    let n = ap length is in
    omega arith

beside_few : (lts : System) (blocks reached : List (List ℕ)) (fs : List Factor) (nets : List Net) (n : ℕ) → AreFactors lts blocks reached fs → AllZip HasFewPlaces fs nets
    → length (places_beside n fs nets) ≤ most_beside (map (λ (f : Factor). states f.lts) fs) (map (λ (f : Factor). length f.labels) fs)
beside_few lts [] [] [] nets n are few = omega arith
beside_few lts [] [] (f ∷ fs) nets n are few = absurd are
beside_few lts [] (r ∷ reached) fs nets n are few = absurd are
beside_few lts (b ∷ blocks) [] fs nets n are few = absurd are
beside_few lts (b ∷ blocks) (r ∷ reached) [] nets n are few = absurd are
beside_few lts (b ∷ blocks) (r ∷ reached) (f ∷ fs) [] n are few = absurd few
beside_few lts (b ∷ blocks) (r ∷ reached) (f ∷ fs) (net ∷ nets) n (is, part, rest) (few, more) =
    let a = length-append (map (widened n f.labels) net.places) (places_beside n fs nets) in
    let c = length-map net.places (widened n f.labels) in
    let e : labels f.lts ≡ length f.labels = ap length part.label_names ∙ length-map b (name_at lts.label_names) ∙ sym (ap length is) in
    let few' : length net.places ≤ 1 + (states f.lts * length f.labels + states f.lts * states f.lts) = subst (λ k. length net.places ≤ 1 + (states f.lts * k + states f.lts * states f.lts)) e few in
    let g = beside_few lts blocks reached fs nets n rest more in
    omega arith

-- no more factors than labels
pub factors_few : (lts : System) (fs : List Factor) (tuples : List (List ℕ)) → IsFactoring lts (of_all fs tuples) → length fs ≤ labels lts
factors_few lts fs tuples (of_factors blocks reached _ _ parted many parts product) =
    let sum = sum_is fs in
    let few = labels_few lts fs product.shared in
    let each = labels_are lts blocks reached fs parts parted.are_blocks.filled in
    omega arith

pub few_beside : (lts : System) (fs : List Factor) (tuples : List (List ℕ)) (nets : List Net) → IsWellFormed lts → IsFactoring lts (of_all fs tuples)
    → AllZip HasFewPlaces fs nets → length (places_beside (labels lts) fs nets) < 4294967296
few_beside lts fs tuples nets fine (of_factors blocks reached _ _ parted many parts product) few =
    let ns = map (λ (f : Factor). states f.lts) fs in
    let ls = map (λ (f : Factor). length f.labels) fs in
    let sizes = sizes_are lts blocks reached fs parts in
    let sum : sum_of ls ≤ 256 = (let a = sum_is fs in let b = labels_few lts fs product.shared in let c = fine.few_labels in omega arith) in
    let count : length ns ≤ 256 =
    (let a = factors_few lts fs tuples (of_factors blocks reached fs tuples parted many parts product) in
    let b = length-map fs (λ (f : Factor). states f.lts) in let c = fine.few_labels in omega arith) in
    let tuples_few : product_of ns ≤ 4096 = (let a : choices reached ≡ product_of ns = choices_are reached ∙ ap product_of sizes in let c = fine.few_states in omega arith) in
    let all = few_in_all ns ls (subst (All (λ n. 0 < n)) sizes (sizes_some lts blocks reached parted.are_reached))
    (subst (All (λ n. n ≤ 4096)) sizes (sizes_few lts fine.in_range fine.few_states blocks reached parted.are_reached)) tuples_few count sum in
    let b = beside_few lts blocks reached fs nets (labels lts) parts few in
    omega arith
