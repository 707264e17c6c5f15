-- States and labels that are added name by name.
use Rattle.std.proofs.Common.{◌≡◌, ◌≢◌, ℕ, ◌+◌, ◌<◌, ◌≤◌, List, [], ◌∷◌, ◌++◌, length, take, get_or, Contains, AllPairs, String, string_bytes, sym, ap, subst, ◌∙◌, arith}
use Rattle.std.specs.declared.alloc.Global.{Global}
use Rattle.std.proofs.lemmas.List.{length-map, length-take-le, get_or-take}
use Rattle.rg_text.specs.Byte.{IsName}
use Rattle.rg_lts.specs.Draft.{Draft}
use Rattle.rg_lts.specs.WellFormed.{AreNames}
use Rattle.rg_families.specs.Named.{names_of}
use Rattle.rg_families.proofs.Pushed.{next_taken, get_or_shown}

-- the name at an index
name_at : (names : List (String Global)) (k : ℕ) (s : String Global) → k < length names → s ≡ get_or names k s → get_or (names_of names) k (string_bytes s) ≡ string_bytes s
name_at names k s lt is = get_or_shown string_bytes names k s (string_bytes s) lt ∙ ap string_bytes (sym is)

pub next_is_name : (names : List (String Global)) (k : ℕ) (s : String Global) → AreNames (names_of names) → k < length names → s ≡ get_or names k s → IsName (string_bytes s)
next_is_name names k s are lt is = subst IsName (name_at names k s lt is) (are.each k (string_bytes s) (omega (arith, length-map names string_bytes)))

-- it isn't among those before
before_differ : (xs : List (List ℕ)) (k : ℕ) (x : List ℕ) → AllPairs (λ a b. a ≢ b) xs → k < length xs → get_or xs k x ≡ x → Contains (take k xs) x → ⊥
before_differ xs k x differ lt at (i, within, e) =
    let less : i < k = omega (arith, within, length-take-le k xs (omega arith)) in
    differ i k x less lt (sym (get_or-take k xs i x less) ∙ e ∙ sym at)

pub next_is_new : (names : List (String Global)) (k : ℕ) (s : String Global) → AreNames (names_of names) → k < length names → s ≡ get_or names k s
    → Contains (take k (names_of names)) (string_bytes s) → ⊥
next_is_new names k s are lt is = before_differ (names_of names) k (string_bytes s) are.differ (omega (arith, length-map names string_bytes)) (name_at names k s lt is)

-- there is room for it
pub has_room : (names : List (String Global)) (k most : ℕ) → k < length names → length (names_of names) ≤ most → most ≤ length (take k (names_of names)) → ⊥
has_room names k most lt few full = omega (arith, length-map names string_bytes, length-take-le k (names_of names) (omega (arith, length-map names string_bytes)))

pub state_next : (old mid new : Draft) (names : List (String Global)) (k : ℕ) (s : String Global) (name : List ℕ) → k < length names → s ≡ get_or names k s → name ≡ string_bytes s
    → mid ≡ record old { state_names = take k (names_of names) } → new ≡ record mid { state_names = mid.state_names ++ name ∷ [] } → new ≡ record old { state_names = take (k + 1) (names_of names) }
state_next old mid new names k s name lt is named was added =
    let more : mid.state_names ++ name ∷ [] ≡ take (k + 1) (names_of names) =
    ap (λ (d : Draft). d.state_names ++ name ∷ []) was ∙ ap (λ n. take k (names_of names) ++ n ∷ []) named ∙ sym (next_taken string_bytes names k s lt is) in
    added ∙ (λ i. record (was i) { state_names = more i })

pub label_next : (old mid new : Draft) (names : List (String Global)) (k : ℕ) (s : String Global) (name : List ℕ) → k < length names → s ≡ get_or names k s → name ≡ string_bytes s
    → mid ≡ record old { label_names = take k (names_of names) } → new ≡ record mid { label_names = mid.label_names ++ name ∷ [] } → new ≡ record old { label_names = take (k + 1) (names_of names) }
label_next old mid new names k s name lt is named was added =
    let more : mid.label_names ++ name ∷ [] ≡ take (k + 1) (names_of names) =
    ap (λ (d : Draft). d.label_names ++ name ∷ []) was ∙ ap (λ n. take k (names_of names) ++ n ∷ []) named ∙ sym (next_taken string_bytes names k s lt is) in
    added ∙ (λ i. record (was i) { label_names = more i })
