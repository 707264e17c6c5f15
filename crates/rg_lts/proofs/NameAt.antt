-- Whether a name is at an index.
use Rattle.std.proofs.Common.{◌≡◌, ◌∙◌, ap, sym, ℕ, ◌<◌, ◌≤◌, Bool, List, length, map, get_or, slice_get, Some, None, String, string_bytes, bytes_eq, IsTrue, refl}
use Rattle.std.proofs.lemmas.Option.{slice_get_read, slice_get-map, slice_get_past}
use Rattle.std.proofs.lemmas.Slice.Eq.{bytes_eq-Decides}
use Rattle.std.specs.Option.{option_map}
use Rattle.std.specs.declared.alloc.Global.{Global}

-- the name that was read
pub name_read : (names : List (String Global)) (index : ℕ) (there : String Global) (text name : List ℕ) (same : Bool) → index < length names
    → there ≡ get_or names index there → text ≡ string_bytes there → same ≡ bytes_eq text name
    → (IsTrue same → slice_get (map string_bytes names) index ≡ Some name) × (slice_get (map string_bytes names) index ≡ Some name → IsTrue same)
name_read names index there text name same within read bytes test =
    let at : slice_get (map string_bytes names) index ≡ Some text =
    slice_get-map string_bytes names index ∙ ap (option_map string_bytes) (slice_get_read names (length names) index there refl within read) ∙ ap Some (sym bytes) in
    (λ t. at ∙ ap Some ((bytes_eq-Decides text name).0 (sym test ∙ t)), λ is. (let equal : Some text ≡ Some name = sym at ∙ is in test ∙ (bytes_eq-Decides text name).1 cc))

-- past the end there is no name
pub name_past : (names : List (String Global)) (index : ℕ) (name : List ℕ) → length names ≤ index → slice_get (map string_bytes names) index ≡ Some name → ⊥
name_past names index name past is =
    let none = slice_get-map string_bytes names index ∙ ap (option_map string_bytes) (slice_get_past names index past) in
    let wrong : None ≡ Some name = sym none ∙ is in absurd cc
