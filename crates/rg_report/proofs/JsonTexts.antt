-- The text of the report's value is its line.
use Rattle.std.proofs.Common.{◌≡◌, ◌≢◌, ℕ, ◌≤◌, ◌||◌, true, false, Bor, map, List, [], ◌∷◌, ◌++◌, All, Option, None, Some, decimal, codes, refl, sym, ap, ap₂, ◌∙◌, append_assoc, arith}
use Rattle.std.proofs.lemmas.Bool.Decides.{nat_tests}
use Rattle.std.proofs.lemmas.List.Elements.{All-head, All-tail}
use Rattle.json.specs.Print.{escape_byte, escape, quoted}
use Rattle.json.proofs.Printed.Strings.{escape_byte_plain}
use Rattle.serde_json.specs.Data.{string, item}
use Rattle.serde_json.specs.View.{items_of}
use Rattle.serde_json.specs.Written.{compact_text, items_text, has_float, items_have_float}
use Rattle.rg_text.specs.Byte.{IsName, is_name_byte}
use Rattle.rg_report.specs.Facts.{Facts, json_name, json_names, json_property, json_object}
use Rattle.rg_report.specs.Shown.{AreNamesOf, HasNames}
use Rattle.rg_report.specs.Value.{strings, property_data, facts_data}

-- a byte of a name is no quote, no backslash and no control byte
between : (b : ℕ) → is_name_byte b ≡ true → (32 ≤ b) × (b ≢ 34) × (b ≢ 92)
between b e = (grind (arith, nat_tests), (λ q. grind (arith, nat_tests)), (λ q. grind (arith, nat_tests)))

-- so a name is written as it is
escaped : (name : List ℕ) → All (λ b. is_name_byte b ≡ true) name → escape name ≡ name
escaped [] all = refl
escaped (b ∷ name) all =
    let (low, q, s) = between b (All-head (λ x. is_name_byte x ≡ true) b name all) in
    ap₂ (λ x y. x ++ y) (escape_byte_plain b q s low) (escaped name (All-tail (λ x. is_name_byte x ≡ true) b name all))

quoted_name : (name : List ℕ) → IsName name → quoted name ≡ json_name name
quoted_name name is = ap (λ x. 34 ∷ (x ++ 34 ∷ [])) (escaped name is.bytes)

-- a list of names, the first one and the others
names_text : (name : List ℕ) (names : List (List ℕ)) → IsName name → All IsName names → quoted name ++ items_text true (strings names) ≡ json_names (name ∷ names) ++ 93 ∷ []
names_text name [] is all = ap (λ x. x ++ 93 ∷ []) (quoted_name name is)
names_text name (next ∷ more) is all =
    ap₂ (λ x y. x ++ 44 ∷ y) (quoted_name name is) (names_text next more (All-head IsName next more all) (All-tail IsName next more all))
    ∙ sym (append_assoc (json_name name) (44 ∷ json_names (next ∷ more)) (93 ∷ []))

property_text : (names : Option (List (List ℕ))) → AreNamesOf names → compact_text (property_data names) ≡ json_property names
property_text None all = refl
property_text (Some []) all = refl
property_text (Some (name ∷ names)) all = ap (λ x. 91 ∷ x) (names_text name names (All-head IsName name names all) (All-tail IsName name names all))

-- the object with these texts of its properties
abbrev object_with : ℕ → ℕ → ℕ → List ℕ → List ℕ → List ℕ → List ℕ → List ℕ
object_with arcs labels states d p r v =
    codes "{\"arcs\":"
    ++ (decimal arcs
    ++ (codes ",\"deterministic\":"
    ++ (d
    ++ (codes ",\"labels\":"
    ++ (decimal labels
    ++ (codes ",\"persistent\":"
    ++ (p
    ++ (codes ",\"reachable\":"
    ++ (r
    ++ (codes ",\"reversible\":"
    ++ (v
    ++ (codes ",\"states\":"
    ++ (decimal states
    ++ codes "}")))))))))))))

members : (f : Facts) → compact_text (facts_data f) ≡ object_with f.arcs f.labels f.states (compact_text (property_data f.deterministic)) (compact_text (property_data f.persistent))
    (compact_text (property_data f.reachable)) (compact_text (property_data f.reversible))
unfolding escape_byte
members f = refl

pub facts_text : (f : Facts) → HasNames f → compact_text (facts_data f) ≡ json_object f
facts_text f names =
    members f
    ∙ (λ i. object_with f.arcs f.labels f.states (property_text f.deterministic names.deterministic i) (property_text f.persistent names.persistent i)
    (property_text f.reachable names.reachable i) (property_text f.reversible names.reversible i))

-- ---- no number is a float

no_float_names : (names : List (List ℕ)) → items_have_float (strings names) ≡ false
no_float_names [] = refl
no_float_names (name ∷ names) = no_float_names names

no_float_property : (names : Option (List (List ℕ))) → has_float (property_data names) ≡ false
no_float_property None = refl
no_float_property (Some names) = no_float_names names

pub no_float : (f : Facts) → has_float (facts_data f) ≡ false
no_float f = λ i. no_float_property f.deterministic i || (no_float_property f.persistent i || (no_float_property f.reachable i || (no_float_property f.reversible i || false)))

-- ---- a list of names as a value

pub strings_of : (names : List (Bor (List ℕ))) → items_of (map (λ (name : Bor (List ℕ)). string name.now) names) ≡ strings (map (λ (name : Bor (List ℕ)). name.now) names)
strings_of [] = refl
strings_of (name ∷ names) = ap (item (string name.now)) (strings_of names)
