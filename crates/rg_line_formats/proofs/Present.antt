-- Names that are there already, and new ones.
use Rattle.std.proofs.Common.{◌≡◌, ℕ, true, false, List, [], ◌∷◌, ◌++◌, Contains}
use Rattle.std.specs.List.{list_any}
use Rattle.std.specs.Str.{bytes_eq}
use Rattle.std.proofs.lemmas.Slice.Eq.{bytes_eq-Decides}
use Rattle.rg_line_formats.specs.First.{with_new}
use Rattle.rg_line_formats.proofs.Things as things

pub any_there : (names : List (List ℕ)) (name : List ℕ) → Contains names name → list_any (bytes_eq name) names ≡ true
any_there = things.any_there bytes_eq bytes_eq-Decides

pub any_absent : (names : List (List ℕ)) (name : List ℕ) → (Contains names name → ⊥) → list_any (bytes_eq name) names ≡ false
any_absent = things.any_absent bytes_eq bytes_eq-Decides

pub new_there : (names : List (List ℕ)) (name : List ℕ) → Contains names name → with_new bytes_eq names name ≡ names
new_there = things.new_there bytes_eq bytes_eq-Decides

pub new_absent : (names : List (List ℕ)) (name : List ℕ) → (Contains names name → ⊥) → with_new bytes_eq names name ≡ names ++ name ∷ []
new_absent = things.new_absent bytes_eq bytes_eq-Decides
