-- Names that are there, and names that aren't.
use Rattle.std.proofs.Common.{◌≡◌, ℕ, ◌<◌, ◌≤◌, true, nat_le, List, [], ◌∷◌, ◌++◌, length, slice_get, Contains, Some, sym, subst, ◌∙◌, arith}
use Rattle.std.proofs.lemmas.Bool.Decides.{nat_tests}
use Rattle.std.proofs.lemmas.List.{get_or_append_left}
use Rattle.std.proofs.lemmas.Option.{get_or_from_slice_get}
use Rattle.rg_lts.proofs.Drafts.{there}

pub moved : (names names' : List (List ℕ)) (name name' : List ℕ) → names ≡ names' → name ≡ name' → Contains names name → Contains names' name'
moved names names' name name' p q h = subst (λ l. Contains l name') p (subst (Contains names) q h)

-- before the last of the names a name is one of the others
pub earlier : (names : List (List ℕ)) (name : List ℕ) (k : ℕ) → k < length names → slice_get (names ++ name ∷ []) k ≡ Some name → Contains names name
earlier names name k lt at = (k, lt, sym (get_or_append_left names (name ∷ []) name k lt) ∙ get_or_from_slice_get (names ++ name ∷ []) k name name at)

pub le_says : (m n : ℕ) → nat_le m n ≡ true → m ≤ n
le_says m n h = grind (arith, nat_tests)
