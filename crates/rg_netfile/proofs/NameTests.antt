-- Names that are there_at, and names that aren't.
use Rattle.std.proofs.Common.{◌≡◌, ℕ, true, false, List, [], ◌∷◌, map, Contains, refl, sym, ap, subst}
use Rattle.rg_text.proofs.NameBytes.{absent_none, contains_any}
use Rattle.rg_theory.proofs.Lists.{there_at}
use Rattle.rg_netfile.specs.Contents.{is_among}

map_same : (names : List (List ℕ)) → map (λ name. name) names ≡ names
map_same [] = refl
map_same (name ∷ names) = ap (λ l. name ∷ l) (map_same names)

pub among_true : (names : List (List ℕ)) (name : List ℕ) → Contains names name → is_among names name ≡ true
among_true names name has = contains_any (λ n. n) name names (subst (λ l. Contains l name) (sym (map_same names)) has)

pub among_false : (names : List (List ℕ)) (name : List ℕ) → (Contains names name → ⊥) → is_among names name ≡ false
among_false names name absent = absent_none (λ n. n) name names (λ has. absent (subst (λ l. Contains l name) (map_same names) has))
