-- Facts that hold of some element of a list, and places that separate among others.
use Rattle.std.proofs.Common.{◌≡◌, suc, List, [], ◌∷◌, ◌++◌, Any, Contains, ⊎_elim, arith, append_assoc}
use Rattle.std.proofs.lemmas.List.Elements.{Contains-append_left, Contains-append_right, Contains-append_cases}
use Rattle.rg_theory.specs.System.{System}
use Rattle.rg_theory.specs.Net.{Place}
use Rattle.rg_theory.specs.Problem.{IsSeparatedBy, SeparateAll}

-- an element at which the fact holds, and back
pub one_of : {X : Type 0} (P : X → Type 0) (xs : List X) → Any P xs → (x : X) × Contains xs x × P x
one_of P xs (k, x, lt, e, holds) = (x, (k, lt, e), holds)

pub any_of : {X : Type 0} (P : X → Type 0) (xs : List X) (x : X) → Contains xs x → P x → Any P xs
any_of P xs x (k, lt, e) holds = (k, x, lt, e, holds)

-- each element of the one list is in the other
abbrev pub IsWithin : {X : Type 0} → List X → List X → Type 0
IsWithin {X} xs ys = (x : X) → Contains xs x → Contains ys x

pub any_within : {X : Type 0} (P : X → Type 0) (xs ys : List X) → IsWithin xs ys → Any P xs → Any P ys
any_within P xs ys within some = let (x, has, holds) = one_of P xs some in any_of P ys x (within x has) holds

pub separate_within : (lts : System) (xs ys : List Place) → IsWithin xs ys → SeparateAll xs lts → SeparateAll ys lts
separate_within lts xs ys within sep problem is = any_within (IsSeparatedBy lts problem) xs ys within (sep problem is)

-- of two lists put together, and of one more element between
pub within_both : {X : Type 0} (xs ys zs : List X) → IsWithin xs zs → IsWithin ys zs → IsWithin (xs ++ ys) zs
within_both xs ys zs w v x has = ⊎_elim (w x) (v x) (Contains-append_cases xs ys x has)

pub within_more : {X : Type 0} (front : List X) (p : X) (behind : List X) → IsWithin (front ++ behind) (front ++ p ∷ behind)
within_more front p behind =
    within_both front behind (front ++ p ∷ behind)
    (λ x has. Contains-append_left front (p ∷ behind) x has)
    (λ x has. Contains-append_right front (p ∷ behind) x (Contains-behind p behind x has))
  where
    Contains-behind : {X : Type 0} (p : X) (xs : List X) (x : X) → Contains xs x → Contains (p ∷ xs) x
    Contains-behind p xs x (k, lt, e) = (suc k, omega arith, e)

-- an element put between two lists
pub put_between : {X : Type 0} (front : List X) (p : X) (behind : List X) → (front ++ p ∷ []) ++ behind ≡ front ++ p ∷ behind
put_between front p behind = append_assoc front (p ∷ []) behind
