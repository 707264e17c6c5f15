-- The last thing of a list is changed.
use Rattle.std.proofs.Common.{◌≡◌, ℕ, zero, suc, ◌+◌, ◌<◌, List, [], ◌∷◌, ◌++◌, length, get_or, set, map, refl, sym, ap, subst, ◌∙◌, arith}
use Rattle.std.specs.List.{All}
use Rattle.std.proofs.lemmas.List.Elements.{All-set}
use Rattle.rg_grammar.specs.Last.{change_last}

pub change_push : {X : Type 0} (change : X → X) (xs : List X) (x : X) → change_last change (xs ++ x ∷ []) ≡ xs ++ change x ∷ []
change_push change [] x = refl
change_push change (y ∷ []) x = refl
change_push change (y ∷ z ∷ more) x = ap (λ l. y ∷ l) (change_push change (z ∷ more) x)

-- a new thing at the last position, which is the old one changed
pub last_set : {X Y : Type 0} (f : X → Y) (change : Y → Y) (xs : List X) (n : ℕ) (old new : X) → n + 1 ≡ length xs → old ≡ get_or xs n old → f new ≡ change (f old)
    → map f (set xs n new) ≡ change_last change (map f xs)
last_set f change [] n old new e at made = absurd (omega arith)
last_set f change (x ∷ []) zero old new e at made = ap (λ y. y ∷ []) (made ∙ ap (λ z. change (f z)) at)
last_set f change (x ∷ []) (suc n) old new e at made = absurd (omega arith)
last_set f change (x ∷ y ∷ xs) zero old new e at made = absurd (omega arith)
last_set f change (x ∷ y ∷ xs) (suc n) old new e at made = ap (λ l. f x ∷ l) (last_set f change (y ∷ xs) n old new (omega arith) at made)

-- a fact of all things, kept where one of them is changed
pub all_set : {X : Type 0} (P : X → Type 0) (xs : List X) (n : ℕ) (old new : X) → n + 1 ≡ length xs → old ≡ get_or xs n old → (P old → P new) → All P xs → All P (set xs n new)
all_set P xs n old new e at keeps all =
    let within : n < length xs = omega arith in
    All-set P xs n new (keeps (subst P (sym at) (all n old within))) all
