-- Lists that grow as code pushes.
use Rattle.std.proofs.Common.{◌≡◌, ℕ, zero, suc, ◌+◌, ◌<◌, List, [], ◌∷◌, ◌++◌, length, map, take, get_or, refl, sym, ap, ◌∙◌, append_assoc, arith}
use Rattle.std.specs.List.{flat_map}
use Rattle.std.proofs.lemmas.List.{map-append, length-map, take_more}
use Rattle.rg_families.proofs.Lists.{flat_last}

-- a thing is pushed, and what it shows as is put behind what there was
pub pushed : {S X : Type 0} (view : S → X) (items new : List S) (s : S) (x : X) → new ≡ items ++ s ∷ [] → view s ≡ x → map view new ≡ map view items ++ x ∷ []
pushed view items new s x is shows = ap (map view) is ∙ map-append view items (s ∷ []) ∙ ap (λ y. map view items ++ y ∷ []) shows

pub pushed_two : {X : Type 0} (a b c : List X) (x y : X) → b ≡ a ++ x ∷ [] → c ≡ b ++ y ∷ [] → c ≡ a ++ (x ∷ y ∷ [])
pushed_two a b c x y first second = second ∙ ap (λ l. l ++ y ∷ []) first ∙ append_assoc a (x ∷ []) (y ∷ [])

pub pushed_three : {X : Type 0} (a b c d : List X) (x y z : X) → b ≡ a ++ x ∷ [] → c ≡ b ++ y ∷ [] → d ≡ c ++ z ∷ [] → d ≡ a ++ (x ∷ y ∷ z ∷ [])
pushed_three a b c d x y z first second third = third ∙ ap (λ l. l ++ z ∷ []) (pushed_two a b c x y first second) ∙ append_assoc a (x ∷ y ∷ []) (z ∷ [])

pub get_or_shown : {S X : Type 0} (view : S → X) (xs : List S) (k : ℕ) (s : S) (d : X) → k < length xs → get_or (map view xs) k d ≡ view (get_or xs k s)
get_or_shown view [] k s d lt = absurd (omega arith)
get_or_shown view (x ∷ xs) zero s d lt = refl
get_or_shown view (x ∷ xs) (suc k) s d lt = get_or_shown view xs k s d (omega arith)

-- the next thing of a list
pub next_taken : {S X : Type 0} (view : S → X) (xs : List S) (k : ℕ) (s : S) → k < length xs → s ≡ get_or xs k s → take (k + 1) (map view xs) ≡ take k (map view xs) ++ view s ∷ []
next_taken view xs k s lt is =
    take_more (map view xs) k (view s) (omega (arith, length-map xs view))
    ∙ ap (λ y. take k (map view xs) ++ y ∷ []) (get_or_shown view xs k s (view s) lt ∙ ap view (sym is))

pub one_taken : {S X Y : Type 0} (view : S → X) (f : X → Y) (xs : List S) (k : ℕ) (s : S) (start old new : List Y) → k < length xs → s ≡ get_or xs k s
    → new ≡ old ++ f (view s) ∷ [] → old ≡ start ++ map f (take k (map view xs)) → new ≡ start ++ map f (take (k + 1) (map view xs))
one_taken view f xs k s start old new lt is grown was =
    let more = ap (map f) (next_taken view xs k s lt is) ∙ map-append f (take k (map view xs)) (view s ∷ []) in
    grown ∙ ap (λ l. l ++ f (view s) ∷ []) was ∙ append_assoc start (map f (take k (map view xs))) (f (view s) ∷ []) ∙ ap (λ l. start ++ l) (sym more)

pub some_taken : {S X Y : Type 0} (view : S → X) (f : X → List Y) (xs : List S) (k : ℕ) (s : S) (old new : List Y) → k < length xs → s ≡ get_or xs k s
    → new ≡ old ++ f (view s) → old ≡ flat_map f (take k (map view xs)) → new ≡ flat_map f (take (k + 1) (map view xs))
some_taken view f xs k s old new lt is grown was =
    let more = ap (flat_map f) (next_taken view xs k s lt is) ∙ flat_last f (take k (map view xs)) (view s) in
    grown ∙ ap (λ l. l ++ f (view s)) was ∙ sym more
