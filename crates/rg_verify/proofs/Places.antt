-- Items of lists at their places.
use Rattle.std.proofs.Common.{◌≡◌, ◌⊎◌, ℕ, ◌<◌, ◌≤◌, ◌+◌, List, ◌∷◌, drop, Some, None, IfSome, map, length, slice_get, get_or, All, sym, subst, ap, ◌∙◌, inl, inr}
use Rattle.std.proofs.lemmas.Option.{slice_get_cases}
use Rattle.std.proofs.lemmas.List.{length-map, get_or-map, drop_more}

-- what holds of all items holds of the one at a place
pub some_item : {X : Type 0} (P : X → Type 0) (xs : List X) (i : ℕ) → All P xs → IfSome (slice_get xs i) P
some_item P xs i each = by (slice_get_cases xs i).1
  where
    by : ((x : _) × (i < length xs) × (slice_get xs i ≡ Some x) × (get_or xs i x ≡ x)) ⊎ ((length xs ≤ i) × (slice_get xs i ≡ None)) → IfSome (slice_get xs i) P
    by (inl (x, lt, at, is)) = rw at (subst P is (each i x lt))
    by (inr (past, none)) = rw none tt

-- what holds of all images holds of the image of the item read at a place
pub image_at : {X Y : Type 0} (P : Y → Type 0) (f : X → Y) (xs : List X) (i : ℕ) (d : X) → All P (map f xs) → i < length xs → P (f (get_or xs i d))
image_at P f xs i d each lt = subst P (get_or-map f xs i d (f d) lt) (each i (f d) (rw length-map lt))

-- the images from a place on
pub drop_image : {X Y : Type 0} (f : X → Y) (xs : List X) (i : ℕ) (x : X) → i < length xs → x ≡ get_or xs i x → drop i (map f xs) ≡ f x ∷ drop (i + 1) (map f xs)
drop_image f xs i x lt is = drop_more (map f xs) i (f x) (rw length-map lt) ∙ ap (λ y. y ∷ drop (i + 1) (map f xs)) (get_or-map f xs i x (f x) lt ∙ ap f (sym is))
