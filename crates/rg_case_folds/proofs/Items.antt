-- Lists that are made item by item.
use Rattle.std.proofs.Common.{◌≡◌, ℕ, suc, ◌+◌, ◌<◌, ◌≤◌, List, [], ◌∷◌, ◌++◌, map, drop, length, Result, Ok, Err, ap, subst, sym, ◌∙◌, add-one}
use Rattle.std.specs.Prelude.{slice_index_or}
use Rattle.std.proofs.lemmas.List.{drop_all, map-append}
use Rattle.std.proofs.Math.Seq.{drop-cons}
use Rattle.rg_integers.specs.declared.term.Wide.{Wide}
use Rattle.rg_folds.specs.Fold.{each}
use Rattle.rg_folds.proofs.Folding.{behind, each_next, each_fails, each_ends}

-- the list from place i on
pub from_index : {A : Type 0} (all : List A) (i : ℕ) (d : A) → i < length all → drop i all ≡ slice_index_or all i d ∷ drop (i + 1) all
from_index all i d lt = drop-cons all i d lt ∙ ap (λ n. slice_index_or all i d ∷ drop n all) (sym (add-one i))

-- what is made of the items from i on stands behind what is made so far
module _ {A X : Type 0} (make : A → Result X Wide → Type 0) (all : List A) (i : ℕ) (d : A) (xs : List X)
    (so_far : (r : Result (List X) Wide) → each make (drop i all) r → each make all (behind xs r)) where
  here_each : i < length all → (r : Result (List X) Wide) → each make (slice_index_or all i d ∷ drop (i + 1) all) r → each make all (behind xs r)
  here_each lt r h = so_far r (subst (λ l. each make l r) (sym (from_index all i d lt)) h)

  pub item_next : i < length all → (x : X) → make (slice_index_or all i d) (Ok x) → (r : Result (List X) Wide) → each make (drop (i + 1) all) r → each make all (behind (xs ++ x ∷ []) r)
  item_next lt x made = each_next make all (slice_index_or all i d) (drop (i + 1) all) xs (here_each lt) x made

  pub item_fails : i < length all → (w : Wide) → make (slice_index_or all i d) (Err w) → each make all (Err w)
  item_fails lt w made = each_fails make all (slice_index_or all i d) (drop (i + 1) all) xs (here_each lt) w made

  pub items_end : length all ≤ i → each make all (Ok xs)
  items_end past = each_ends make all xs (λ r h. so_far r (subst (λ l. each make l r) (sym (drop_all i all past)) h))

-- ---- lengths and maps

pub each_length : {A X : Type 0} (make : A → Result X Wide → Type 0) (items : List A) (xs : List X) → each make items (Ok xs) → length xs ≡ length items
each_length make [] xs e = ap length e
each_length make (a ∷ items) xs (x, made, (ys, rest, e)) = ap length e ∙ ap suc (each_length make items ys rest)

-- one item more
pub map_push : {A B : Type 0} (f : A → B) (xs ys : List A) (x : A) → ys ≡ xs ++ x ∷ [] → map f ys ≡ map f xs ++ f x ∷ []
map_push f xs ys x e = ap (map f) e ∙ map-append f xs (x ∷ [])
