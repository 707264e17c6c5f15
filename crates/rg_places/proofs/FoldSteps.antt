-- The steps of folds over a list, place by place.
use Rattle.std.proofs.Common.{◌≡◌, ℕ, suc, ◌+◌, ◌<◌, ◌≤◌, List, [], ◌∷◌, ◌++◌, length, map, drop, slice_index_or, Result, Ok, Err, inl, inr, ap, subst, sym, ◌∙◌, refl, add-one, arith}
use Rattle.std.proofs.lemmas.List.{drop_all, length-map}
use Rattle.std.proofs.Math.ListN.{get_or-map}
use Rattle.std.proofs.Math.Seq.{drop-cons}
use Rattle.rg_integers.specs.declared.term.Wide.{Wide}
use Rattle.rg_folds.specs.Fold.{each, further, joined}
use Rattle.rg_folds.proofs.Folding.{behind, each_next, each_fails, each_ends, further_next, further_unmade, further_unjoined}

-- what is left from a place on begins with its item
pub left_at : {A : Type 0} (all : List A) (i : ℕ) (a : A) → i < length all → a ≡ slice_index_or all i a → drop i all ≡ a ∷ drop (i + 1) all
left_at all i a lt at = drop-cons all i a lt ∙ ap (λ x. x ∷ drop (suc i) all) (sym at) ∙ ap (λ n. a ∷ drop n all) (sym (add-one i))

-- ---- the values of all items

-- what is made from place i on leads, behind xs, to the values of all items
abbrev pub EachLeads : {A X : Type 0} → (A → Result X Wide → Type 0) → List A → ℕ → List X → Type 0
EachLeads {A} {X} make all i xs = (r : Result (List X) Wide) → each make (drop i all) r → each make all (behind xs r)

module _ {A X : Type 0} (make : A → Result X Wide → Type 0) (all : List A) where
  module _ (i : ℕ) (xs : List X) (leads : EachLeads make all i xs) where
    pub all_end : length all ≤ i → each make all (Ok xs)
    all_end past = each_ends make all xs (λ r h. leads r (subst (λ l. each make l r) (sym (drop_all i all past)) h))

    module _ (a : A) (lt : i < length all) (at : a ≡ slice_index_or all i a) where
      from_here : (r : Result (List X) Wide) → each make (a ∷ drop (i + 1) all) r → each make all (behind xs r)
      from_here r h = leads r (subst (λ l. each make l r) (sym (left_at all i a lt at)) h)

      pub next_leads : (x : X) → make a (Ok x) → EachLeads make all (i + 1) (xs ++ x ∷ [])
      next_leads x made = each_next make all a (drop (i + 1) all) xs from_here x made

      pub next_fails : (w : Wide) → make a (Err w) → each make all (Err w)
      next_fails w made = each_fails make all a (drop (i + 1) all) xs from_here w made

-- the same where the items are seen as others
pub map_at : {A B : Type 0} (f : A → B) (xs : List A) (i : ℕ) (x : A) → x ≡ slice_index_or xs i x → f x ≡ slice_index_or (map f xs) i (f x)
map_at f xs i x at = ap f at ∙ sym (get_or-map f xs i x)

pub mapped_left : {A B : Type 0} (f : A → B) (xs : List A) (i : ℕ) (x : A) → i < length xs → x ≡ slice_index_or xs i x → drop i (map f xs) ≡ f x ∷ drop (i + 1) (map f xs)
mapped_left f xs i x lt at = left_at (map f xs) i (f x) (subst (λ n. i < n) (sym (length-map xs f)) lt) (map_at f xs i x at)

-- ---- a sum

-- what is joined to the sum from place i on leads to the goal
abbrev pub SumLeads : {A X : Type 0} → (X → X → Result X Wide → Type 0) → (A → Result X Wide → Type 0) → (Result X Wide → Type 0) → List A → ℕ → X → Type 0
SumLeads {A} {X} join make whole rest i sum = (r : Result X Wide) → further join make sum (drop i rest) r → whole r

module _ {A X : Type 0} (join : X → X → Result X Wide → Type 0) (make : A → Result X Wide → Type 0) where
  module _ (none : X) (first : A) (rest : List A) where
    pub sum_leads : (x : X) → make first (Ok x) → SumLeads join make (joined join make none (first ∷ rest)) rest 0 x
    sum_leads x made (Ok y) h = (x, made, h)
    sum_leads x made (Err w) h = inr (x, made, h)

    pub first_fails : (w : Wide) → make first (Err w) → joined join make none (first ∷ rest) (Err w)
    first_fails w made = inl made

  module _ (whole : Result X Wide → Type 0) (rest : List A) (i : ℕ) (sum : X) (leads : SumLeads join make whole rest i sum) where
    pub sum_ends : length rest ≤ i → whole (Ok sum)
    sum_ends past = leads (Ok sum) (subst (λ l. further join make sum l (Ok sum)) (sym (drop_all i rest past)) refl)

    module _ (a : A) (lt : i < length rest) (at : a ≡ slice_index_or rest i a) where
      sum_from : (r : Result X Wide) → further join make sum (a ∷ drop (i + 1) rest) r → whole r
      sum_from r h = leads r (subst (λ l. further join make sum l r) (sym (left_at rest i a lt at)) h)

      pub sum_next : (x more : X) → make a (Ok x) → join sum x (Ok more) → SumLeads join make whole rest (i + 1) more
      sum_next x more made joins r h = sum_from r (further_next join make a (drop (i + 1) rest) sum x more made joins r h)

      pub item_fails : (w : Wide) → make a (Err w) → whole (Err w)
      item_fails w made = sum_from (Err w) (further_unmade join make a (drop (i + 1) rest) sum w made)

      pub join_fails : (x : X) (w : Wide) → make a (Ok x) → join sum x (Err w) → whole (Err w)
      join_fails x w made joins = sum_from (Err w) (further_unjoined join make a (drop (i + 1) rest) sum x w made joins)

-- ---- another making of the items

-- where each item's results are those of another making, so are the sum's
module _ {A B X : Type 0} (join : X → X → Result X Wide → Type 0) (make : A → Result X Wide → Type 0) (other : B → Result X Wide → Type 0) (f : A → B) where
  abbrev pub AllMade : List A → Type 0
  AllMade [] = Unit {0}
  AllMade (a ∷ rest) = ((r : Result X Wide) → make a r → other (f a) r) × AllMade rest

  pub all_made : (items : List A) → ((i : ℕ) (a : A) → i < length items → a ≡ slice_index_or items i a → (r : Result X Wide) → make a r → other (f a) r) → AllMade items
  all_made [] each = tt
  all_made (a ∷ rest) each = (each 0 a (omega arith) refl, all_made rest (λ i x lt at. each (suc i) x (omega arith) at))

  further_same : (sum : X) (items : List A) → AllMade items → (r : Result X Wide) → further join make sum items r → further join other sum (map f items) r
  further_same sum [] same r h = h
  further_same sum (a ∷ rest) (here, same) (Ok y) (x, made, (more, joins, h)) = (x, here (Ok x) made, (more, joins, further_same more rest same (Ok y) h))
  further_same sum (a ∷ rest) (here, same) (Err w) (inl made) = inl (here (Err w) made)
  further_same sum (a ∷ rest) (here, same) (Err w) (inr (x, made, inl joins)) = inr (x, here (Ok x) made, inl joins)
  further_same sum (a ∷ rest) (here, same) (Err w) (inr (x, made, inr (more, joins, h))) = inr (x, here (Ok x) made, inr (more, joins, further_same more rest same (Err w) h))

  pub joined_same : (none : X) (items : List A) → AllMade items → (r : Result X Wide) → joined join make none items r → joined join other none (map f items) r
  joined_same none [] same r h = h
  joined_same none (a ∷ rest) (here, same) (Ok y) (x, made, h) = (x, here (Ok x) made, further_same x rest same (Ok y) h)
  joined_same none (a ∷ rest) (here, same) (Err w) (inl made) = inl (here (Err w) made)
  joined_same none (a ∷ rest) (here, same) (Err w) (inr (x, made, h)) = inr (x, here (Ok x) made, further_same x rest same (Err w) h)
