-- The steps of loops.
use Rattle.std.proofs.Common.{◌≡◌, ℕ, suc, ◌+◌, ◌-◌, ◌<◌, ◌≤◌, Bool, true, if◌then◌else◌, List, [], ◌∷◌, ◌++◌, map, drop, length, Result, Ok, Err, Contains, ap, refl, subst, sym, ◌∙◌, inl, inr, arith, add-one, append_assoc}
use Rattle.std.specs.Prelude.{slice_index_or}
use Rattle.std.proofs.lemmas.List.{drop_all}
use Rattle.rg_integers.specs.declared.term.Wide.{Wide}
use Rattle.rg_folds.specs.Fold.{further, joined}
use Rattle.rg_folds.specs.Substitution.{numbers_where}
use Rattle.rg_folds.proofs.Folding.{further_next, further_unmade, further_unjoined}
use Rattle.rg_case_folds.proofs.Items.{from_index}

-- ---- a sum, item by item

module _ {A X : Type 0} (join : X → X → Result X Wide → Type 0) (make : A → Result X Wide → Type 0) (all : List A) (i : ℕ) (d : A)
    (lt : i < length all) (sum : X) (target : Result X Wide → Type 0) (so_far : (r : Result X Wide) → further join make sum (drop i all) r → target r) where
  here : (r : Result X Wide) → further join make sum (slice_index_or all i d ∷ drop (i + 1) all) r → target r
  here r h = so_far r (subst (λ l. further join make sum l r) (sym (from_index all i d lt)) h)

  pub sum_next : (x more : X) → make (slice_index_or all i d) (Ok x) → join sum x (Ok more) → (r : Result X Wide) → further join make more (drop (i + 1) all) r → target r
  sum_next x more made joins r h = here r (further_next join make (slice_index_or all i d) (drop (i + 1) all) sum x more made joins r h)

  pub sum_unmade : (w : Wide) → make (slice_index_or all i d) (Err w) → target (Err w)
  sum_unmade w made = here (Err w) (further_unmade join make (slice_index_or all i d) (drop (i + 1) all) sum w made)

  pub sum_unjoined : (x : X) (w : Wide) → make (slice_index_or all i d) (Ok x) → join sum x (Err w) → target (Err w)
  sum_unjoined x w made joins = here (Err w) (further_unjoined join make (slice_index_or all i d) (drop (i + 1) all) sum x w made joins)

pub sum_ends : {A X : Type 0} (join : X → X → Result X Wide → Type 0) (make : A → Result X Wide → Type 0) (all : List A) (i : ℕ) (sum : X)
    (target : Result X Wide → Type 0) → ((r : Result X Wide) → further join make sum (drop i all) r → target r) → length all ≤ i → target (Ok sum)
sum_ends join make all i sum target so_far past = so_far (Ok sum) (subst (λ l. further join make sum l (Ok sum)) (sym (drop_all i all past)) refl)

-- a sum over both lists
pub further-append : {A X : Type 0} (join : X → X → Result X Wide → Type 0) (make : A → Result X Wide → Type 0) (sum mid : X) (xs ys : List A)
    (r : Result X Wide) → further join make sum xs (Ok mid) → further join make mid ys r → further join make sum (xs ++ ys) r
further-append join make sum mid [] ys r e h = subst (λ z. further join make z ys r) e h
further-append join make sum mid (x ∷ xs) ys (Ok y) (a, made, (more, joins, rest)) h = (a, made, (more, joins, further-append join make more mid xs ys (Ok y) rest h))
further-append join make sum mid (x ∷ xs) ys (Err w) (a, made, (more, joins, rest)) h = inr (a, made, inr (more, joins, further-append join make more mid xs ys (Err w) rest h))

pub further-fails : {A X : Type 0} (join : X → X → Result X Wide → Type 0) (make : A → Result X Wide → Type 0) (sum : X) (xs ys : List A) (w : Wide)
    → further join make sum xs (Err w) → further join make sum (xs ++ ys) (Err w)
further-fails join make sum [] ys w h = absurd h
further-fails join make sum (x ∷ xs) ys w (inl made) = inl made
further-fails join make sum (x ∷ xs) ys w (inr (a, made, inl joins)) = inr (a, made, inl joins)
further-fails join make sum (x ∷ xs) ys w (inr (a, made, inr (more, joins, rest))) = inr (a, made, inr (more, joins, further-fails join make more xs ys w rest))

abbrev same_result : {X : Type 0} → Result X Wide → Result X Wide → Type 0
same_result r r' = r ≡ r'

-- a sum that begins with a neutral number is one that begins with its first term
pub from_neutral : {A X : Type 0} (join : X → X → Result X Wide → Type 0) (make : A → Result X Wide → Type 0) (none : X) (items : List A)
    → ((a : A) (x : X) → Contains items a → make a (Ok x) → (r : Result X Wide) → join none x r → r ≡ Ok x) → (r : Result X Wide) → further join make none items r
    → joined join make none items r
from_neutral join make none [] neutral r h = h
from_neutral {X = X} join make none (a ∷ items) neutral (Ok y) (x, made, (more, joins, rest)) =
    (x, made, subst (λ z. further join make z items (Ok y)) (ok_same more x (neutral a x (0, omega arith, refl) made (Ok more) joins)) rest)
  where
    ok_same : (x y : X) → same_result (Ok x) (Ok y) → x ≡ y
    ok_same x y p = cc
from_neutral {X = X} join make none (a ∷ items) neutral (Err w) (inl made) = inl made
from_neutral {X = X} join make none (a ∷ items) neutral (Err w) (inr (x, made, inl joins)) = absurd (different (neutral a x (0, omega arith, refl) made (Err w) joins))
  where
    different : same_result (Err w) (Ok x) → ⊥
    different p = cc
from_neutral {X = X} join make none (a ∷ items) neutral (Err w) (inr (x, made, inr (more, joins, rest))) =
    inr (x, made, subst (λ z. further join make z items (Err w)) (ok_same more x (neutral a x (0, omega arith, refl) made (Ok more) joins)) rest)
  where
    ok_same : (x y : X) → same_result (Ok x) (Ok y) → x ≡ y
    ok_same x y p = cc

-- sums over a list that is made from another
pub further-map : {A B X : Type 0} (join : X → X → Result X Wide → Type 0) (make : B → Result X Wide → Type 0) (f : A → B) (sum : X) (items : List A)
    (r : Result X Wide) → further join make sum (map f items) r → further join (λ a. make (f a)) sum items r
further-map join make f sum [] r h = h
further-map join make f sum (a ∷ items) (Ok y) (x, made, (more, joins, rest)) = (x, made, (more, joins, further-map join make f more items (Ok y) rest))
further-map join make f sum (a ∷ items) (Err w) (inl made) = inl made
further-map join make f sum (a ∷ items) (Err w) (inr (x, made, inl joins)) = inr (x, made, inl joins)
further-map join make f sum (a ∷ items) (Err w) (inr (x, made, inr (more, joins, rest))) = inr (x, made, inr (more, joins, further-map join make f more items (Err w) rest))

pub joined-map : {A B X : Type 0} (join : X → X → Result X Wide → Type 0) (make : B → Result X Wide → Type 0) (f : A → B) (none : X) (items : List A)
    (r : Result X Wide) → joined join make none (map f items) r → joined join (λ a. make (f a)) none items r
joined-map join make f none [] r h = h
joined-map join make f none (a ∷ items) (Ok y) (x, made, rest) = (x, made, further-map join make f x items (Ok y) rest)
joined-map join make f none (a ∷ items) (Err w) (inl made) = inl made
joined-map join make f none (a ∷ items) (Err w) (inr (x, made, rest)) = inr (x, made, further-map join make f x items (Err w) rest)

-- ---- lists that grow towards a whole one

-- what is made of the items from i on stands behind what is made so far
module _ {A X : Type 0} (f : A → X) (all : List A) (i : ℕ) (d : A) (out whole : List X) (so_far : out ++ map f (drop i all) ≡ whole) where
  pub mapped_next : i < length all → (x : X) → x ≡ f (slice_index_or all i d) → (out ++ x ∷ []) ++ map f (drop (i + 1) all) ≡ whole
  mapped_next lt x e = append_assoc out (x ∷ []) (map f (drop (i + 1) all)) ∙ ap (λ z. out ++ z ∷ map f (drop (i + 1) all)) e ∙ ap (λ l. out ++ map f l) (sym (from_index all i d lt)) ∙ so_far

-- the numbers that pass a test
module _ (test : ℕ → Bool) (n i : ℕ) (out whole : List ℕ) (so_far : out ++ numbers_where test i (n - i) ≡ whole) where
  pub where_is_next : i < n → (b : Bool) → test i ≡ b → numbers_where test i (n - i) ≡ (if b then (i ∷ numbers_where test (i + 1) (n - (i + 1))) else numbers_where test (i + 1) (n - (i + 1)))
  where_is_next lt b e = ap (numbers_where test i) more
      ∙ ap (λ c. if c then (i ∷ numbers_where test (suc i) (n - (i + 1))) else numbers_where test (suc i) (n - (i + 1))) e
      ∙ ap (λ k. if b then (i ∷ numbers_where test k (n - (i + 1))) else numbers_where test k (n - (i + 1))) (sym (add-one i))
    where
      more : n - i ≡ suc (n - (i + 1))
      more = omega arith

-- all numbers, each made into something
pub all_next : {X : Type 0} (f : ℕ → X) (n i : ℕ) (out whole : List X) → out ++ map f (numbers_where (λ k. true) i (n - i)) ≡ whole → i < n
    → (out ++ f i ∷ []) ++ map f (numbers_where (λ k. true) (i + 1) (n - (i + 1))) ≡ whole
all_next f n i out whole so_far lt = append_assoc out (f i ∷ []) (map f (numbers_where (λ k. true) (i + 1) (n - (i + 1))))
    ∙ ap (λ l. out ++ map f l) (sym (where_is_next (λ k. true) n i [] (numbers_where (λ k. true) i (n - i)) refl lt true refl)) ∙ so_far
