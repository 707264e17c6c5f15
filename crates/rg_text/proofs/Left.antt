-- Going over a list of faults: what is left of it.
use Rattle.std.proofs.Common.{◌≡◌, ◌⊎◌, inl, inr, ℕ, ◌+◌, ◌<◌, ◌≤◌, List, [], ◌∷◌, ◌++◌, length, get_or, take, drop, map, Option, None, Some, refl, sym, ap, subst, ◌∙◌}
use Rattle.std.proofs.lemmas.List.{drop_more, drop_all, take_more, take_all, map-append}
use Rattle.rg_text.specs.Faults.{faults_after, IsFirst, AreNone}

-- the first fault of what is left is the first of all, and where none is left there is none
pub record Left {F : Type 0} (all left : List (Option F)) : Type 0 where
  pub first : (f : F) → IsFirst left f → IsFirst all f
  pub none : AreNone left → AreNone all

left_none : {F : Type 0} (o : Option F) (all more : List (Option F)) → o ≡ None → Left all (o ∷ more) → Left all more
left_none None all more e l = record { first = λ f is. l.first f is; none = λ n. l.none n }
left_none (Some g) all more e l = absurd cc

left_some : {F : Type 0} (o : Option F) (g : F) (all more : List (Option F)) → o ≡ Some g → Left all (o ∷ more) → IsFirst all g
left_some None g all more e l = absurd cc
left_some (Some h) g all more e l = let same : h ≡ g = cc in l.first g (sym same)

-- what is left after i things of a list
abbrev pub LeftAt : {X Y F : Type 0} → (X → Y) → (List Y → Y → Option F) → List X → ℕ → Type 0
LeftAt f fault xs i = Left (faults_after fault [] (map f xs)) (faults_after fault (map f (take i xs)) (map f (drop i xs)))

rest_is : {X Y : Type 0} (f : X → Y) (xs : List X) (i : ℕ) (x : X) → i < length xs → x ≡ get_or xs i x → map f (drop i xs) ≡ f x ∷ map f (drop (i + 1) xs)
rest_is f xs i x lt is = ap (map f) (drop_more xs i x lt) ∙ ap (λ t. f t ∷ map f (drop (i + 1) xs)) (sym is)

pub before_is : {X Y : Type 0} (f : X → Y) (xs : List X) (i : ℕ) (x : X) → i < length xs → x ≡ get_or xs i x → map f (take (i + 1) xs) ≡ map f (take i xs) ++ f x ∷ []
before_is f xs i x lt is =
    ap (map f) (take_more xs i x lt) ∙ map-append f (take i xs) (get_or xs i x ∷ []) ∙ ap (λ t. map f (take i xs) ++ f t ∷ []) (sym is)

pub left_start : {X Y F : Type 0} (f : X → Y) (fault : List Y → Y → Option F) (xs : List X) → LeftAt f fault xs 0
left_start f fault xs = record { first = λ g is. is; none = λ n. n }

pub left_more : {X Y F : Type 0} (f : X → Y) (fault : List Y → Y → Option F) (xs : List X) (i : ℕ) (x : X) → i < length xs → x ≡ get_or xs i x
    → fault (map f (take i xs)) (f x) ≡ None → LeftAt f fault xs i → LeftAt f fault xs (i + 1)
left_more f fault xs i x lt is none l =
    let all = faults_after fault [] (map f xs) in
    let rest = map f (drop (i + 1) xs) in
    let before = map f (take i xs) in
    subst (λ b. Left all (faults_after fault b rest)) (sym (before_is f xs i x lt is))
    (left_none (fault before (f x)) all (faults_after fault (before ++ f x ∷ []) rest) none
    (subst (λ r. Left all (faults_after fault before r)) (rest_is f xs i x lt is) l))

pub left_first : {X Y F : Type 0} (f : X → Y) (fault : List Y → Y → Option F) (xs : List X) (i : ℕ) (x : X) (g : F) → i < length xs → x ≡ get_or xs i x
    → fault (map f (take i xs)) (f x) ≡ Some g → LeftAt f fault xs i → IsFirst (faults_after fault [] (map f xs)) g
left_first f fault xs i x g lt is here l =
    let all = faults_after fault [] (map f xs) in
    let rest = map f (drop (i + 1) xs) in
    let before = map f (take i xs) in
    left_some (fault before (f x)) g all (faults_after fault (before ++ f x ∷ []) rest) here
    (subst (λ r. Left all (faults_after fault before r)) (rest_is f xs i x lt is) l)

pub left_end : {X Y F : Type 0} (f : X → Y) (fault : List Y → Y → Option F) (xs : List X) (i : ℕ) → length xs ≤ i → LeftAt f fault xs i
    → AreNone (faults_after fault [] (map f xs))
left_end f fault xs i past l = l.none (subst (λ r. AreNone (faults_after fault (map f (take i xs)) (map f r))) (sym (drop_all i xs past)) tt)

pub all_before : {X Y : Type 0} (f : X → Y) (xs : List X) (i : ℕ) → length xs ≤ i → map f (take i xs) ≡ map f xs
all_before f xs i past = ap (map f) (take_all i xs past)

-- lists of faults, joined
pub first_left : {F : Type 0} (xs ys : List (Option F)) (f : F) → IsFirst xs f → IsFirst (xs ++ ys) f
first_left [] ys f is = absurd is
first_left (None ∷ xs) ys f is = first_left xs ys f is
first_left (Some g ∷ xs) ys f is = is

pub first_right : {F : Type 0} (xs ys : List (Option F)) (f : F) → AreNone xs → IsFirst ys f → IsFirst (xs ++ ys) f
first_right [] ys f none is = is
first_right (None ∷ xs) ys f none is = first_right xs ys f none is
first_right (Some g ∷ xs) ys f none is = absurd none

pub none_joined : {F : Type 0} (xs ys : List (Option F)) → AreNone xs → AreNone ys → AreNone (xs ++ ys)
none_joined [] ys a b = b
none_joined (None ∷ xs) ys a b = none_joined xs ys a b
none_joined (Some g ∷ xs) ys a b = absurd a

-- a list of faults has one first fault, or none
pub one_first : {F : Type 0} (fs : List (Option F)) (f g : F) → IsFirst fs f → IsFirst fs g → f ≡ g
one_first [] f g x y = absurd x
one_first (None ∷ fs) f g x y = one_first fs f g x y
one_first (Some first ∷ fs) f g x y = x ∙ sym y

pub none_or_first : {F : Type 0} (fs : List (Option F)) (f : F) → AreNone fs → IsFirst fs f → ⊥
none_or_first [] f x y = y
none_or_first (None ∷ fs) f x y = none_or_first fs f x y
none_or_first (Some first ∷ fs) f x y = x

pub some_first : {F : Type 0} (fs : List (Option F)) → AreNone fs ⊎ ((f : F) × IsFirst fs f)
some_first [] = inl tt
some_first (None ∷ fs) = some_first fs
some_first (Some first ∷ fs) = inr (first, refl)
