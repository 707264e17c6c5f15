-- Members of lists made by maps, tests and conditions, and of joined lists.
use Rattle.std.proofs.Common.{◌≡◌, ◌⊎◌, ⊎_elim, ℕ, zero, suc, ◌+◌, ◌<◌, ◌≤◌, ◌==◌, Bool, true, false, if◌then◌else◌, List, [], ◌∷◌, ◌++◌, Contains, inl, inr, refl, sym, subst, ap, ◌∙◌, arith, eq-eqb}
use Rattle.std.proofs.lemmas.Bool.{true≢false, cases_eq}
use Rattle.std.proofs.lemmas.List.Elements.{Contains-append_left, Contains-append_right, Contains-append_cases}
use Rattle.rg_theory.proofs.Lists.{Contains-cons_cases}
use Rattle.rg_folds.specs.Substitution.{is_in, numbers_where}

pub nothing : {X : Type 0} (x : X) → Contains [] x → ⊥
nothing x (k, lt, e) = omega arith

pub first : {X : Type 0} (x : X) (xs : List X) → Contains (x ∷ xs) x
first x xs = (0, omega arith, refl)

pub behind : {X : Type 0} (x y : X) (xs : List X) → Contains xs y → Contains (x ∷ xs) y
behind x y xs (k, lt, e) = (suc k, omega arith, e)

-- ---- the test whether a number is in a list

pub has_in : (xs : List ℕ) (m : ℕ) → Contains xs m → is_in xs m ≡ true
has_in [] m has = absurd (nothing m has)
has_in (x ∷ xs) m has = ⊎_elim
    (λ is. ap (λ b. if b then true else is_in xs m) (eq-eqb x m is))
    (λ there. later (x == m) (has_in xs m there))
    (Contains-cons_cases x m xs has)
  where
    later : (b : Bool) → is_in xs m ≡ true → (if b then true else is_in xs m) ≡ true
    later true e = refl
    later false e = e

pub not_in : (xs : List ℕ) (m : ℕ) → is_in xs m ≡ false → Contains xs m → ⊥
not_in xs m e has = true≢false (sym (has_in xs m has) ∙ e)

-- ---- maps

-- ---- numbers that pass a test

pub where_is : (test : ℕ → Bool) (a n t : ℕ) → Contains (numbers_where test a n) t → (test t ≡ true) × (a ≤ t) × (t < a + n)
where_is test a zero t has = absurd (nothing t has)
where_is test a (suc n) t has = go (test a) refl has (λ h. where_is test (suc a) n t h)
  where
    later : (test t ≡ true) × (suc a ≤ t) × (t < suc a + n) → (test t ≡ true) × (a ≤ t) × (t < a + suc n)
    later (e, le, lt) = (e, omega arith, omega arith)

    go : (b : Bool) → test a ≡ b → Contains (if b then (a ∷ numbers_where test (suc a) n) else numbers_where test (suc a) n) t
        → (Contains (numbers_where test (suc a) n) t → (test t ≡ true) × (suc a ≤ t) × (t < suc a + n)) → (test t ≡ true) × (a ≤ t) × (t < a + suc n)
    go true e h next = ⊎_elim (λ is. (subst (λ x. test x ≡ true) is e, omega arith, omega arith)) (λ there. later (next there)) (Contains-cons_cases a t (numbers_where test (suc a) n) h)
    go false e h next = later (next h)

pub where_contains : (test : ℕ → Bool) (a n t : ℕ) → Contains (numbers_where test a n) t → (test t ≡ true) × (t < a + n)
where_contains test a n t has = let (e, _, lt) = where_is test a n t has in (e, lt)

pub where_has : (test : ℕ → Bool) (a n t : ℕ) → test t ≡ true → a ≤ t → t < a + n → Contains (numbers_where test a n) t
where_has test a zero t e le lt = absurd (omega arith)
where_has test a (suc n) t e le lt = ⊎_elim (λ same. here same (test a) refl) (λ differ. there (test a) (where_has test (suc a) n t e (omega arith) (omega arith))) (cases_eq a t)
  where
    here : a ≡ t → (b : Bool) → test a ≡ b → Contains (if b then (a ∷ numbers_where test (suc a) n) else numbers_where test (suc a) n) t
    here same true is = subst (λ x. Contains (a ∷ numbers_where test (suc a) n) x) same (first a (numbers_where test (suc a) n))
    here same false is = absurd (true≢false (sym e ∙ ap test (sym same) ∙ is))

    there : (b : Bool) → Contains (numbers_where test (suc a) n) t → Contains (if b then (a ∷ numbers_where test (suc a) n) else numbers_where test (suc a) n) t
    there true h = behind a t (numbers_where test (suc a) n) h
    there false h = h

-- ---- conditions

pub if_true : {X : Type 0} (b : Bool) (xs ys : List X) (x : X) → b ≡ true → Contains xs x → Contains (if b then xs else ys) x
if_true true xs ys x e h = h
if_true false xs ys x e h = absurd (true≢false (sym e))

pub if_false : {X : Type 0} (b : Bool) (xs ys : List X) (x : X) → b ≡ false → Contains ys x → Contains (if b then xs else ys) x
if_false true xs ys x e h = absurd (true≢false e)
if_false false xs ys x e h = h

pub of_if : {X : Type 0} (b : Bool) (xs ys : List X) (x : X) → Contains (if b then xs else ys) x → ((b ≡ true) × Contains xs x) ⊎ ((b ≡ false) × Contains ys x)
of_if true xs ys x h = inl (refl, h)
of_if false xs ys x h = inr (refl, h)

pub of_optional : {X : Type 0} (b : Bool) (xs : List X) (x : X) → Contains (if b then xs else []) x → (b ≡ true) × Contains xs x
of_optional true xs x h = (refl, h)
of_optional false xs x h = absurd (nothing x h)

-- ---- five lists in a row

abbrev pub InOneOf : {X : Type 0} → List X → List X → List X → List X → List X → X → Type 0
InOneOf a b c d e x = Contains a x ⊎ (Contains b x ⊎ (Contains c x ⊎ (Contains d x ⊎ Contains e x)))

pub in_one_of : {X : Type 0} (a b c d e : List X) (x : X) → Contains (a ++ b ++ c ++ d ++ e) x → InOneOf a b c d e x
in_one_of a b c d e x h =
    ⊎_elim
    (λ l.
    ⊎_elim
    (λ l'.
    ⊎_elim
    (λ l''. ⊎_elim (λ h'. inl h') (λ h'. inr (inl h')) (Contains-append_cases a b x l''))
    (λ r''. inr (inr (inl r'')))
    (Contains-append_cases (a ++ b) c x l'))
    (λ r'. inr (inr (inr (inl r'))))
    (Contains-append_cases (a ++ b ++ c) d x l))
    (λ r. inr (inr (inr (inr r))))
    (Contains-append_cases (a ++ b ++ c ++ d) e x h)

pub from_one_of : {X : Type 0} (a b c d e : List X) (x : X) → InOneOf a b c d e x → Contains (a ++ b ++ c ++ d ++ e) x
from_one_of a b c d e x (inl h) = Contains-append_left (a ++ b ++ c ++ d) e x (Contains-append_left (a ++ b ++ c) d x (Contains-append_left (a ++ b) c x (Contains-append_left a b x h)))
from_one_of a b c d e x (inr (inl h)) = Contains-append_left (a ++ b ++ c ++ d) e x (Contains-append_left (a ++ b ++ c) d x (Contains-append_left (a ++ b) c x (Contains-append_right a b x h)))
from_one_of a b c d e x (inr (inr (inl h))) = Contains-append_left (a ++ b ++ c ++ d) e x (Contains-append_left (a ++ b ++ c) d x (Contains-append_right (a ++ b) c x h))
from_one_of a b c d e x (inr (inr (inr (inl h)))) = Contains-append_left (a ++ b ++ c ++ d) e x (Contains-append_right (a ++ b ++ c) d x h)
from_one_of a b c d e x (inr (inr (inr (inr h)))) = Contains-append_right (a ++ b ++ c ++ d) e x h
