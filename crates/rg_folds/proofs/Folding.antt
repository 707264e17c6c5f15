-- The steps of a fold, item by item.
use Rattle.std.proofs.lemmas.List.{append-nil}
use Rattle.std.proofs.Common.{◌≡◌, ◌≢◌, ℕ, suc, ◌+◌, ◌-◌, ◌<◌, ◌≤◌, Bool, true, false, if◌then◌else◌, List, [], ◌∷◌, ◌++◌, Result, Ok, Err, ap, refl, subst, sym, ◌∙◌, inl, inr, arith, add-one, append_assoc}
use Rattle.std.specs.Prelude.{ℤ, pos}
use Rattle.std.proofs.lemmas.Int.{ints}
use Rattle.std.proofs.Math.Nat.{one-dvd}
use Rattle.rg_integers.specs.declared.term.Wide.{Wide}
use Rattle.rg_fraction.specs.declared.fraction.Fraction.{Fraction}
use Rattle.rg_fraction.specs.Fractions.{IsValue}
use Rattle.rg_folds.specs.Fold.{each, further, whole, ratio_of, shown_result, IsRatio}
use Rattle.rg_folds.specs.Substitution.{numbers_where}
use Rattle.rg_folds.proofs.FoldLemmas.{ratio_one, new_step}

-- ---- fractions

whole_ratio : (n : ℤ) → IsRatio (whole n) n (pos 1)
whole_ratio n = record { nonzero = λ e. one_differs e; positive = omega (arith, ints); reduced = (one-dvd _, one-dvd _, λ d p q. q); value = refl }
  where
    one_differs : pos 1 ≡ pos 0 → ⊥
    one_differs e = omega (arith, ints)

pub one_differs : pos 1 ≢ pos 0
one_differs e = omega (arith, ints)

-- the fraction of a whole number
pub whole_is : (f : Fraction) (n : ℤ) → IsValue f n (pos 1) → ratio_of f ≡ whole n
whole_is f n v = ratio_one (ratio_of f) (whole n) n (pos 1) (new_step f n (pos 1) one_differs v) (whole_ratio n)

-- ---- one item more

module _ {A X : Type 0} (join : X → X → Result X Wide → Type 0) (make : A → Result X Wide → Type 0) (a : A) (rest : List A) (sum : X) where
  pub further_next : (x more : X) → make a (Ok x) → join sum x (Ok more) → (r : Result X Wide) → further join make more rest r → further join make sum (a ∷ rest) r
  further_next x more made joins (Ok y) h = (x, made, (more, joins, h))
  further_next x more made joins (Err w) h = inr (x, made, inr (more, joins, h))

  pub further_unmade : (w : Wide) → make a (Err w) → further join make sum (a ∷ rest) (Err w)
  further_unmade w made = inl made

  pub further_unjoined : (x : X) (w : Wide) → make a (Ok x) → join sum x (Err w) → further join make sum (a ∷ rest) (Err w)
  further_unjoined x w made joins = inr (x, made, inl joins)

-- what is made so far, before a result
abbrev pub behind : {X : Type 0} → List X → Result (List X) Wide → Result (List X) Wide
behind xs r = shown_result (λ ys. xs ++ ys) r

module _ {A X : Type 0} (make : A → Result X Wide → Type 0) (all : List A) where
  pub each_start : (r : Result (List X) Wide) → each make all r → each make all (behind [] r)
  each_start (Ok ys) h = h
  each_start (Err w) h = h

  module _ (a : A) (rest : List A) (xs : List X) (so_far : (r : Result (List X) Wide) → each make (a ∷ rest) r → each make all (behind xs r)) where
    pub each_next : (x : X) → make a (Ok x) → (r : Result (List X) Wide) → each make rest r → each make all (behind (xs ++ x ∷ []) r)
    each_next x made (Ok ys) h = subst (λ l. each make all (Ok l)) (sym (append_assoc xs (x ∷ []) ys)) (so_far (Ok (x ∷ ys)) (x, made, (ys, h, refl)))
    each_next x made (Err w) h = so_far (Err w) (inr (x, made, inl h))

    pub each_fails : (w : Wide) → make a (Err w) → each make all (Err w)
    each_fails w made = so_far (Err w) (inl made)

  pub each_ends : (xs : List X) → ((r : Result (List X) Wide) → each make [] r → each make all (behind xs r)) → each make all (Ok xs)
  each_ends xs so_far = subst (λ l. each make all (Ok l)) (append-nil xs) (so_far (Ok []) refl)

-- ---- the numbers that pass a test, from the next one on

module _ (test : ℕ → Bool) (t n : ℕ) where
  one_less : t < n → n - t ≡ suc (n - suc t)
  one_less lt = omega arith

  from_here : t < n → numbers_where test t (n - t) ≡ (if test t then (t ∷ numbers_where test (t + 1) (n - (t + 1))) else numbers_where test (t + 1) (n - (t + 1)))
  from_here lt = rw (add-one t) (ap (numbers_where test t) (one_less lt))

  pub where_taken : t < n → test t ≡ true → numbers_where test t (n - t) ≡ t ∷ numbers_where test (t + 1) (n - (t + 1))
  where_taken lt e = from_here lt ∙ ap (λ b. if b then (t ∷ numbers_where test (t + 1) (n - (t + 1))) else numbers_where test (t + 1) (n - (t + 1))) e

  pub where_left : t < n → test t ≡ false → numbers_where test t (n - t) ≡ numbers_where test (t + 1) (n - (t + 1))
  where_left lt e = from_here lt ∙ ap (λ b. if b then (t ∷ numbers_where test (t + 1) (n - (t + 1))) else numbers_where test (t + 1) (n - (t + 1))) e

  pub where_ends : n ≤ t → numbers_where test t (n - t) ≡ []
  where_ends past = ap (numbers_where test t) (none past)
    where
      none : n ≤ t → n - t ≡ 0
      none h = omega arith

-- what passes the test, behind what was found before
module _ (test : ℕ → Bool) (n i : ℕ) (out whole : List ℕ) (so_far : out ++ numbers_where test i (n - i) ≡ whole) where
  pub number_taken : i < n → test i ≡ true → (out ++ i ∷ []) ++ numbers_where test (i + 1) (n - (i + 1)) ≡ whole
  number_taken lt e = append_assoc out (i ∷ []) (numbers_where test (i + 1) (n - (i + 1))) ∙ ap (λ l. out ++ l) (sym (where_taken test i n lt e)) ∙ so_far

  pub number_left : i < n → test i ≡ false → out ++ numbers_where test (i + 1) (n - (i + 1)) ≡ whole
  number_left lt e = ap (λ l. out ++ l) (sym (where_left test i n lt e)) ∙ so_far
