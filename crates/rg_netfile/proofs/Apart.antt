-- Lists in which nothing stands twice.
use Rattle.std.proofs.Common.{◌≡◌, ◌≢◌, ℕ, zero, suc, ◌+◌, ◌⊎◌, inl, inr, ⊎_elim, Bool, true, false, cond, List, [], ◌∷◌, ◌++◌, length, slice_get, Contains, count_by, AllPairs, Some, refl, sym, ap, subst, ◌∙◌, ◌↔◌, arith}
use Rattle.std.proofs.lemmas.Bool.{cases_order}
use Rattle.std.specs.Str.{bytes_eq}
use Rattle.std.proofs.lemmas.List.Elements.{Contains-push, Contains-append_left}
use Rattle.std.proofs.lemmas.List.Sums.{sum_by-cons}
use Rattle.std.proofs.lemmas.Option.{slice_get_read, slice_get_within, get_or_from_slice_get}
use Rattle.std.proofs.lemmas.Slice.Eq.{bytes_eq-Decides}
use Rattle.rg_theory.proofs.Lists.{there_at}
use Rattle.rg_netfile.specs.Built.{AreApart}

pub apart_none : {X : Type 0} → AreApart {X = X} []
apart_none = record { same = λ i j x at at'. absurd cc }

pub apart_from : {X : Type 0} {xs ys : List X} → xs ≡ ys → AreApart ys → AreApart xs
apart_from e h = subst AreApart (sym e) h

-- what is past the others is the last
pushed : {X : Type 0} (xs : List X) (x y : X) (i : ℕ) → slice_get (xs ++ x ∷ []) i ≡ Some y → (slice_get xs i ≡ Some y) ⊎ ((i ≡ length xs) × (x ≡ y))
pushed [] x y zero at = inr (refl, cc)
pushed [] x y (suc i) at = absurd cc
pushed (z ∷ xs) x y zero at = inl at
pushed (z ∷ xs) x y (suc i) at = ⊎_elim (λ before. inl before) (λ last. inr (omega (arith, last.0), last.1)) (pushed xs x y i at)

pub apart_more : {X : Type 0} (xs : List X) (x : X) → AreApart xs → (Contains xs x → ⊥) → AreApart (xs ++ x ∷ [])
apart_more xs x apart absent = record {
  same = λ i j y at at'. ⊎_elim
      (λ first. ⊎_elim (λ second. apart.same i j y first second) (λ last. absurd (absent (there_at xs i x (first ∙ ap Some (sym last.1))))) (pushed xs x y j at'))
      (λ last. ⊎_elim (λ second. absurd (absent (there_at xs j x (second ∙ ap Some (sym last.1))))) (λ end. last.0 ∙ sym end.0) (pushed xs x y j at'))
      (pushed xs x y i at);
}

-- what is there_at with one more is there_at or is that one
contains_last : {X : Type 0} (xs : List X) (x y : X) → Contains (xs ++ x ∷ []) y → Contains xs y ⊎ (x ≡ y)
contains_last xs x y (k, lt, e) =
    ⊎_elim (λ before. inl (there_at xs k y before)) (λ last. inr last.1) (pushed xs x y k (slice_get_read (xs ++ x ∷ []) (length (xs ++ x ∷ [])) k y refl lt (sym e)))

-- a test finds the names that were seen, and then the next one too
pub seen_more : (names : List (List ℕ)) (name : List ℕ) (old new : List ℕ → Bool) → ((n : List ℕ) → (old n ≡ true) ↔ Contains names n)
    → ((n : List ℕ) → new n ≡ cond (bytes_eq name n) true (old n)) → (n : List ℕ) → (new n ≡ true) ↔ Contains (names ++ name ∷ []) n
seen_more names name old new finds is n = by (bytes_eq name n) refl
  where
    by : (b : Bool) → bytes_eq name n ≡ b → (new n ≡ true) ↔ Contains (names ++ name ∷ []) n
    by true e = (
      λ t. subst (Contains (names ++ name ∷ [])) ((bytes_eq-Decides name n).0 e) (Contains-push names name),
      λ has. is n ∙ ap (λ b. cond b true (old n)) e,
    )
    by false e =
        let same : new n ≡ old n = is n ∙ ap (λ b. cond b true (old n)) e in (
          λ t. Contains-append_left names (name ∷ []) n ((finds n).0 (sym same ∙ t)),
          λ has. ⊎_elim (λ before. same ∙ (finds n).1 before) (λ last. absurd (let yes = (bytes_eq-Decides name n).1 last in cc)) (contains_last names name n has),
        )

pub apart_pairs : {X : Type 0} (xs : List X) → AllPairs (λ a b. a ≢ b) xs → AreApart xs
apart_pairs xs differ = record {
  same = λ i j x at at'. ⊎_elim (λ e. e)
      (λ other. ⊎_elim
      (λ lt. absurd (differ i j x lt (slice_get_within xs j x at') (get_or_from_slice_get xs i x x at ∙ sym (get_or_from_slice_get xs j x x at'))))
      (λ gt. absurd (differ j i x gt (slice_get_within xs i x at) (get_or_from_slice_get xs j x x at' ∙ sym (get_or_from_slice_get xs i x x at)))) other)
      (cases_order i j);
}

-- the count with one more in front
pub count_yes : {X : Type 0} (p : X → Bool) (x : X) (xs : List X) → p x ≡ true → count_by p (x ∷ xs) ≡ 1 + count_by p xs
count_yes p x xs e = sum_by-cons (λ y. cond (p y) 1 0) x xs ∙ ap (λ b. cond b 1 0 + count_by p xs) e

pub count_no : {X : Type 0} (p : X → Bool) (x : X) (xs : List X) → p x ≡ false → count_by p (x ∷ xs) ≡ 0 + count_by p xs
count_no p x xs e = sum_by-cons (λ y. cond (p y) 1 0) x xs ∙ ap (λ b. cond b 1 0 + count_by p xs) e

-- what is counted no time isn't there_at, and what is counted once stands once
pub count_none : {X : Type 0} (p : X → Bool) (xs : List X) (i : ℕ) (x : X) → count_by p xs ≡ 0 → slice_get xs i ≡ Some x → p x ≡ true → ⊥
count_none p [] i x none at passes = cc
count_none p (y ∷ xs) zero x none at passes = let same : y ≡ x = cc in let n = count_yes p y xs (ap p same ∙ passes) in omega arith
count_none p (y ∷ xs) (suc i) x none at passes = let n = sum_by-cons (λ z. cond (p z) 1 0) y xs in count_none p xs i x (omega arith) at passes

pub count_one : {X : Type 0} (p : X → Bool) (xs : List X) (i j : ℕ) (x y : X) → count_by p xs ≡ 1 → slice_get xs i ≡ Some x → p x ≡ true
    → slice_get xs j ≡ Some y → p y ≡ true → i ≡ j
count_one p [] i j x y one at passes at' passes' = absurd cc
count_one p (z ∷ xs) zero zero x y one at passes at' passes' = refl
count_one p (z ∷ xs) zero (suc j) x y one at passes at' passes' =
    let same : z ≡ x = cc in
    let n = count_yes p z xs (ap p same ∙ passes) in
    absurd (count_none p xs j y (omega arith) at' passes')
count_one p (z ∷ xs) (suc i) zero x y one at passes at' passes' =
    let same : z ≡ y = cc in
    let n = count_yes p z xs (ap p same ∙ passes') in
    absurd (count_none p xs i x (omega arith) at passes)
count_one p (z ∷ xs) (suc i) (suc j) x y one at passes at' passes' = by (p z) refl (λ e. count_one p xs i j x y e at passes at' passes')
  where
    by : (b : Bool) → p z ≡ b → (count_by p xs ≡ 1 → i ≡ j) → suc i ≡ suc j
    by true e more = let n = count_yes p z xs e in absurd (count_none p xs i x (omega arith) at passes)
    by false e more = let n = count_no p z xs e in ap suc (more (omega arith))

-- what is counted once is there_at
pub count_some : {X : Type 0} (p : X → Bool) (xs : List X) → count_by p xs ≡ 1 → (i : ℕ) × (x : X) × (slice_get xs i ≡ Some x) × (p x ≡ true)
count_some {X} p [] one = absurd (omega arith)
count_some {X} p (x ∷ xs) one = by (p x) refl (count_some p xs)
  where
    by : (b : Bool) → p x ≡ b → (count_by p xs ≡ 1 → (i : ℕ) × (y : X) × (slice_get xs i ≡ Some y) × (p y ≡ true))
        → (i : ℕ) × (y : X) × (slice_get (x ∷ xs) i ≡ Some y) × (p y ≡ true)
    by true e more = (zero, x, refl, e)
    by false e more = let n = count_no p x xs e in let r = more (omega arith) in (suc r.0, r.1, r.2, r.3)
