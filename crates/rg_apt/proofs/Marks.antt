-- The index of the first that is marked.
use Rattle.std.proofs.Common.{◌≡◌, ℕ, ◌+◌, ◌<◌, Bool, true, false, cond, not, eqb, nat_lt, List, [], ◌∷◌, ◌++◌, length, position, Option, None, Some, IsSomeAnd, refl, sym, ap, subst, ◌∙◌, arith, length-append}
use Rattle.std.specs.List.{list_any, position_or_len}
use Rattle.std.proofs.lemmas.Bool.{or_parts, cond-true, cond-false, lt-ltb, eq-eqb}
use Rattle.std.proofs.lemmas.Bool.Decides.{nat_tests}
use Rattle.std.proofs.lemmas.List.Folds.{position_or_len_push}
use Rattle.rg_apt.proofs.Existing.{marked_within}

not_less : (m n : ℕ) → m ≡ n → nat_lt m n ≡ false
not_less m n e = grind (arith, nat_tests)

less_eqb : (m n : ℕ) → m < n → eqb m n ≡ false
less_eqb m n lt = grind (arith, nat_tests)

all_fail : {X : Type 0} (p : X → Bool) (xs : List X) → list_any p xs ≡ false → position_or_len p xs ≡ length xs
all_fail p [] e = refl
all_fail p (x ∷ xs) e =
    let parts = or_parts (p x) (list_any p xs) e in
    let more = all_fail p xs parts.1 in
    ap (λ t. cond (not t) (1 + position_or_len p xs) 0) parts.0 ∙ omega (arith, more)

at_index : {X : Type 0} (p : X → Bool) (xs : List X) (k : ℕ) → position_or_len p xs ≡ k → k < length xs → position p xs ≡ Some k
at_index p xs k e lt =
    cond-true (nat_lt (position_or_len p xs) (length xs)) (Some (position_or_len p xs)) None (lt-ltb (position_or_len p xs) (length xs) (omega arith)) ∙ ap Some e

nowhere : {X : Type 0} (p : X → Bool) (xs : List X) → position_or_len p xs ≡ length xs → position p xs ≡ None
nowhere p xs e = cond-false (nat_lt (position_or_len p xs) (length xs)) (Some (position_or_len p xs)) None (not_less (position_or_len p xs) (length xs) e)

pub none_marked : {X : Type 0} (p : X → Bool) (xs : List X) → list_any p xs ≡ false → position p xs ≡ None
none_marked p xs e = nowhere p xs (all_fail p xs e)

pub some_marked : {X : Type 0} (p : X → Bool) (xs : List X) → list_any p xs ≡ true → (k : ℕ) × (position p xs ≡ Some k) × (k < length xs)
some_marked p xs e =
    let lt = marked_within p xs e in
    (position_or_len p xs, at_index p xs (position_or_len p xs) refl lt, lt)

pub marked_any : {X : Type 0} (p : X → Bool) (xs : List X) (P : ℕ → Type 0) → IsSomeAnd (position p xs) P → list_any p xs ≡ true
marked_any p xs P h = by (list_any p xs) refl
  where
    by : (b : Bool) → list_any p xs ≡ b → list_any p xs ≡ true
    by true e = e
    by false e = absurd (let none = subst (λ (o : Option ℕ). IsSomeAnd o P) (none_marked p xs e) h in none)

pub any_of_some : {X : Type 0} (p : X → Bool) (xs : List X) (k : ℕ) → position p xs ≡ Some k → list_any p xs ≡ true
any_of_some p xs k is = by (list_any p xs) refl
  where
    by : (b : Bool) → list_any p xs ≡ b → list_any p xs ≡ true
    by true e = e
    by false e = absurd (let none = none_marked p xs e in cc)

-- one more that is marked, after none
pub push_marked : {X : Type 0} (p : X → Bool) (xs : List X) (y : X) → list_any p xs ≡ false → p y ≡ true → position p (xs ++ y ∷ []) ≡ Some (length xs)
push_marked p xs y none mark =
    let all = all_fail p xs none in
    let longer = length-append xs (y ∷ []) in
    let index : position_or_len p (xs ++ y ∷ []) ≡ length xs =
    position_or_len_push p xs y ∙ cond-true (eqb (position_or_len p xs) (length xs)) (length xs + cond (p y) 0 1) (position_or_len p xs) (eq-eqb (position_or_len p xs) (length xs) all)
    ∙ ap (λ b. length xs + cond b 0 1) mark ∙ omega arith in
    at_index p (xs ++ y ∷ []) (length xs) index (omega (arith, longer))

-- one more that isn't marked
pub push_unmarked : {X : Type 0} (p : X → Bool) (xs : List X) (y : X) → p y ≡ false → position p (xs ++ y ∷ []) ≡ position p xs
push_unmarked p xs y plain = by (list_any p xs) refl
  where
    by : (b : Bool) → list_any p xs ≡ b → position p (xs ++ y ∷ []) ≡ position p xs
    by true e =
        let lt = marked_within p xs e in
        let longer = length-append xs (y ∷ []) in
        let index : position_or_len p (xs ++ y ∷ []) ≡ position_or_len p xs =
        position_or_len_push p xs y ∙ cond-false (eqb (position_or_len p xs) (length xs)) (length xs + cond (p y) 0 1) (position_or_len p xs) (less_eqb (position_or_len p xs) (length xs) lt) in
        at_index p (xs ++ y ∷ []) (position_or_len p xs) index (omega (arith, longer)) ∙ sym (at_index p xs (position_or_len p xs) refl lt)
    by false e =
        let all = all_fail p xs e in
        let longer = length-append xs (y ∷ []) in
        let index : position_or_len p (xs ++ y ∷ []) ≡ length (xs ++ y ∷ []) =
        position_or_len_push p xs y ∙ cond-true (eqb (position_or_len p xs) (length xs)) (length xs + cond (p y) 0 1) (position_or_len p xs) (eq-eqb (position_or_len p xs) (length xs) all)
        ∙ ap (λ b. length xs + cond b 0 1) plain ∙ omega (arith, longer) in
        nowhere p (xs ++ y ∷ []) index ∙ sym (nowhere p xs all)
