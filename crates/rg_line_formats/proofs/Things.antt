-- Things by their first indices, under a test that tells whether two are the same.
use Rattle.std.proofs.Common.{◌≡◌, ◌≢◌, ◌⊎◌, inl, inr, ⊎_elim, ℕ, zero, suc, ◌+◌, ◌<◌, ◌≤◌, Bool, true, false, ◌||◌, List, [], ◌∷◌, ◌++◌, length, get_or, slice_get, Contains, AllPairs, Some, refl, sym, ap, subst, ◌∙◌, append-nil, arith}
use Rattle.std.specs.Bool.{Decides}
use Rattle.std.specs.List.{fold, list_any}
use Rattle.std.proofs.lemmas.Bool.{false_from_ne_true, cond-true, cond-false, or_cases, cases_order, or_right}
use Rattle.std.proofs.lemmas.List.{length-append, get_or_append_left, get_or_default}
use Rattle.std.proofs.Math.Seq.{get_or-append_seam}
use Rattle.std.proofs.lemmas.List.Elements.{Contains-append_left, Contains-append_right, Contains-append_cases}
use Rattle.std.proofs.lemmas.List.Sums.{position_or_len_is}
use Rattle.std.proofs.lemmas.Option.{slice_get_within, get_or_from_slice_get, slice_get-get_or}
use Rattle.rg_theory.proofs.Lists.{there_later}
use Rattle.rg_line_formats.specs.First.{with_new, firsts, number_of}

-- what stands in a list stands there when it grows
pub stays_at : {X : Type 0} (xs more : List X) (i : ℕ) (x : X) → slice_get xs i ≡ Some x → slice_get (xs ++ more) i ≡ Some x
stays_at xs more i x at =
    let lt = slice_get_within xs i x at in
    let here : get_or (xs ++ more) i x ≡ x = get_or_append_left xs more x i lt ∙ get_or_from_slice_get xs i x x at in
    slice_get-get_or (xs ++ more) i x (omega (arith, length-append xs more)) ∙ ap Some here

pub last_there : {X : Type 0} (xs : List X) (x : X) → Contains (xs ++ x ∷ []) x
last_there xs x = Contains-append_right xs (x ∷ []) x (zero, omega arith, refl)

pub stands_last : {X : Type 0} (xs : List X) (x : X) → slice_get (xs ++ x ∷ []) (length xs) ≡ Some x
stands_last xs x = slice_get-get_or (xs ++ x ∷ []) (length xs) x (omega (arith, length-append xs (x ∷ []))) ∙ ap Some (get_or-append_seam xs x [] x)

pub there_one : {X : Type 0} (y x : X) → Contains (y ∷ []) x → y ≡ x
there_one y x (zero, lt, e) = e
there_one y x (suc k, lt, e) = absurd (omega arith)

differ_more : {X : Type 0} (xs : List X) (x : X) → AllPairs (λ a b. a ≢ b) xs → (Contains xs x → ⊥) → AllPairs (λ a b. a ≢ b) (xs ++ x ∷ [])
differ_more {X} xs x differ none i j d less within = by (cases_order j (length xs))
  where
    long : length (xs ++ x ∷ []) ≡ length xs + 1
    long = length-append xs (x ∷ [])

    by : (j ≡ length xs) ⊎ ((j < length xs) ⊎ (length xs < j)) → get_or (xs ++ x ∷ []) i d ≢ get_or (xs ++ x ∷ []) j d
    by (inl e) same =
        let lt : i < length xs = omega (arith, e) in
        none (i, lt, get_or_default xs i x d lt ∙ sym (get_or_append_left xs (x ∷ []) d i lt) ∙ same ∙ ap (λ n. get_or (xs ++ x ∷ []) n d) e ∙ get_or-append_seam xs x [] d)
    by (inr (inl lt)) same =
        differ i j d less lt (sym (get_or_append_left xs (x ∷ []) d i (omega arith)) ∙ same ∙ get_or_append_left xs (x ∷ []) d j lt)
    by (inr (inr gt)) same = omega (arith, long)

pub fold-append : {X A : Type 0} (f : A → X → A) (a : A) (xs ys : List X) → fold f a (xs ++ ys) ≡ fold f (fold f a xs) ys
fold-append f a [] ys = refl
fold-append f a (x ∷ xs) ys = fold-append f (f a x) xs ys

-- things with one more begin with those that were
pub grown : {X : Type 0} (same : X → X → Bool) (xs : List X) (x : X) → (more : List X) × (with_new same xs x ≡ xs ++ more)
grown {X} same xs x = by (list_any (same x) xs) refl
  where
    by : (b : Bool) → list_any (same x) xs ≡ b → (more : List X) × (with_new same xs x ≡ xs ++ more)
    by true e = ([], cond-true (list_any (same x) xs) xs (xs ++ x ∷ []) e ∙ sym (append-nil xs))
    by false e = (x ∷ [], cond-false (list_any (same x) xs) xs (xs ++ x ∷ []) e)

module _ {X : Type 0} (same : X → X → Bool) (tells : (a b : X) → Decides (same a b) (a ≡ b)) where
  pub any_there : (xs : List X) (x : X) → Contains xs x → list_any (same x) xs ≡ true
  any_there [] x (k, lt, e) = absurd (omega arith)
  any_there (y ∷ xs) x (zero, lt, e) = ap (λ b. b || list_any (same x) xs) ((tells x y).1 (sym e))
  any_there (y ∷ xs) x (suc k, lt, e) = or_right (same x y) (list_any (same x) xs) (any_there xs x (k, omega arith, e))

  pub there_any : (xs : List X) (x : X) → list_any (same x) xs ≡ true → Contains xs x
  there_any [] x e = absurd cc
  there_any (y ∷ xs) x e = by (or_cases (same x y) (list_any (same x) xs) e) (there_any xs x)
    where
      by : (same x y ≡ true) ⊎ (list_any (same x) xs ≡ true) → (list_any (same x) xs ≡ true → Contains xs x) → Contains (y ∷ xs) x
      by (inl h) more = (zero, omega arith, sym ((tells x y).0 h))
      by (inr h) more = there_later y xs x (more h)

  pub any_absent : (xs : List X) (x : X) → (Contains xs x → ⊥) → list_any (same x) xs ≡ false
  any_absent xs x none = false_from_ne_true (list_any (same x) xs) (λ e. none (there_any xs x e))

  pub new_there : (xs : List X) (x : X) → Contains xs x → with_new same xs x ≡ xs
  new_there xs x has = cond-true (list_any (same x) xs) xs (xs ++ x ∷ []) (any_there xs x has)

  pub new_absent : (xs : List X) (x : X) → (Contains xs x → ⊥) → with_new same xs x ≡ xs ++ x ∷ []
  new_absent xs x none = cond-false (list_any (same x) xs) xs (xs ++ x ∷ []) (any_absent xs x none)

  -- a thing is there or it isn't
  pub there_or_not : (xs : List X) (x : X) → Contains xs x ⊎ (Contains xs x → ⊥)
  there_or_not xs x = by (list_any (same x) xs) refl
    where
      by : (b : Bool) → list_any (same x) xs ≡ b → Contains xs x ⊎ (Contains xs x → ⊥)
      by true e = inl (there_any xs x e)
      by false e = inr (λ has. (let h = any_there xs x has in cc))

  pub still_there : (xs : List X) (x y : X) → Contains xs y → Contains (with_new same xs x) y
  still_there xs x y has = let g = grown same xs x in subst (λ l. Contains l y) (sym g.1) (Contains-append_left xs g.0 y has)

  pub still_at : (xs : List X) (x : X) (i : ℕ) (y : X) → slice_get xs i ≡ Some y → slice_get (with_new same xs x) i ≡ Some y
  still_at xs x i y at = let g = grown same xs x in subst (λ l. slice_get l i ≡ Some y) (sym g.1) (stays_at xs g.0 i y at)

  pub new_is_there : (xs : List X) (x : X) → Contains (with_new same xs x) x
  new_is_there xs x = ⊎_elim (λ has. subst (λ l. Contains l x) (sym (new_there xs x has)) has)
      (λ none. subst (λ l. Contains l x) (sym (new_absent xs x none)) (last_there xs x)) (there_or_not xs x)

  kept : (front xs : List X) (x : X) → Contains front x → Contains (fold (with_new same) front xs) x
  kept front [] x has = has
  kept front (y ∷ xs) x has = kept (with_new same front y) xs x (still_there front y x has)

  pub met : (front xs : List X) (x : X) → Contains xs x → Contains (fold (with_new same) front xs) x
  met front [] x (k, lt, e) = absurd (omega arith)
  met front (y ∷ xs) x (zero, lt, e) = kept (with_new same front y) xs x (subst (λ z. Contains (with_new same front y) z) e (new_is_there front y))
  met front (y ∷ xs) x (suc k, lt, e) = met (with_new same front y) xs x (k, omega arith, e)

  -- nothing else comes in
  new_from : (xs : List X) (x y : X) → Contains (with_new same xs x) y → Contains xs y ⊎ (x ≡ y)
  new_from xs x y has = ⊎_elim (λ old. inl (subst (λ l. Contains l y) (new_there xs x old) has))
      (λ none. ⊎_elim (λ a. inl a) (λ b. inr (there_one x y b)) (Contains-append_cases xs (x ∷ []) y (subst (λ l. Contains l y) (new_absent xs x none) has))) (there_or_not xs x)

  pub met_from : (front xs : List X) (x : X) → Contains (fold (with_new same) front xs) x → Contains front x ⊎ Contains xs x
  met_from front [] x has = inl has
  met_from front (y ∷ xs) x has = by (met_from (with_new same front y) xs x has)
    where
      by : Contains (with_new same front y) x ⊎ Contains xs x → Contains front x ⊎ Contains (y ∷ xs) x
      by (inl a) = ⊎_elim (λ old. inl old) (λ e. inr (zero, omega arith, e)) (new_from front y x a)
      by (inr b) = inr (there_later y xs x b)

  -- the number of a thing is its index, where things differ
  pub number_is : (xs : List X) (i : ℕ) (x : X) → AllPairs (λ a b. a ≢ b) xs → slice_get xs i ≡ Some x → number_of same xs x ≡ i
  number_is xs i x differ at =
      let lt = slice_get_within xs i x at in
      let here = get_or_from_slice_get xs i x x at in
      position_or_len_is (same x) xs i x (omega arith)
      (λ k less. false_from_ne_true (same x (get_or xs k x)) (λ e. differ k i x less lt (sym ((tells x (get_or xs k x)).0 e) ∙ sym here)))
      (λ _. (tells x (get_or xs i x)).1 (sym here))

  -- the number of a thing that is there stays, whatever comes behind
  pub number_stays : (xs more : List X) (x : X) → Contains xs x → number_of same (xs ++ more) x ≡ number_of same xs x
  number_stays [] more x (k, lt, e) = absurd (omega arith)
  number_stays (y ∷ xs) more x (k, lt, e) = by k lt e (same x y) refl (λ h. number_stays xs more x h)
    where
      by : (k : ℕ) → k < length (y ∷ xs) → get_or (y ∷ xs) k x ≡ x → (b : Bool) → same x y ≡ b
          → (Contains xs x → number_of same (xs ++ more) x ≡ number_of same xs x)
          → number_of same ((y ∷ xs) ++ more) x ≡ number_of same (y ∷ xs) x
      by k lt e true h go = rw h refl
      by zero lt e false h go = let yes = (tells x y).1 (sym e) in absurd cc
      by (suc k) lt e false h go = rw (h, go (k, omega arith, e)) refl

  -- at its number stands the thing
  pub number_at : (xs : List X) (x : X) → Contains xs x → slice_get xs (number_of same xs x) ≡ Some x
  number_at [] x (k, lt, e) = absurd (omega arith)
  number_at (y ∷ xs) x (k, lt, e) = by k lt e (same x y) refl (λ h. number_at xs x h)
    where
      by : (k : ℕ) → k < length (y ∷ xs) → get_or (y ∷ xs) k x ≡ x → (b : Bool) → same x y ≡ b
          → (Contains xs x → slice_get xs (number_of same xs x) ≡ Some x) → slice_get (y ∷ xs) (number_of same (y ∷ xs) x) ≡ Some x
      by k lt e true h go = rw h (ap Some (sym ((tells x y).0 h)))
      by zero lt e false h go = let yes = (tells x y).1 (sym e) in absurd cc
      by (suc k) lt e false h go =
          let index : number_of same (y ∷ xs) x ≡ suc (number_of same xs x) = rw h (omega arith) in
          subst (λ n. slice_get (y ∷ xs) n ≡ Some x) (sym index) (go (k, omega arith, e))

  firsts_from : (front xs : List X) → AllPairs (λ a b. a ≢ b) front → AllPairs (λ a b. a ≢ b) (fold (with_new same) front xs)
  firsts_from front [] differ = differ
  firsts_from front (y ∷ xs) differ = firsts_from (with_new same front y) xs
      (⊎_elim (λ has. subst (AllPairs (λ a b. a ≢ b)) (sym (new_there front y has)) differ)
      (λ none. subst (AllPairs (λ a b. a ≢ b)) (sym (new_absent front y none)) (differ_more front y differ none)) (there_or_not front y))

  pub firsts_differ : (xs : List X) → AllPairs (λ a b. a ≢ b) (firsts same xs)
  firsts_differ xs = firsts_from [] xs (λ i j d lt in'. absurd (omega arith))

-- no more things come in than there are
firsts_shorter : {X : Type 0} (same : X → X → Bool) (front xs : List X) → length (fold (with_new same) front xs) ≤ length front + length xs
firsts_shorter same front [] = omega arith
firsts_shorter same front (x ∷ xs) =
    let more = firsts_shorter same (with_new same front x) xs in
    omega (arith, more, by (list_any (same x) front) refl)
  where
    by : (b : Bool) → list_any (same x) front ≡ b → length (with_new same front x) ≤ length front + 1
    by true e = let n = ap length (cond-true (list_any (same x) front) front (front ++ x ∷ []) e) in omega (arith, n)
    by false e = let n = ap length (cond-false (list_any (same x) front) front (front ++ x ∷ []) e) in omega (arith, n, length-append front (x ∷ []))

pub firsts_short : {X : Type 0} (same : X → X → Bool) (xs : List X) → length (firsts same xs) ≤ length xs
firsts_short same xs = let n = firsts_shorter same [] xs in omega (arith, n)

-- a list round one of its things
split_at : {X : Type 0} (xs : List X) (x : X) → Contains xs x → (front : List X) × (rest : List X) × (xs ≡ front ++ x ∷ rest)
split_at [] x (k, lt, e) = absurd (omega arith)
split_at (y ∷ xs) x (zero, lt, e) = ([], xs, ap (λ z. z ∷ xs) e)
split_at (y ∷ xs) x (suc k, lt, e) = let r = split_at xs x (k, omega arith, e) in (y ∷ r.0, r.1, ap (λ l. y ∷ l) r.2)

-- different things of a list are no more than the list is long
pub pigeons : {X : Type 0} (xs ys : List X) → AllPairs (λ a b. a ≢ b) xs → ((x : X) → Contains xs x → Contains ys x) → length xs ≤ length ys
pigeons [] ys differ among = omega arith
pigeons {X} (x ∷ xs) ys differ among =
    let s = split_at ys x (among x (zero, omega arith, refl)) in
    let rest = pigeons xs (s.0 ++ s.1) (λ i j d less lt. differ (suc i) (suc j) d (omega arith) (omega arith)) (λ y has. without s.0 s.1 s.2 y has) in
    omega (arith, rest, length-append s.0 s.1, length-append s.0 (x ∷ s.1), ap length s.2)
  where
    without : (front rest : List X) → ys ≡ front ++ x ∷ rest → (y : X) → Contains xs y → Contains (front ++ rest) y
    without front rest e y has = by (Contains-append_cases front (x ∷ rest) y (subst (λ l. Contains l y) e (among y (there_later x xs y has))))
      where
        by : Contains front y ⊎ Contains (x ∷ rest) y → Contains (front ++ rest) y
        by (inl a) = Contains-append_left front rest y a
        by (inr (zero, lt, h)) = absurd (differ zero (suc has.0) y (omega arith) (omega (arith, has.1)) (h ∙ sym has.2))
        by (inr (suc k, lt, h)) = Contains-append_right front rest y (k, omega arith, h)
