-- Lists of variables in order: what they contain after one goes or comes.
use Rattle.std.proofs.Common.{◌≡◌, ◌≢◌, ◌⊎◌, ⊎_elim, ℕ, zero, suc, ◌+◌, ◌<◌, ◌≤◌, Bool, true, false, ◌==◌, nat_lt, if◌then◌else◌, List, [], ◌∷◌, length, get_or, Contains, ap, refl, subst, sym, ◌∙◌, inl, inr, arith, eqb-true, eq-eqb, add-one}
use Rattle.std.specs.List.Sorted.{IsStrictlyIncreasing}
use Rattle.std.proofs.lemmas.Bool.{cases_lt, false≢true}
use Rattle.std.proofs.lemmas.List.{ext_get_or}
use Rattle.std.proofs.lemmas.Bool.Decides.{nat_tests}
use Rattle.rg_linear.specs.Exchange.{without, put_in, exchanged}
use Rattle.rg_linear.specs.Dictionary.{numbers_from}

pub equal_or_not : (m n : ℕ) → (m ≡ n) ⊎ (m ≢ n)
equal_or_not m n = ⊎_elim (λ less. inr (λ e. omega arith)) (λ most. ⊎_elim (λ more. inr (λ e. omega arith)) (λ least. inl (omega arith)) (cases_lt n m)) (cases_lt m n)

pub differs : (m n : ℕ) → m ≢ n → (m == n) ≡ false
differs m n h = go (m == n) refl
  where
    go : (b : Bool) → (m == n) ≡ b → b ≡ false
    go false e = refl
    go true e = absurd (h (eqb-true m n e))

pub same : (m : ℕ) → (m == m) ≡ true
same m = eq-eqb m m refl

pub Contains-here : (x : ℕ) (xs : List ℕ) → Contains (x ∷ xs) x
Contains-here x xs = (0, omega arith, refl)

pub Contains-there : (x y : ℕ) (xs : List ℕ) → Contains xs y → Contains (x ∷ xs) y
Contains-there x y xs (k, lt, e) = (suc k, omega arith, e)

-- the first element, or one behind it
pub Contains-cons_cases : {X : Type 0} (x y : X) (xs : List X) → Contains (x ∷ xs) y → (x ≡ y) ⊎ Contains xs y
Contains-cons_cases x y xs (k, lt, e) = at k lt e
  where
    at : (k : ℕ) → k < length (x ∷ xs) → get_or (x ∷ xs) k y ≡ y → (x ≡ y) ⊎ Contains xs y
    at zero lt e = inl e
    at (suc k) lt e = inr (k, omega arith, e)

pub Contains-nil : (y : ℕ) → Contains [] y → ⊥
Contains-nil y (k, lt, e) = absurd (omega arith)

pub is_member : (xs : List ℕ) (m : ℕ) → Contains xs m ⊎ ¬ Contains xs m
is_member [] m = inr (λ has. Contains-nil m has)
is_member (x ∷ xs) m = go (equal_or_not x m) (is_member xs m)
  where
    go : (x ≡ m) ⊎ (x ≢ m) → Contains xs m ⊎ ¬ Contains xs m → Contains (x ∷ xs) m ⊎ ¬ Contains (x ∷ xs) m
    go (inl e) rest = inl (subst (λ y. Contains (x ∷ xs) y) e (Contains-here x xs))
    go (inr ne) (inl has) = inl (Contains-there x m xs has)
    go (inr ne) (inr lacks) = inr (λ has. ⊎_elim ne lacks (Contains-cons_cases x m xs has))

-- ---- without

pub Contains-without : (j m : ℕ) (xs : List ℕ) → Contains xs m → m ≢ j → Contains (without j xs) m
Contains-without j m [] has ne = absurd (Contains-nil m has)
Contains-without j m (x ∷ xs) has ne = go (x == j) refl (Contains-cons_cases x m xs has) (λ rest. Contains-without j m xs rest ne)
  where
    go : (b : Bool) → (x == j) ≡ b → (x ≡ m) ⊎ Contains xs m → (Contains xs m → Contains (without j xs) m) → Contains (if b then without j xs else (x ∷ without j xs)) m
    go true e (inl is) ih = absurd (ne (sym is ∙ eqb-true x j e))
    go true e (inr rest) ih = ih rest
    go false e (inl is) ih = subst (λ y. Contains (x ∷ without j xs) y) is (Contains-here x (without j xs))
    go false e (inr rest) ih = Contains-there x m (without j xs) (ih rest)

pub without-Contains : (j m : ℕ) (xs : List ℕ) → Contains (without j xs) m → Contains xs m × (m ≢ j)
without-Contains j m [] has = absurd (Contains-nil m has)
without-Contains j m (x ∷ xs) has = go (x == j) refl has (without-Contains j m xs)
  where
    go : (b : Bool) → (x == j) ≡ b → Contains (if b then without j xs else (x ∷ without j xs)) m → (Contains (without j xs) m → Contains xs m × (m ≢ j)) → Contains (x ∷ xs) m × (m ≢ j)
    go true e has ih = let r = ih has in (Contains-there x m xs r.0, r.1)
    go false e has ih = ⊎_elim
        (λ is. (subst (λ y. Contains (x ∷ xs) y) is (Contains-here x xs), λ mj. false≢true (sym e ∙ eq-eqb x j (is ∙ mj))))
        (λ rest. let r = ih rest in (Contains-there x m xs r.0, r.1))
        (Contains-cons_cases x m (without j xs) has)

-- ---- put_in

pub Contains-put_in_here : (i : ℕ) (xs : List ℕ) → Contains (put_in i xs) i
Contains-put_in_here i [] = Contains-here i []
Contains-put_in_here i (x ∷ xs) = go (nat_lt i x) (Contains-put_in_here i xs)
  where
    go : (b : Bool) → Contains (put_in i xs) i → Contains (if b then (i ∷ x ∷ xs) else (x ∷ put_in i xs)) i
    go true ih = Contains-here i (x ∷ xs)
    go false ih = Contains-there x i (put_in i xs) ih

pub Contains-put_in : (i m : ℕ) (xs : List ℕ) → Contains xs m → Contains (put_in i xs) m
Contains-put_in i m [] has = absurd (Contains-nil m has)
Contains-put_in i m (x ∷ xs) has = go (nat_lt i x) (Contains-cons_cases x m xs has) (Contains-put_in i m xs)
  where
    go : (b : Bool) → (x ≡ m) ⊎ Contains xs m → (Contains xs m → Contains (put_in i xs) m) → Contains (if b then (i ∷ x ∷ xs) else (x ∷ put_in i xs)) m
    go true h ih = Contains-there i m (x ∷ xs) has
    go false (inl is) ih = subst (λ y. Contains (x ∷ put_in i xs) y) is (Contains-here x (put_in i xs))
    go false (inr rest) ih = Contains-there x m (put_in i xs) (ih rest)

pub put_in-Contains : (i m : ℕ) (xs : List ℕ) → Contains (put_in i xs) m → (i ≡ m) ⊎ Contains xs m
put_in-Contains i m [] has = Contains-cons_cases i m [] has
put_in-Contains i m (x ∷ xs) has = go (nat_lt i x) has (put_in-Contains i m xs)
  where
    go : (b : Bool) → Contains (if b then (i ∷ x ∷ xs) else (x ∷ put_in i xs)) m → (Contains (put_in i xs) m → (i ≡ m) ⊎ Contains xs m) → (i ≡ m) ⊎ Contains (x ∷ xs) m
    go true has ih = Contains-cons_cases i m (x ∷ xs) has
    go false has ih = ⊎_elim
        (λ is. inr (subst (λ y. Contains (x ∷ xs) y) is (Contains-here x xs)))
        (λ rest. ⊎_elim (λ e. inl e) (λ old. inr (Contains-there x m xs old)) (ih rest))
        (Contains-cons_cases x m (put_in i xs) has)

pub length-put_in : (i : ℕ) (xs : List ℕ) → length (put_in i xs) ≡ suc (length xs)
length-put_in i [] = refl
length-put_in i (x ∷ xs) = go (nat_lt i x) (length-put_in i xs)
  where
    go : (b : Bool) → length (put_in i xs) ≡ suc (length xs) → length (if b then (i ∷ x ∷ xs) else (x ∷ put_in i xs)) ≡ suc (suc (length xs))
    go true ih = refl
    go false ih = ap suc ih

-- ---- order

-- each element is above x
abbrev pub AllAbove : ℕ → List ℕ → Type 0
AllAbove x xs = (m : ℕ) → Contains xs m → x < m

-- each element is above those before it
abbrev pub IsInOrder : List ℕ → Type 0
IsInOrder [] = Unit {0}
IsInOrder (x ∷ xs) = AllAbove x xs × IsInOrder xs

pub increasing_from_order : (xs : List ℕ) → IsInOrder xs → IsStrictlyIncreasing xs
increasing_from_order [] h k lt = absurd (omega arith)
increasing_from_order (x ∷ []) h k lt = absurd (omega arith)
increasing_from_order (x ∷ y ∷ xs) h zero lt = h.0 y (Contains-here y xs)
increasing_from_order (x ∷ y ∷ xs) h (suc k) lt = let r = increasing_from_order (y ∷ xs) h.1 k (omega arith) in next (k + 1) (suc k) (add-one k) r
  where
    next : (a b : ℕ) → a ≡ b → get_or (y ∷ xs) k 0 < get_or (y ∷ xs) a 0 → get_or (x ∷ y ∷ xs) (suc k) 0 < get_or (x ∷ y ∷ xs) (b + 1) 0
    next a b e h = subst (λ n. get_or (y ∷ xs) k 0 < get_or (x ∷ y ∷ xs) n 0) (sym (add-one b)) (subst (λ n. get_or (y ∷ xs) k 0 < get_or (y ∷ xs) n 0) e h)

pub order_from_increasing : (xs : List ℕ) → IsStrictlyIncreasing xs → IsInOrder xs
order_from_increasing [] h = tt
order_from_increasing (x ∷ []) h = ((λ m has. absurd (Contains-nil m has)), tt)
order_from_increasing (x ∷ y ∷ xs) h =
    let rest = order_from_increasing (y ∷ xs) (λ k lt. shift k (h (suc k) (omega arith))) in
    ((λ m has. ⊎_elim (λ (e : y ≡ m). subst (λ n. x < n) e (h 0 (omega arith))) (λ there. lower m (rest.0 m there)) (Contains-cons_cases y m xs has)), rest)
  where
    first : get_or (x ∷ y ∷ xs) 0 0 < get_or (x ∷ y ∷ xs) 1 0 → x < y
    first h = h

    lower : (m : ℕ) → y < m → x < m
    lower m more = let less : x < y = first (h 0 (omega arith)) in omega arith

    shift : (k : ℕ) → get_or (x ∷ y ∷ xs) (suc k) 0 < get_or (x ∷ y ∷ xs) (suc k + 1) 0 → get_or (y ∷ xs) k 0 < get_or (y ∷ xs) (k + 1) 0
    shift k r = subst (λ n. get_or (y ∷ xs) k 0 < get_or (y ∷ xs) n 0) (sym (add-one k)) (subst (λ n. get_or (y ∷ xs) k 0 < get_or (x ∷ y ∷ xs) n 0) (add-one (suc k)) r)

pub order-without : (j : ℕ) (xs : List ℕ) → IsInOrder xs → IsInOrder (without j xs)
order-without j [] h = tt
order-without j (x ∷ xs) h = go (x == j) (order-without j xs h.1)
  where
    go : (b : Bool) → IsInOrder (without j xs) → IsInOrder (if b then without j xs else (x ∷ without j xs))
    go true ih = ih
    go false ih = ((λ m has. h.0 m (without-Contains j m xs has).0), ih)

order-put_in : (i : ℕ) (xs : List ℕ) → IsInOrder xs → ¬ Contains xs i → IsInOrder (put_in i xs)
order-put_in i [] h new = ((λ m has. absurd (Contains-nil m has)), tt)
order-put_in i (x ∷ xs) h new = go (nat_lt i x) refl (order-put_in i xs h.1 (λ has. new (Contains-there x i xs has)))
  where
    above : i < x → (m : ℕ) → Contains (x ∷ xs) m → i < m
    above lt m has = ⊎_elim (λ (e : x ≡ m). subst (λ n. i < n) e lt) (λ there. let more = h.0 m there in omega arith) (Contains-cons_cases x m xs has)

    first : x < i → (m : ℕ) → Contains (put_in i xs) m → x < m
    first lt m has = ⊎_elim (λ (e : i ≡ m). subst (λ n. x < n) e lt) (λ there. h.0 m there) (put_in-Contains i m xs has)

    less : nat_lt i x ≡ true → i < x
    less e = grind (arith, nat_tests)

    more : nat_lt i x ≡ false → x ≢ i → x < i
    more e ne = grind (arith, nat_tests)

    not_same : x ≢ i
    not_same e = new (subst (λ y. Contains (x ∷ xs) y) e (Contains-here x xs))

    go : (b : Bool) → nat_lt i x ≡ b → IsInOrder (put_in i xs) → IsInOrder (if b then (i ∷ x ∷ xs) else (x ∷ put_in i xs))
    go true e ih = (above (less e), h)
    go false e ih = (first (more e not_same), ih)

-- a list in order has no element twice, so one goes
pub length-without : (j : ℕ) (xs : List ℕ) → IsInOrder xs → Contains xs j → suc (length (without j xs)) ≡ length xs
length-without j [] h has = absurd (Contains-nil j has)
length-without j (x ∷ xs) h has = go (x == j) refl (Contains-cons_cases x j xs has) (λ there. length-without j xs h.1 there)
  where
    none : (ys : List ℕ) → ¬ Contains ys j → without j ys ≡ ys
    none [] lacks = refl
    none (y ∷ ys) lacks = at (y == j) refl (none ys (λ there. lacks (Contains-there y j ys there)))
      where
        at : (b : Bool) → (y == j) ≡ b → without j ys ≡ ys → (if b then without j ys else (y ∷ without j ys)) ≡ y ∷ ys
        at true e ih = absurd (lacks (subst (λ z. Contains (y ∷ ys) z) (eqb-true y j e) (Contains-here y ys)))
        at false e ih = ap (λ zs. y ∷ zs) ih

    go : (b : Bool) → (x == j) ≡ b → (x ≡ j) ⊎ Contains xs j → (Contains xs j → suc (length (without j xs)) ≡ length xs)
        → suc (length (if b then without j xs else (x ∷ without j xs))) ≡ suc (length xs)
    go true e is ih = ap (λ ys. suc (length ys)) (none xs (λ has. let lt : x < j = h.0 j has in let is' : x ≡ j = eqb-true x j e in omega arith))
    go false e (inl is) ih = absurd (false≢true (sym e ∙ eq-eqb x j is))
    go false e (inr there) ih = ap suc (ih there)

-- ---- the exchange

pub Contains-exchanged_new : (i j : ℕ) (xs : List ℕ) → Contains (exchanged xs i j) i
Contains-exchanged_new i j xs = Contains-put_in_here i (without j xs)

pub Contains-exchanged_old : (i j m : ℕ) (xs : List ℕ) → Contains xs m → m ≢ j → Contains (exchanged xs i j) m
Contains-exchanged_old i j m xs has ne = Contains-put_in i m (without j xs) (Contains-without j m xs has ne)

pub exchanged-Contains : (i j m : ℕ) (xs : List ℕ) → Contains (exchanged xs i j) m → (i ≡ m) ⊎ (Contains xs m × (m ≢ j))
exchanged-Contains i j m xs has = ⊎_elim (λ e. inl e) (λ old. inr (without-Contains j m xs old)) (put_in-Contains i m (without j xs) has)

pub exchanged-ordered : (i j : ℕ) (xs : List ℕ) → IsStrictlyIncreasing xs → ¬ Contains xs i → IsStrictlyIncreasing (exchanged xs i j)
exchanged-ordered i j xs h new = increasing_from_order _ (order-put_in i (without j xs) (order-without j xs (order_from_increasing xs h)) (λ has. new (without-Contains j i xs has).0))

pub length-exchanged : (i j : ℕ) (xs : List ℕ) → IsStrictlyIncreasing xs → Contains xs j → length (exchanged xs i j) ≡ length xs
length-exchanged i j xs h has = length-put_in i (without j xs) ∙ length-without j xs (order_from_increasing xs h) has

-- ---- the columns

pub length-numbers_from : (a n : ℕ) → length (numbers_from a n) ≡ n
length-numbers_from a zero = refl
length-numbers_from a (suc n) = ap suc (length-numbers_from (suc a) n)

pub Contains-numbers_from : (a n m : ℕ) → a ≤ m → m < a + n → Contains (numbers_from a n) m
Contains-numbers_from a zero m lo hi = absurd (omega arith)
Contains-numbers_from a (suc n) m lo hi = go (equal_or_not a m) (λ more. Contains-numbers_from (suc a) n m more (omega arith))
  where
    go : (a ≡ m) ⊎ (a ≢ m) → (suc a ≤ m → Contains (numbers_from (suc a) n) m) → Contains (a ∷ numbers_from (suc a) n) m
    go (inl e) ih = subst (λ y. Contains (a ∷ numbers_from (suc a) n) y) e (Contains-here a _)
    go (inr ne) ih = Contains-there a m _ (ih (omega arith))

pub numbers_from-Contains : (a n m : ℕ) → Contains (numbers_from a n) m → (a ≤ m) × (m < a + n)
numbers_from-Contains a zero m has = absurd (Contains-nil m has)
numbers_from-Contains a (suc n) m has = go (Contains-cons_cases a m _ has) (numbers_from-Contains (suc a) n m)
  where
    go : (a ≡ m) ⊎ Contains (numbers_from (suc a) n) m → (Contains (numbers_from (suc a) n) m → (suc a ≤ m) × (m < suc a + n)) → (a ≤ m) × (m < a + suc n)
    go (inl e) ih = (omega arith, omega arith)
    go (inr there) ih = let r = ih there in (omega arith, omega arith)

numbers_in_order : (a n : ℕ) → IsInOrder (numbers_from a n)
numbers_in_order a zero = tt
numbers_in_order a (suc n) = ((λ m has. (numbers_from-Contains (suc a) n m has).0), numbers_in_order (suc a) n)

pub numbers_from-ordered : (a n : ℕ) → IsStrictlyIncreasing (numbers_from a n)
numbers_from-ordered a n = increasing_from_order _ (numbers_in_order a n)

pub get_or-numbers_from : (first n k d : ℕ) → k < n → get_or (numbers_from first n) k d ≡ first + k
get_or-numbers_from first zero k d lt = absurd (omega arith)
get_or-numbers_from first (suc n) zero d lt = omega arith
get_or-numbers_from first (suc n) (suc k) d lt = let r = get_or-numbers_from (suc first) n k d (omega arith) in omega arith

-- a list with each number at its index
pub columns_numbered : (members : List ℕ) (n : ℕ) → length members ≡ n → ((k : ℕ) → k < n → get_or members k 0 ≡ k) → members ≡ numbers_from 0 n
columns_numbered members n size each = ext_get_or 0 members (numbers_from 0 n) (size ∙ sym (length-numbers_from 0 n)) (λ k lt. at k (omega arith))
  where
    at : (k : ℕ) → k < n → get_or members k 0 ≡ get_or (numbers_from 0 n) k 0
    at k lt = let e = each k lt in let r = get_or-numbers_from 0 n k 0 lt in omega arith
