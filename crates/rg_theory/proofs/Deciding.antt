-- Searches among numbers at which a fact is decided, and whether a list has an element.
use Rattle.std.proofs.Common.{◌≡◌, ◌⊎◌, ◌↔◌, inl, inr, ℕ, zero, suc, ◌+◌, ◌<◌, ◌≤◌, List, [], ◌∷◌, length, get_or, Contains, AllPairs, refl, subst, arith, Bool, true, false, sym, IsTrue}
use Rattle.std.proofs.lemmas.Bool.{cases_lt, cases_eq, true≢false}
use Rattle.std.proofs.lemmas.List.Elements.{Contains-get_or}
use Rattle.rg_theory.proofs.Lists.{Contains-cons_cases}

abbrev pub Decided : Type 0 → Type 0
Decided P = P ⊎ ¬ P

pub both_decided : (P Q : Type 0) → Decided P → Decided Q → Decided (P × Q)
both_decided P Q (inl p) (inl q) = inl (p, q)
both_decided P Q (inl p) (inr lacks) = inr (λ h. lacks h.1)
both_decided P Q (inr lacks) _ = inr (λ h. lacks h.0)

pub not_decided : (P : Type 0) → Decided P → Decided (¬ P)
not_decided P (inl p) = inr (λ lacks. lacks p)
not_decided P (inr lacks) = inl lacks

-- what isn't refuted holds
pub holds : (P : Type 0) → Decided P → ¬ ¬ P → P
holds P (inl p) _ = p
holds P (inr lacks) h = absurd (h lacks)

-- ---- elements of a list

pub first_there : {X : Type 0} (x : X) (xs : List X) → Contains (x ∷ xs) x
first_there x xs = (0, omega arith, refl)

pub later_there : {X : Type 0} (x y : X) (xs : List X) → Contains xs y → Contains (x ∷ xs) y
later_there x y xs (k, lt, e) = (suc k, omega arith, e)

pub none_there : {X : Type 0} (y : X) → Contains [] y → ⊥
none_there y (k, lt, e) = absurd (omega arith)

pub there_or_not : {X : Type 0} → ((a b : X) → Decided (a ≡ b)) → (xs : List X) (x : X) → Decided (Contains xs x)
there_or_not same [] x = inr (none_there x)
there_or_not {X} same (y ∷ xs) x = by (same y x) (there_or_not same xs x)
  where
    neither : ¬ (y ≡ x) → ¬ Contains xs x → (y ≡ x) ⊎ Contains xs x → ⊥
    neither a b (inl e) = a e
    neither a b (inr h) = b h

    by : Decided (y ≡ x) → Decided (Contains xs x) → Decided (Contains (y ∷ xs) x)
    by (inl e) _ = inl (subst (λ z. Contains (y ∷ xs) z) e (first_there y xs))
    by (inr differ) (inl has) = inl (later_there y x xs has)
    by (inr differ) (inr lacks) = inr (λ has. neither differ lacks (Contains-cons_cases y x xs has))

-- two lists of numbers
pub same_list : (xs ys : List ℕ) → Decided (xs ≡ ys)
same_list [] [] = inl refl
same_list [] (y ∷ ys) = inr (λ e. absurd cc)
same_list (x ∷ xs) [] = inr (λ e. absurd cc)
same_list (x ∷ xs) (y ∷ ys) = by (cases_eq x y) (same_list xs ys)
  where
    by : Decided (x ≡ y) → Decided (xs ≡ ys) → Decided (x ∷ xs ≡ y ∷ ys)
    by (inl e) (inl f) = inl (λ i. e i ∷ f i)
    by (inl e) (inr differ) = inr (λ f. differ cc)
    by (inr differ) _ = inr (λ f. differ cc)

-- a list without one element that it has is shorter, and has all others
pub less_one : {X : Type 0} → ((a b : X) → Decided (a ≡ b)) → (xs : List X) (x : X) → Contains xs x
    → (rest : List X) × (suc (length rest) ≡ length xs) × ((y : X) → Contains xs y → ¬ (y ≡ x) → Contains rest y)
less_one same [] x has = absurd (none_there x has)
less_one {X} same (z ∷ xs) x has = by (same z x) (Contains-cons_cases z x xs has) (less_one same xs x)
  where
    ElsewhereIn : List X → List X → Type 0
    ElsewhereIn all rest = (y : X) → Contains all y → ¬ (y ≡ x) → Contains rest y

    others : z ≡ x → (y : X) → ¬ (y ≡ x) → (z ≡ y) ⊎ Contains xs y → Contains xs y
    others e y differ (inl is) = absurd (differ (subst (λ w. w ≡ x) is e))
    others e y differ (inr there) = there

    kept : (rest : List X) → ElsewhereIn xs rest → (y : X) → ¬ (y ≡ x) → (z ≡ y) ⊎ Contains xs y → Contains (z ∷ rest) y
    kept rest all y differ (inl is) = subst (λ w. Contains (z ∷ rest) w) is (first_there z rest)
    kept rest all y differ (inr there) = later_there z y rest (all y there differ)

    go : (rest : List X) × (suc (length rest) ≡ length xs) × ElsewhereIn xs rest → (rest : List X) × (suc (length rest) ≡ length (z ∷ xs)) × ElsewhereIn (z ∷ xs) rest
    go (rest, long, all) = (z ∷ rest, omega (arith, long), λ y there differ. kept rest all y differ (Contains-cons_cases z y xs there))

    by : Decided (z ≡ x) → (z ≡ x) ⊎ Contains xs x → (Contains xs x → (rest : List X) × (suc (length rest) ≡ length xs) × ElsewhereIn xs rest)
        → (rest : List X) × (suc (length rest) ≡ length (z ∷ xs)) × ElsewhereIn (z ∷ xs) rest
    by (inl e) _ _ = (xs, refl, λ y there differ. others e y differ (Contains-cons_cases z y xs there))
    by (inr differ) (inl e) _ = absurd (differ e)
    by (inr differ) (inr there) rest = go (rest there)

-- ---- numbers and pairs of numbers

-- the first number below the bound, or none
pub find_number : (P : ℕ → Type 0) → ((i : ℕ) → Decided (P i)) → (n : ℕ) → ((i : ℕ) × (i < n) × P i × ((j : ℕ) → j < i → ¬ P j)) ⊎ ((i : ℕ) → i < n → ¬ P i)
find_number P decide zero = inr (λ i lt p. (omega arith))
find_number P decide (suc n) = go (find_number P decide n) (decide n)
  where
    at : (i : ℕ) → i < suc n → (n ≤ i) → P i → P n
    at i lt ge p = let e : i ≡ n = omega arith in subst P e p

    none_too : ((i : ℕ) → i < n → ¬ P i) → ¬ P n → (i : ℕ) → i < suc n → ¬ P i
    none_too none not_here i lt p = by (cases_lt i n)
      where
        by : (i < n) ⊎ (n ≤ i) → ⊥
        by (inl less) = none i less p
        by (inr more) = not_here (at i lt more p)

    go : ((i : ℕ) × (i < n) × P i × ((j : ℕ) → j < i → ¬ P j)) ⊎ ((i : ℕ) → i < n → ¬ P i) → Decided (P n) → ((i : ℕ) × (i < suc n) × P i × ((j : ℕ) → j < i → ¬ P j)) ⊎ ((i : ℕ) → i < suc n → ¬ P i)
    go (inl (i, lt, p, before)) _ = inl (i, omega arith, p, before)
    go (inr none) (inl p) = inl (n, omega arith, p, none)
    go (inr none) (inr not_here) = inr (none_too none not_here)

-- one fact at each number below the bound, or the other at the first number at which the one wasn't found
pub each_or_first : (P Q : ℕ → Type 0) → ((i : ℕ) → P i ⊎ Q i) → (n : ℕ) → ((i : ℕ) → i < n → P i) ⊎ ((i : ℕ) × (i < n) × Q i × ((j : ℕ) → j < i → P j))
each_or_first P Q told zero = inl (λ i lt. absurd (omega arith))
each_or_first P Q told (suc n) = go (each_or_first P Q told n) (told n)
  where
    one_more : ((i : ℕ) → i < n → P i) → P n → (i : ℕ) → i < suc n → (i < n) ⊎ (n ≤ i) → P i
    one_more all here i lt (inl less) = all i less
    one_more all here i lt (inr more) = let e : n ≡ i = omega arith in subst P e here

    go : ((i : ℕ) → i < n → P i) ⊎ ((i : ℕ) × (i < n) × Q i × ((j : ℕ) → j < i → P j)) → P n ⊎ Q n → ((i : ℕ) → i < suc n → P i) ⊎ ((i : ℕ) × (i < suc n) × Q i × ((j : ℕ) → j < i → P j))
    go (inr (i, lt, q, before)) _ = inr (i, omega arith, q, before)
    go (inl all) (inr q) = inr (n, omega arith, q, all)
    go (inl all) (inl p) = inl (λ i lt. one_more all p i lt (cases_lt i n))

-- some number below the bound, or none
pub some_number : (P : ℕ → Type 0) → ((i : ℕ) → Decided (P i)) → (n : ℕ) → ((i : ℕ) → P i → i < n) → Decided ((i : ℕ) × P i)
some_number P decide n bound = by (find_number P decide n)
  where
    by : ((i : ℕ) × (i < n) × P i × ((j : ℕ) → j < i → ¬ P j)) ⊎ ((i : ℕ) → i < n → ¬ P i) → Decided ((i : ℕ) × P i)
    by (inl (i, lt, p, before)) = inl (i, p)
    by (inr none) = inr (λ (i, p). none i (bound i p) p)

abbrev pub PairBefore : ℕ → ℕ → ℕ → ℕ → Type 0
PairBefore s t s' t' = (s < s') ⊎ (s ≡ s') × (t < t')

pub cases_pair : (s t s' t' : ℕ) → PairBefore s t s' t' ⊎ (((s ≡ s') × (t ≡ t')) ⊎ PairBefore s' t' s t)
cases_pair s t s' t' = go (cases_lt s s') (cases_lt s' s) (cases_lt t t') (cases_lt t' t)
  where
    go : (s < s') ⊎ (s' ≤ s) → (s' < s) ⊎ (s ≤ s') → (t < t') ⊎ (t' ≤ t) → (t' < t) ⊎ (t ≤ t') → PairBefore s t s' t' ⊎ (((s ≡ s') × (t ≡ t')) ⊎ PairBefore s' t' s t)
    go (inl a) _ _ _ = inl (inl a)
    go (inr a) (inl b) _ _ = inr (inr (inl b))
    go (inr a) (inr b) (inl c) _ = inl (inr (omega arith, c))
    go (inr a) (inr b) (inr c) (inl d) = inr (inr (inr (omega arith, d)))
    go (inr a) (inr b) (inr c) (inr d) = inr (inl (omega arith, omega arith))

-- the first pair, or none
pub find_pair : (Q : ℕ → ℕ → Type 0) → ((s t : ℕ) → Decided (Q s t)) → (n m : ℕ) → ((s t : ℕ) → Q s t → (s < n) × (t < m))
    → ((s : ℕ) × (t : ℕ) × Q s t × ((s' t' : ℕ) → PairBefore s' t' s t → ¬ Q s' t')) ⊎ ((s t : ℕ) → ¬ Q s t)
find_pair Q decide n m bound = go (find_number E decide_row n)
  where
    E : ℕ → Type 0
    E s = (t : ℕ) × Q s t

    decide_row : (s : ℕ) → Decided (E s)
    decide_row s = some_number (Q s) (decide s) m (λ t q. (bound s t q).1)

    row : (s : ℕ) → E s → ((r : ℕ) → r < s → ¬ E r) → (s : ℕ) × (t : ℕ) × Q s t × ((s' t' : ℕ) → PairBefore s' t' s t → ¬ Q s' t')
    row s (t₀, q₀) before_rows = by (find_number (Q s) (decide s) m)
      where
        earlier : (t : ℕ) → ((u : ℕ) → u < t → ¬ Q s u) → (s' t' : ℕ) → PairBefore s' t' s t → ¬ Q s' t'
        earlier t before s' t' (inl lt) q = before_rows s' lt (t', q)
        earlier t before s' t' (inr (e, lt)) q = before t' lt (subst (λ r. Q r t') e q)

        by : ((t : ℕ) × (t < m) × Q s t × ((u : ℕ) → u < t → ¬ Q s u)) ⊎ ((t : ℕ) → t < m → ¬ Q s t) → (s : ℕ) × (t : ℕ) × Q s t × ((s' t' : ℕ) → PairBefore s' t' s t → ¬ Q s' t')
        by (inl (t, lt, q, before)) = (s, t, q, earlier t before)
        by (inr none) = absurd (none t₀ (bound s t₀ q₀).1 q₀)

    go : ((s : ℕ) × (s < n) × E s × ((r : ℕ) → r < s → ¬ E r)) ⊎ ((s : ℕ) → s < n → ¬ E s) → ((s : ℕ) × (t : ℕ) × Q s t × ((s' t' : ℕ) → PairBefore s' t' s t → ¬ Q s' t')) ⊎ ((s t : ℕ) → ¬ Q s t)
    go (inl (s, lt, e, before)) = inl (row s e before)
    go (inr none) = inr (λ s t q. none s (bound s t q).0 (t, q))

-- ---- the numbers below a bound at which the fact holds, in order

pub record AreAllWhere (P : ℕ → Type 0) (from n : ℕ) (xs : List ℕ) : Type 0 where
  pub members : (k : ℕ) → Contains xs k ↔ ((from ≤ k) × (k < from + n) × P k)
  pub in_order : AllPairs (λ a b. a < b) xs

pub all_where : (P : ℕ → Type 0) → ((i : ℕ) → Decided (P i)) → (from n : ℕ) → (xs : List ℕ) × AreAllWhere P from n xs
all_where P decide from zero = (
  [],
  record {
    members = λ k. ((λ has. absurd (none_there k has)), (λ (le, lt, p). absurd (omega arith)));
    in_order = λ i j d less lt. absurd (omega arith);
  },
)
all_where P decide from (suc n) = by (decide from) (all_where P decide (suc from) n)
  where
    by : Decided (P from) → (xs : List ℕ) × AreAllWhere P (suc from) n xs → (xs : List ℕ) × AreAllWhere P from (suc n) xs
    by (inr lacks) (xs, are) = (
      xs,
      record {
        members = λ k. (
          (λ has. (let (le, lt, p) = (are.members k).0 has in (omega arith, omega arith, p))),
          (λ (le, lt, p). (are.members k).1 (later k le p (cases_lt from k), omega arith, p)),
        );
        in_order = are.in_order;
      },
    )
      where
        later : (k : ℕ) → from ≤ k → P k → (from < k) ⊎ (k ≤ from) → suc from ≤ k
        later k le p (inl less) = omega arith
        later k le p (inr more) = absurd (lacks (let e : k ≡ from = omega arith in subst P e p))
    by (inl p) (xs, are) = (
      from ∷ xs,
      record {
        members = λ k. ((λ has. there k (Contains-cons_cases from k xs has)), (λ (le, lt, q). back k le lt q (cases_lt from k)));
        in_order = ordered;
      },
    )
      where
        there : (k : ℕ) → (from ≡ k) ⊎ Contains xs k → (from ≤ k) × (k < from + suc n) × P k
        there k (inl e) = (omega arith, omega arith, subst P e p)
        there k (inr has) = let (le, lt, q) = (are.members k).0 has in (omega arith, omega arith, q)

        back : (k : ℕ) → from ≤ k → k < from + suc n → P k → (from < k) ⊎ (k ≤ from) → Contains (from ∷ xs) k
        back k le lt q (inl less) = later_there from k xs ((are.members k).1 (omega arith, omega arith, q))
        back k le lt q (inr more) = let e : from ≡ k = omega arith in subst (λ i. Contains (from ∷ xs) i) e (first_there from xs)

        ordered : AllPairs (λ a b. a < b) (from ∷ xs)
        ordered zero zero d less lt = absurd (omega arith)
        ordered zero (suc j) d less lt = (let (le, lt', p') = (are.members (get_or xs j d)).0 (Contains-get_or xs j d (omega arith)) in le)
        ordered (suc i) zero d less lt = absurd (omega arith)
        ordered (suc i) (suc j) d less lt = are.in_order i j d (omega arith) (omega arith)

-- two numbers, and a truth value
pub less_or_not : (m n : ℕ) → Decided (m < n)
less_or_not m n = by (cases_lt m n)
  where
    by : (m < n) ⊎ (n ≤ m) → Decided (m < n)
    by (inl less) = inl less
    by (inr more) = inr (λ less. (omega arith))

pub true_or_not : (b : Bool) → Decided (IsTrue b)
true_or_not true = inl refl
true_or_not false = inr (λ e. true≢false (sym e))
