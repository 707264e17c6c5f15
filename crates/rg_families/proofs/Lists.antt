-- Lists made of numbers in order: their members, what differs in them, and how long they are.
use Rattle.std.proofs.Common.{◌≡◌, ◌≢◌, ◌⊎◌, inl, inr, ⊎_elim, ℕ, zero, suc, ◌+◌, ◌*◌, ◌<◌, ◌≤◌, List, [], ◌∷◌, ◌++◌, length, map, get_or, All, Contains, AllPairs, refl, sym, ap, subst, ◌∙◌, append_assoc, append-nil, arith}
use Rattle.std.specs.List.{flat_map, range_with_len}
use Rattle.std.proofs.Math.Nat.{suc-mul}
use Rattle.std.proofs.lemmas.List.{length-append, get_or_default}
use Rattle.std.proofs.lemmas.List.Concat.{flat_map-cons}
use Rattle.std.proofs.lemmas.List.Elements.{Contains-get_or, Contains-append_left, Contains-append_right, Contains-append_cases}
use Rattle.std.proofs.lemmas.List.FromFn.{map-range_with_len_more}
use Rattle.std.proofs.lemmas.Grind.{flat_map-append}
use Rattle.rg_theory.proofs.Lists.{range_more, there_later, map_there, map_from}
use Rattle.rg_families.specs.Named.{each_below, row}

flat_one : {X Y : Type 0} (f : X → List Y) (x : X) → flat_map f (x ∷ []) ≡ f x
flat_one f x = flat_map-cons f x [] ∙ append-nil (f x)

pub flat_last : {X Y : Type 0} (f : X → List Y) (xs : List X) (x : X) → flat_map f (xs ++ x ∷ []) ≡ flat_map f xs ++ f x
flat_last f xs x = flat_map-append f xs (x ∷ []) ∙ ap (λ l. flat_map f xs ++ l) (flat_one f x)

pub each_more : {X : Type 0} (n : ℕ) (f : ℕ → List X) → each_below (n + 1) f ≡ each_below n f ++ f n
each_more n f =
    let z : 0 + n ≡ n = omega arith in
    ap (flat_map f) (range_more 0 n ∙ ap (λ m. range_with_len 0 n ++ m ∷ []) z) ∙ flat_last f (range_with_len 0 n) n

pub row_more : {X : Type 0} (n : ℕ) (f : ℕ → X) → row (n + 1) f ≡ row n f ++ f n ∷ []
row_more n f = map-range_with_len_more f 0 n n (omega arith)

-- one thing more, and more things
pub one_more : {X : Type 0} (start : List X) (n : ℕ) (f : ℕ → X) (old new : List X) → new ≡ old ++ f n ∷ [] → old ≡ start ++ row n f → new ≡ start ++ row (n + 1) f
one_more start n f old new is was =
    is ∙ ap (λ l. l ++ f n ∷ []) was ∙ append_assoc start (row n f) (f n ∷ []) ∙ ap (λ l. start ++ l) (sym (row_more n f))

pub some_more : {X : Type 0} (start : List X) (n : ℕ) (f : ℕ → List X) (old new : List X) → new ≡ old ++ f n → old ≡ start ++ each_below n f → new ≡ start ++ each_below (n + 1) f
some_more start n f old new is was =
    is ∙ ap (λ l. l ++ f n) was ∙ append_assoc start (each_below n f) (f n) ∙ ap (λ l. start ++ l) (sym (each_more n f))

-- members
pub range_from : (a n i : ℕ) → Contains (range_with_len a n) i → (a ≤ i) × (i < a + n)
range_from a zero i (k, lt, e) = absurd (omega arith)
range_from a (suc n) i (zero, lt, e) = (omega (arith, e), omega (arith, e))
range_from a (suc n) i (suc k, lt, e) = let r = range_from (a + 1) n i (k, omega arith, e) in (omega (arith, r.0), omega (arith, r.1))

pub range_has : (a n i : ℕ) → a ≤ i → i < a + n → Contains (range_with_len a n) i
range_has a zero i ge lt = absurd (omega arith)
range_has a (suc n) i ge lt = by (cases a i) (λ more. range_has (a + 1) n i more (omega arith))
  where
    cases : (m k : ℕ) → (m ≡ k) ⊎ ((k < m) ⊎ (m + 1 ≤ k))
    cases m k = grind arith

    by : (a ≡ i) ⊎ ((i < a) ⊎ (a + 1 ≤ i)) → (a + 1 ≤ i → Contains (range_with_len (a + 1) n) i) → Contains (range_with_len a (suc n)) i
    by (inl e) go = (zero, omega arith, e)
    by (inr (inl less)) go = absurd (omega arith)
    by (inr (inr more)) go = there_later a (range_with_len (a + 1) n) i (go more)

pub flat_from : {X Y : Type 0} (f : X → List Y) (xs : List X) (y : Y) → Contains (flat_map f xs) y → (x : X) × Contains xs x × Contains (f x) y
flat_from f [] y (k, lt, e) = absurd (omega arith)
flat_from {X} f (x ∷ xs) y has =
    by (Contains-append_cases (f x) (flat_map f xs) y (subst (λ l. Contains l y) (flat_map-cons f x xs) has)) (flat_from f xs y)
  where
    by : Contains (f x) y ⊎ Contains (flat_map f xs) y → (Contains (flat_map f xs) y → (z : X) × Contains xs z × Contains (f z) y) → (z : X) × Contains (x ∷ xs) z × Contains (f z) y
    by (inl here) go = (x, (zero, omega arith, refl), here)
    by (inr later) go = let r = go later in (r.0, there_later x xs r.0 r.1, r.2)

pub flat_has : {X Y : Type 0} (f : X → List Y) (xs : List X) (x : X) (y : Y) → Contains xs x → Contains (f x) y → Contains (flat_map f xs) y
flat_has f [] x y (k, lt, e) here = absurd (omega arith)
flat_has f (z ∷ xs) x y (zero, lt, e) here =
    subst (λ l. Contains l y) (sym (flat_map-cons f z xs)) (Contains-append_left (f z) (flat_map f xs) y (subst (λ w. Contains (f w) y) (sym e) here))
flat_has f (z ∷ xs) x y (suc k, lt, e) here =
    subst (λ l. Contains l y) (sym (flat_map-cons f z xs)) (Contains-append_right (f z) (flat_map f xs) y (flat_has f xs x y (k, omega arith, e) here))

pub each_from : {X : Type 0} (n : ℕ) (f : ℕ → List X) (x : X) → Contains (each_below n f) x → (i : ℕ) × (i < n) × Contains (f i) x
each_from n f x has =
    let r = flat_from f (range_with_len 0 n) x has in
    let within = range_from 0 n r.0 r.1 in
    (r.0, omega (arith, within.1), r.2)

pub each_has : {X : Type 0} (n : ℕ) (f : ℕ → List X) (i : ℕ) (x : X) → i < n → Contains (f i) x → Contains (each_below n f) x
each_has n f i x lt here = flat_has f (range_with_len 0 n) i x (range_has 0 n i (omega arith) (omega arith)) here

pub row_from : {X : Type 0} (n : ℕ) (f : ℕ → X) (x : X) → Contains (row n f) x → (i : ℕ) × (i < n) × (f i ≡ x)
row_from n f x has =
    let r = map_from f (range_with_len 0 n) x has in
    let within = range_from 0 n r.0 r.1 in
    (r.0, omega (arith, within.1), r.2)

pub row_has : {X : Type 0} (n : ℕ) (f : ℕ → X) (i : ℕ) → i < n → Contains (row n f) (f i)
row_has n f i lt = map_there f (range_with_len 0 n) i (range_has 0 n i (omega arith) (omega arith))

-- what holds of each member holds of all
pub all_members : {X : Type 0} (P : X → Type 0) (xs : List X) → ((x : X) → Contains xs x → P x) → All P xs
all_members P xs each k d lt = each (get_or xs k d) (Contains-get_or xs k d lt)

-- what differs
abbrev pub Differ : {X : Type 0} → List X → Type 0
Differ xs = AllPairs (λ a b. a ≢ b) xs

pub differ_nil : {X : Type 0} → Differ {X = X} []
differ_nil i j d lt within = absurd (omega arith)

pub differ_cons : {X : Type 0} (x : X) (xs : List X) → Differ xs → (Contains xs x → ⊥) → Differ (x ∷ xs)
differ_cons x xs differ new zero zero d lt within same = omega arith
differ_cons x xs differ new zero (suc j) d lt within same = new (j, omega arith, get_or_default xs j x d (omega arith) ∙ sym same)
differ_cons x xs differ new (suc i) zero d lt within same = omega arith
differ_cons x xs differ new (suc i) (suc j) d lt within same = differ i j d (omega arith) (omega arith) same

pub differ_tail : {X : Type 0} (x : X) (xs : List X) → Differ (x ∷ xs) → Differ xs
differ_tail x xs differ i j d lt within = differ (suc i) (suc j) d (omega arith) (omega arith)

pub head_new : {X : Type 0} (x : X) (xs : List X) → Differ (x ∷ xs) → Contains xs x → ⊥
head_new x xs differ (k, lt, e) = differ zero (suc k) x (omega arith) (omega arith) (sym e)

pub differ_append : {X : Type 0} (xs ys : List X) → Differ xs → Differ ys → ((x : X) → Contains xs x → Contains ys x → ⊥) → Differ (xs ++ ys)
differ_append [] ys dx dy apart = dy
differ_append {X} (x ∷ xs) ys dx dy apart =
    differ_cons x (xs ++ ys) (differ_append xs ys (differ_tail x xs dx) dy (λ y here there. apart y (there_later x xs y here) there))
    (λ has. ⊎_elim (λ here. head_new x xs dx here) (λ there. apart x (zero, omega arith, refl) there) (Contains-append_cases xs ys x has))

differ_flat : {X : Type 0} (f : ℕ → List X) (a n : ℕ) → ((i : ℕ) → i < a + n → Differ (f i)) → ((i j : ℕ) (x : X) → i < j → j < a + n → Contains (f i) x → Contains (f j) x → ⊥)
    → Differ (flat_map f (range_with_len a n))
differ_flat f a zero each apart = differ_nil
differ_flat f a (suc n) each apart =
    let rest = differ_flat f (a + 1) n (λ i lt. each i (omega arith)) (λ i j x less lt. apart i j x less (omega arith)) in
    subst Differ (sym (flat_map-cons f a (range_with_len (a + 1) n))) (differ_append (f a) (flat_map f (range_with_len (a + 1) n)) (each a (omega arith)) rest
    (λ x here there. (let r = flat_from f (range_with_len (a + 1) n) x there in
    let within = range_from (a + 1) n r.0 r.1 in
    apart a r.0 x (omega (arith, within.0)) (omega (arith, within.1)) here r.2)))

pub differ_each : {X : Type 0} (n : ℕ) (f : ℕ → List X) → ((i : ℕ) → i < n → Differ (f i)) → ((i j : ℕ) (x : X) → i < j → j < n → Contains (f i) x → Contains (f j) x → ⊥)
    → Differ (each_below n f)
differ_each n f each apart = differ_flat f 0 n (λ i lt. each i (omega arith)) (λ i j x less lt. apart i j x less (omega arith))

pub differ_map : {X Y : Type 0} (f : X → Y) (xs : List X) → Differ xs → ((x y : X) → Contains xs x → Contains xs y → f x ≡ f y → x ≡ y) → Differ (map f xs)
differ_map f [] differ one = differ_nil
differ_map f (x ∷ xs) differ one =
    differ_cons (f x) (map f xs) (differ_map f xs (differ_tail x xs differ) (λ y z hy hz e. one y z (there_later x xs y hy) (there_later x xs z hz) e))
    (λ has. (let r = map_from f xs (f x) has in
    head_new x xs differ (subst (Contains xs) (one r.0 x (there_later x xs r.0 r.1) (zero, omega arith, refl) r.2) r.1)))

differ_range : (a n : ℕ) → Differ (range_with_len a n)
differ_range a zero = differ_nil
differ_range a (suc n) = differ_cons a (range_with_len (a + 1) n) (differ_range (a + 1) n) (λ has. (let r = range_from (a + 1) n a has in omega (arith, r.0)))

pub differ_row : {X : Type 0} (n : ℕ) (f : ℕ → X) → ((i j : ℕ) → i < n → j < n → f i ≡ f j → i ≡ j) → Differ (row n f)
differ_row n f one = differ_map f (range_with_len 0 n) (differ_range 0 n)
    (λ i j hi hj e. (let ri = range_from 0 n i hi in let rj = range_from 0 n j hj in one i j (omega (arith, ri.1)) (omega (arith, rj.1)) e))

-- lengths
pub flat_short : {X Y : Type 0} (f : X → List Y) (xs : List X) (k : ℕ) → ((x : X) → Contains xs x → length (f x) ≤ k) → length (flat_map f xs) ≤ length xs * k
flat_short f [] k each = omega arith
flat_short f (x ∷ xs) k each =
    let rest = flat_short f xs k (λ y has. each y (there_later x xs y has)) in
    let first = each x (zero, omega arith, refl) in
    let whole = ap length (flat_map-cons f x xs) in
    omega (arith, rest, first, whole, length-append (f x) (flat_map f xs), suc-mul (length xs) k)
