-- Indices of variables among members in order.
use Rattle.std.proofs.Common.{◌≡◌, ◌≢◌, ◌⊎◌, ⊎_elim, ℕ, zero, suc, ◌+◌, ◌-◌, ◌<◌, ◌≤◌, List, [], ◌∷◌, length, get_or, Contains, ap, refl, subst, sym, ◌∙◌, inl, inr, arith, true, false, nat_lt}
use Rattle.std.specs.List.{remove}
use Rattle.std.specs.List.Sorted.{IsStrictlyIncreasing}
use Rattle.std.proofs.lemmas.Bool.{cases_lt}
use Rattle.std.proofs.lemmas.Bool.Decides.{nat_tests}
use Rattle.std.proofs.lemmas.List.{get_or_default}
use Rattle.std.proofs.lemmas.List.Edits.{length-remove, get_or-remove_below, get_or-remove_above}
use Rattle.rg_linear.specs.Exchange.{without}
use Rattle.rg_linear.specs.Table.{index_for}
use Rattle.rg_linear.proofs.Members.{order_from_increasing}
use Rattle.rg_linear.proofs.Columns.{below_test, past_test}
use Rattle.rg_linear.proofs.TableLemmas.{without-split}

pub rising : (xs : List ℕ) (i j : ℕ) → IsStrictlyIncreasing xs → i < j → j < length xs → get_or xs i 0 < get_or xs j 0
rising xs i zero h lt inside = absurd (omega arith)
rising xs i (suc j) h lt inside = ⊎_elim (λ less. next less (rising xs i j h less (omega arith))) (λ most. last (omega arith)) (cases_lt i j)
  where
    step : get_or xs j 0 < get_or xs (suc j) 0
    step = subst (λ n. get_or xs j 0 < get_or xs n 0) (one j) (h j (omega arith))
      where
        one : (j : ℕ) → j + 1 ≡ suc j
        one j = omega arith

    next : i < j → get_or xs i 0 < get_or xs j 0 → get_or xs i 0 < get_or xs (suc j) 0
    next less before = let s = step in omega arith

    last : j ≡ i → get_or xs i 0 < get_or xs (suc j) 0
    last e = subst (λ n. get_or xs n 0 < get_or xs (suc j) 0) e step

pub not_falling : (xs : List ℕ) (i j : ℕ) → IsStrictlyIncreasing xs → i ≤ j → j < length xs → get_or xs i 0 ≤ get_or xs j 0
not_falling xs i j h le inside = ⊎_elim (λ less. (let r = rising xs i j h less inside in omega arith)) (λ most. same (omega arith)) (cases_lt i j)
  where
    same : j ≡ i → get_or xs i 0 ≤ get_or xs j 0
    same e = subst (λ n. get_or xs i 0 ≤ get_or xs n 0) (sym e) (omega arith)

-- what tests say

pub is_below : (m i : ℕ) → nat_lt m i ≡ true → m < i
is_below m i e = grind (arith, nat_tests)

pub is_not_below : (m i : ℕ) → nat_lt m i ≡ false → i ≤ m
is_not_below m i e = grind (arith, nat_tests)

pub member_at : (xs : List ℕ) (k : ℕ) → k < length xs → Contains xs (get_or xs k 0)
member_at xs k lt = (k, lt, get_or_default xs k (get_or xs k 0) 0 lt)

-- a number that the members from some index on are not below, and those before it are, stands nowhere else
pub found_or_not : (xs : List ℕ) (b i : ℕ) → ((k : ℕ) → k < b → get_or xs k 0 < i) → ((k : ℕ) → b ≤ k → k < length xs → i ≤ get_or xs k 0) → IsStrictlyIncreasing xs
    → Contains xs i → (b < length xs) × (get_or xs b 0 ≡ i)
found_or_not xs b i below others h (k, lt, e) = (omega (arith, past), omega (arith, first, here))
  where
    is : get_or xs k 0 ≡ i
    is = get_or_default xs k 0 i lt ∙ e

    past : b ≤ k
    past = ⊎_elim (λ less. (let f = below k less in absurd (omega (arith, is)))) (λ le. le) (cases_lt k b)

    here : i ≤ get_or xs b 0
    here = others b (omega arith) (omega (arith, past))

    first : get_or xs b 0 ≤ i
    first = let f = not_falling xs b k h past lt in omega (arith, is)

-- so many of the members are below a number, and the others are not
pub record AreBelow (xs : List ℕ) (b i : ℕ) : Type 0 where
  pub below : (k : ℕ) → k < b → get_or xs k 0 < i
  pub others : (k : ℕ) → b ≤ k → k < length xs → i ≤ get_or xs k 0

-- the next number has one more below it where this one is a member, and else as many
pub past_member : (xs : List ℕ) (b i : ℕ) → IsStrictlyIncreasing xs → AreBelow xs b i → get_or xs b 0 ≡ i → AreBelow xs (b + 1) (i + 1)
past_member xs b i h a e = record {
  below = λ k lt. ⊎_elim (λ less. (let f = a.below k less in omega arith)) (λ most. same k (omega arith)) (cases_lt k b);
  others = λ k le inside. (let r = rising xs b k h (omega arith) inside in omega (arith, e));
}
  where
    same : (k : ℕ) → b ≡ k → get_or xs k 0 < i + 1
    same k is = subst (λ n. get_or xs n 0 < i + 1) is (omega (arith, e))

pub past_other : (xs : List ℕ) (b i : ℕ) → IsStrictlyIncreasing xs → AreBelow xs b i → ¬ ((b < length xs) × (get_or xs b 0 ≡ i)) → AreBelow xs b (i + 1)
past_other xs b i h a differs = record {
  below = λ k lt. (let f = a.below k lt in omega arith);
  others = λ k le inside. ⊎_elim (λ less. omega arith) (λ most. absurd (stands k le inside most)) (cases_lt i (get_or xs k 0));
}
  where
    equal : (m : ℕ) → i ≤ m → m ≤ i → m ≡ i
    equal m le most = omega arith

    stands : (k : ℕ) → b ≤ k → k < length xs → get_or xs k 0 ≤ i → ⊥
    stands k le inside most = differs (found_or_not xs b i a.below a.others h (subst (Contains xs) (equal (get_or xs k 0) (a.others k le inside) most) (member_at xs k inside)))

-- the index of a number is how many are not above it
pub index_for-is : (i : ℕ) (ns : List ℕ) (b : ℕ) → b ≤ length ns → ((k : ℕ) → k < b → get_or ns k 0 ≤ i) → ((k : ℕ) → b ≤ k → k < length ns → i < get_or ns k 0) → index_for i ns ≡ b
index_for-is i [] b le below above = omega arith
index_for-is i (n ∷ ns) zero le below above = rw (below_test i n (above 0 (omega arith) (omega arith))) refl
index_for-is i (n ∷ ns) (suc b) le below above =
    rw (past_test i n (below 0 (omega arith)))
    (one (index_for i ns) (index_for-is i ns b (omega arith) (λ k lt. below (suc k) (omega arith)) (λ k ge lt. above (suc k) (omega arith) (omega arith))))
  where
    one : (m : ℕ) → m ≡ b → 1 + m ≡ suc b
    one m e = omega arith

pub gone : (xs : List ℕ) (p : ℕ) → IsStrictlyIncreasing xs → p < length xs → without (get_or xs p 0) xs ≡ remove xs p
gone xs p h lt = without-split xs p (order_from_increasing xs h) lt

-- the index of a number that is no member, where the member at p leaves
pub index_behind : (xs : List ℕ) (p b i : ℕ) → IsStrictlyIncreasing xs → p < length xs → b ≤ length xs → ¬ Contains xs i
    → ((k : ℕ) → k < b → get_or xs k 0 < i) → ((k : ℕ) → b ≤ k → k < length xs → i ≤ get_or xs k 0)
    → p < b → b - 1 ≡ index_for i (without (get_or xs p 0) xs)
index_behind xs p b i h lt le lacks below others less = sym (ap (index_for i) (gone xs p h lt) ∙ index_for-is i (remove xs p) (b - 1) (omega (arith, length-remove xs p lt)) under over)
  where
    under : (k : ℕ) → k < b - 1 → get_or (remove xs p) k 0 ≤ i
    under k kb = ⊎_elim
        (λ before. (let e = get_or-remove_below xs p 0 k before lt in let f = below k (omega arith) in omega arith))
        (λ past. (let e = get_or-remove_above xs p 0 k past lt in let f = below (k + 1) (omega arith) in omega arith))
        (cases_lt k p)

    over : (k : ℕ) → b - 1 ≤ k → k < length (remove xs p) → i < get_or (remove xs p) k 0
    over k bk inside =
        let size = length-remove xs p lt in
        let e = get_or-remove_above xs p 0 k (omega arith) lt in
        let f = others (k + 1) (omega arith) (omega arith) in
        ⊎_elim (λ more. more) (λ most. absurd (lacks (subst (Contains xs) (equal e f most) (member_at xs (k + 1) (omega arith))))) (cases_lt i (get_or (remove xs p) k 0))
      where
        equal : get_or (remove xs p) k 0 ≡ get_or xs (k + 1) 0 → i ≤ get_or xs (k + 1) 0 → get_or (remove xs p) k 0 ≤ i → get_or xs (k + 1) 0 ≡ i
        equal e f most = omega arith

pub index_before : (xs : List ℕ) (p b i : ℕ) → IsStrictlyIncreasing xs → p < length xs → b ≤ length xs → ¬ Contains xs i
    → ((k : ℕ) → k < b → get_or xs k 0 < i) → ((k : ℕ) → b ≤ k → k < length xs → i ≤ get_or xs k 0)
    → b ≤ p → b ≡ index_for i (without (get_or xs p 0) xs)
index_before xs p b i h lt le lacks below others most = sym (ap (index_for i) (gone xs p h lt) ∙ index_for-is i (remove xs p) b (omega (arith, length-remove xs p lt)) under over)
  where
    under : (k : ℕ) → k < b → get_or (remove xs p) k 0 ≤ i
    under k kb = let e = get_or-remove_below xs p 0 k (omega arith) lt in let f = below k kb in omega arith

    above : (k : ℕ) → b ≤ k → k < length xs → i < get_or xs k 0
    above k bk inside = let f = others k bk inside in ⊎_elim (λ more. more) (λ rest. absurd (lacks (subst (Contains xs) (equal f rest) (member_at xs k inside)))) (cases_lt i (get_or xs k 0))
      where
        equal : i ≤ get_or xs k 0 → get_or xs k 0 ≤ i → get_or xs k 0 ≡ i
        equal f rest = omega arith

    over : (k : ℕ) → b ≤ k → k < length (remove xs p) → i < get_or (remove xs p) k 0
    over k bk inside =
        let size = length-remove xs p lt in
        ⊎_elim
        (λ before. (let e = get_or-remove_below xs p 0 k before lt in let f = above k bk (omega arith) in omega arith))
        (λ past. (let e = get_or-remove_above xs p 0 k past lt in let f = above (k + 1) (omega arith) (omega arith) in omega arith))
        (cases_lt k p)

-- two indices have two members
pub distinct : (xs : List ℕ) → IsStrictlyIncreasing xs → (m n : ℕ) → m < length xs → n < length xs → m ≢ n → get_or xs m 0 ≢ get_or xs n 0
distinct xs h m n less lt ne e = ⊎_elim
    (λ before. (let r = rising xs m n h before lt in omega arith))
    (λ past. ⊎_elim (λ behind. (let r = rising xs n m h behind less in omega arith)) (λ same. absurd (ne (omega arith))) (cases_lt n m))
    (cases_lt m n)

-- members in order are at least as great as their indices
at_least : (xs : List ℕ) (k : ℕ) → IsStrictlyIncreasing xs → k < length xs → k ≤ get_or xs k 0
at_least xs zero h lt = omega arith
at_least xs (suc k) h lt = let before = at_least xs k h (omega arith) in let more = rising xs k (suc k) h (omega arith) lt in omega arith

-- and greater, behind a number that is none of them
beyond : (xs : List ℕ) (k i : ℕ) → IsStrictlyIncreasing xs → ¬ Contains xs i → k < length xs → i < get_or xs k 0 → k < get_or xs k 0
beyond xs zero i h lacks lt more = omega arith
beyond xs (suc k) i h lacks lt more = go (cases_lt i (get_or xs k 0)) (rising xs k (suc k) h (omega arith) lt) (λ less. beyond xs k i h lacks (omega arith) less) (at_least xs k h (omega arith))
  where
    differs : get_or xs k 0 ≢ i
    differs e = lacks (subst (Contains xs) e (member_at xs k (omega arith)))

    go : (i < get_or xs k 0) ⊎ (get_or xs k 0 ≤ i) → get_or xs k 0 < get_or xs (suc k) 0 → (i < get_or xs k 0 → k < get_or xs k 0) → k ≤ get_or xs k 0 → suc k < get_or xs (suc k) 0
    go (inl less) next ih least = let r = ih less in omega arith
    go (inr most) next ih least = let ne = differs in omega arith

-- there is room for a variable that is no member
pub few_members : (xs : List ℕ) (n i : ℕ) → IsStrictlyIncreasing xs → ((k : ℕ) → k < length xs → get_or xs k 0 < n) → i < n → ¬ Contains xs i → length xs < n
few_members xs n i h below less lacks = at (length xs) refl
  where
    at : (m : ℕ) → length xs ≡ m → length xs < n
    at zero e = omega arith
    at (suc m) e = go (below m (omega arith)) (at_least xs m h (omega arith)) (cases_lt i (get_or xs m 0))
      where
        differs : get_or xs m 0 ≢ i
        differs same = lacks (subst (Contains xs) same (member_at xs m (omega arith)))

        go : get_or xs m 0 < n → m ≤ get_or xs m 0 → (i < get_or xs m 0) ⊎ (get_or xs m 0 ≤ i) → length xs < n
        go top least (inl more) = let r = beyond xs m i h lacks (omega arith) more in omega arith
        go top least (inr most) = let ne = differs in omega arith
