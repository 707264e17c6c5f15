-- The elements of one key are a run of a list in which the keys don't fall.
use Rattle.std.proofs.Common.{◌≡◌, ◌⊎◌, ◌↔◌, ℕ, ◌+◌, ◌-◌, ◌<◌, ◌≤◌, true, false, ltb, leb}
use Rattle.std.proofs.Common.{List, length, take, drop, get_or, slice_index_or, Contains, AllPairs, inl, inr, sym, subst, ap, ◌∙◌, arith, length-drop}
use Rattle.std.specs.List.Sorted.{IsNonDecreasingBy}
use Rattle.std.proofs.lemmas.Bool.{cases_lt, ltb-true, ltb-false, leb-true, leb-false}
use Rattle.std.proofs.lemmas.List.{get_or-take, get_or-drop, length-take}

-- where the elements of lesser keys end, and where those up to this key end
pub record IsRun {X : Type 0} (n : X → ℕ) (xs : List X) (key start end : ℕ) : Type 0 where
  pub rises : start ≤ end
  pub within : end ≤ length xs
  pub less : (k : ℕ) (d : X) → k < start → n (slice_index_or xs k d) < key
  pub from_start : (k : ℕ) (d : X) → start ≤ k → k < length xs → key ≤ n (slice_index_or xs k d)
  pub to_end : (k : ℕ) (d : X) → k < end → n (slice_index_or xs k d) ≤ key
  pub greater : (k : ℕ) (d : X) → end ≤ k → k < length xs → key < n (slice_index_or xs k d)

-- from where the tests `n < key` and `n <= key` begin to fail
pub run : {X : Type 0} (n : X → ℕ) (xs : List X) (key start end : ℕ) (e : X) → start ≤ length xs → end ≤ length xs
    → ((k : ℕ) (d : X) → k < start → ltb (n (slice_index_or xs k d)) key ≡ true)
    → ((k : ℕ) (d : X) → start ≤ k → k < length xs → ltb (n (slice_index_or xs k d)) key ≡ false)
    → ((k : ℕ) (d : X) → k < end → leb (n (slice_index_or xs k d)) key ≡ true)
    → ((k : ℕ) (d : X) → end ≤ k → k < length xs → leb (n (slice_index_or xs k d)) key ≡ false) → IsRun n xs key start end
run {X} n xs key start end e fits within before behind up past = record {
  rises = rises (cases_lt end start);
  within = within;
  less = less;
  from_start = λ k d le lt. ltb-false (n (slice_index_or xs k d)) key (behind k d le lt);
  to_end = λ k d lt. leb-true (n (slice_index_or xs k d)) key (up k d lt);
  greater = greater;
}
  where
    less : (k : ℕ) (d : X) → k < start → n (slice_index_or xs k d) < key
    less k d lt = ltb-true (n (slice_index_or xs k d)) key (before k d lt)

    greater : (k : ℕ) (d : X) → end ≤ k → k < length xs → key < n (slice_index_or xs k d)
    greater k d le lt = leb-false (n (slice_index_or xs k d)) key (past k d le lt)

    rises : (end < start) ⊎ (start ≤ end) → start ≤ end
    rises (inl l) =
        let a = less end e l in
        let b = greater end e (omega arith) (omega (arith, fits)) in
        absurd (omega (arith, a, b))
    rises (inr l) = l

abbrev pub part : {X : Type 0} → List X → ℕ → ℕ → List X
part xs start end = take (end - start) (drop start xs)

pub part_at : {X : Type 0} (xs : List X) (start end k : ℕ) (d : X) → k < end - start → get_or (part xs start end) k d ≡ get_or xs (start + k) d
part_at xs start end k d lt = get_or-take (end - start) (drop start xs) k d lt ∙ get_or-drop start xs k d

pub part_short : {X : Type 0} (xs : List X) (start end k : ℕ) → end ≤ length xs → k < length (part xs start end) → (k < end - start) × (start + k < end)
part_short xs start end k within lt =
    let m = length-take (end - start) (drop start xs) in
    let n = length-drop start xs in
    (omega (arith, m, n, lt), omega (arith, m, n, lt))

pub run_members : {X : Type 0} (n : X → ℕ) (xs : List X) (key start end : ℕ) → IsRun n xs key start end → (b : X)
    → Contains (part xs start end) b ↔ (Contains xs b × (n b ≡ key))
run_members n xs key start end r b = (forth, back)
  where
    forth : Contains (part xs start end) b → Contains xs b × (n b ≡ key)
    forth (k, lt, at) =
        let short = part_short xs start end k r.within lt in
        let is : get_or xs (start + k) b ≡ b = sym (part_at xs start end k b short.0) ∙ at in
        let low = r.from_start (start + k) b (omega arith) (let w = r.within in omega (arith, w, short.1)) in
        let high = r.to_end (start + k) b short.1 in
        let same = ap n is in
        ((start + k, (let w = r.within in omega (arith, w, short.1)), is), omega (arith, low, high, same))

    back : Contains xs b × (n b ≡ key) → Contains (part xs start end) b
    back ((k, lt, at), is_key) =
        let same : n (get_or xs k b) ≡ key = ap n at ∙ is_key in
        let low : start ≤ k = not_early (cases_lt k start) same in
        let high : k < end = not_late (cases_lt k end) same in
        let m = length-take (end - start) (drop start xs) in
        let l = length-drop start xs in
        let index : start + (k - start) ≡ k = omega arith in
        (k - start, (let w = r.within in omega (arith, w, m, l, low, high)), part_at xs start end (k - start) b (omega (arith, low, high)) ∙ ap (λ i. get_or xs i b) index ∙ at)
      where
        not_early : (k < start) ⊎ (start ≤ k) → n (get_or xs k b) ≡ key → start ≤ k
        not_early (inl l) same = let e = r.less k b l in absurd (omega (arith, e, same))
        not_early (inr l) same = l

        not_late : (k < end) ⊎ (end ≤ k) → n (get_or xs k b) ≡ key → k < end
        not_late (inl l) same = l
        not_late (inr l) same = let e = r.greater k b l lt in absurd (omega (arith, e, same))

-- where each key is at most those behind it
pub rising : {X : Type 0} (n : X → ℕ) (xs : List X) → AllPairs (λ x y. n x ≤ n y) xs → IsNonDecreasingBy n xs
rising {X} n xs order i j d le lt = go (cases_lt i j)
  where
    go : (i < j) ⊎ (j ≤ i) → n (slice_index_or xs i d) ≤ n (slice_index_or xs j d)
    go (inl less) = order i j d less lt
    go (inr ge) = let same : i ≡ j = omega (arith, le, ge) in subst (λ k. n (slice_index_or xs i d) ≤ n (slice_index_or xs k d)) same (omega arith)
