-- A number that goes to another index of its row.
use Rattle.std.proofs.Common.{◌≡◌, ◌≢◌, ◌⊎◌, ⊎_elim, ℕ, zero, suc, ◌+◌, ◌-◌, ◌<◌, ◌≤◌, List, length, subst, sym, ◌∙◌, inl, inr, arith, get_or-set_other, get_or-set_same}
use Rattle.std.proofs.Math.ListN.{set, length-set}
use Rattle.std.proofs.lemmas.Bool.{cases_lt}
use Rattle.std.proofs.lemmas.List.{ext_get_or}
use Rattle.std.proofs.lemmas.List.Edits.{length-insert, get_or-insert_below, get_or-insert_at, get_or-insert_above, length-remove, get_or-remove_below, get_or-remove_above}
use Rattle.std.specs.List.{remove, CopiedTo, SameBelow, SameFrom}
use Rattle.std.specs.Prelude.{ℤ, pos}
use Rattle.rg_integers.specs.Range.{InRange}
use Rattle.rg_integers.specs.Sum.{number_at}
use Rattle.rg_feasible.specs.Renewal.{RowInRange, moved}

inside : (row : List ℤ) (p q : ℕ) → p < length row → q < length row → q ≤ length (remove row p)
inside row p q from to = omega (arith, length-remove row p from)

pub length-moved : (row : List ℤ) (p q : ℕ) → p < length row → q < length row → length (moved row p q) ≡ length row
length-moved row p q from to = omega (arith, length-insert (remove row p) q (number_at row p) (inside row p q from to), length-remove row p from)

-- the number of each index: below the new index, at it, and above it

pub moved_below : (row : List ℤ) (p q k : ℕ) → p < length row → q < length row → k < p → k < q → number_at (moved row p q) k ≡ number_at row k
moved_below row p q k from to kp kq = get_or-insert_below (remove row p) q (number_at row p) (pos 0) k kq (inside row p q from to) ∙ get_or-remove_below row p (pos 0) k kp from

pub moved_up : (row : List ℤ) (p q k : ℕ) → p < length row → q < length row → p ≤ k → k < q → number_at (moved row p q) k ≡ number_at row (k + 1)
moved_up row p q k from to pk kq = get_or-insert_below (remove row p) q (number_at row p) (pos 0) k kq (inside row p q from to) ∙ get_or-remove_above row p (pos 0) k pk from

pub moved_at : (row : List ℤ) (p q : ℕ) → p < length row → q < length row → number_at (moved row p q) q ≡ number_at row p
moved_at row p q from to = get_or-insert_at (remove row p) q (number_at row p) (pos 0) (inside row p q from to)

pub moved_down : (row : List ℤ) (p q k : ℕ) → p < length row → q < length row → q ≤ k → k < p → number_at (moved row p q) (k + 1) ≡ number_at row k
moved_down row p q k from to qk kp = get_or-insert_above (remove row p) q (number_at row p) (pos 0) k qk (inside row p q from to) ∙ get_or-remove_below row p (pos 0) k kp from

pub moved_above : (row : List ℤ) (p q k : ℕ) → p < length row → q < length row → q ≤ k → p ≤ k → number_at (moved row p q) (k + 1) ≡ number_at row (k + 1)
moved_above row p q k from to qk pk = get_or-insert_above (remove row p) q (number_at row p) (pos 0) k qk (inside row p q from to) ∙ get_or-remove_above row p (pos 0) k pk from

-- a row that has the numbers between the two indices one index on, and then the number at its new index
pub moved_is : (row mid : List ℤ) (p q : ℕ) → p < length row → q < length row → length mid ≡ length row
    → ((k : ℕ) → k < p → k < q → number_at mid k ≡ number_at row k)
    → ((k : ℕ) → p ≤ k → k < q → number_at mid k ≡ number_at row (k + 1))
    → ((k : ℕ) → q ≤ k → k < p → number_at mid (k + 1) ≡ number_at row k)
    → ((k : ℕ) → p ≤ k → q ≤ k → number_at mid (k + 1) ≡ number_at row (k + 1))
    → set mid q (number_at row p) ≡ moved row p q
moved_is row mid p q from to same below up down above = ext_get_or (pos 0) (set mid q (number_at row p)) (moved row p q) lengths (λ k lt. at k (cases_lt k q))
  where
    lengths : length (set mid q (number_at row p)) ≡ length (moved row p q)
    lengths = length-set mid q (number_at row p) ∙ same ∙ sym (length-moved row p q from to)

    other : (k : ℕ) → k ≢ q → number_at (set mid q (number_at row p)) k ≡ number_at mid k
    other k ne = get_or-set_other mid q k (number_at row p) (pos 0) ne

    before : (k : ℕ) → k < q → (k < p) ⊎ (p ≤ k) → number_at mid k ≡ number_at (moved row p q) k
    before k kq (inl kp) = below k kp kq ∙ sym (moved_below row p q k from to kp kq)
    before k kq (inr pk) = up k pk kq ∙ sym (moved_up row p q k from to pk kq)

    behind : (k : ℕ) → q ≤ k → (k < p) ⊎ (p ≤ k) → number_at mid (k + 1) ≡ number_at (moved row p q) (k + 1)
    behind k qk (inl kp) = down k qk kp ∙ sym (moved_down row p q k from to qk kp)
    behind k qk (inr pk) = above k pk qk ∙ sym (moved_above row p q k from to qk pk)

    here : number_at (set mid q (number_at row p)) q ≡ number_at (moved row p q) q
    here = get_or-set_same mid q (number_at row p) (pos 0) (omega (arith, same)) ∙ sym (moved_at row p q from to)

    past : (k : ℕ) → q < k → number_at (set mid q (number_at row p)) k ≡ number_at (moved row p q) k
    past zero lt = absurd (omega arith)
    past (suc k) lt = subst (λ n. number_at (set mid q (number_at row p)) n ≡ number_at (moved row p q) n) (one k) (other (k + 1) (λ e. omega arith) ∙ behind k (omega arith) (cases_lt k p))
      where
        one : (k : ℕ) → k + 1 ≡ suc k
        one k = omega arith

    at : (k : ℕ) → (k < q) ⊎ (q ≤ k) → number_at (set mid q (number_at row p)) k ≡ number_at (moved row p q) k
    at k (inl lt) = other k (λ e. omega arith) ∙ before k lt (cases_lt k p)
    at k (inr ge) = ⊎_elim (λ lt. past k lt) (λ le. (let e : q ≡ k = omega arith in subst (λ n. number_at (set mid q (number_at row p)) n ≡ number_at (moved row p q) n) e here)) (cases_lt q k)

-- what `copy_within` leaves of the numbers between the indices
pub copied_down : (row mid : List ℤ) (p q : ℕ) → p < length row → q < length row → p < q → length mid ≡ length row
    → CopiedTo row mid (p + 1) p ((q + 1) - (p + 1)) × SameBelow row mid p × SameFrom row mid (p + ((q + 1) - (p + 1)))
    → set mid q (number_at row p) ≡ moved row p q
copied_down row mid p q from to less same h = moved_is row mid p q from to same
    (λ k kp kq. h.1 k (pos 0) kp)
    (λ k pk kq. subst (λ n. number_at mid k ≡ number_at row n) (index k pk) (h.0 k (pos 0) pk (omega arith)))
    (λ k qk kp. absurd (omega arith))
    (λ k pk qk. h.2 (k + 1) (pos 0) (omega arith))
  where
    index : (k : ℕ) → p ≤ k → (p + 1) + (k - p) ≡ k + 1
    index k pk = omega arith

pub copied_up : (row mid : List ℤ) (p q : ℕ) → p < length row → q < length row → q ≤ p → length mid ≡ length row
    → CopiedTo row mid q (q + 1) (p - q) × SameBelow row mid (q + 1) × SameFrom row mid ((q + 1) + (p - q))
    → set mid q (number_at row p) ≡ moved row p q
copied_up row mid p q from to most same h = moved_is row mid p q from to same
    (λ k kp kq. h.1 k (pos 0) (omega arith))
    (λ k pk kq. absurd (omega arith))
    (λ k qk kp. subst (λ n. number_at mid (k + 1) ≡ number_at row n) (index k qk) (h.0 (k + 1) (pos 0) (omega arith) (omega arith)))
    (λ k pk qk. h.2 (k + 1) (pos 0) (omega arith))
  where
    index : (k : ℕ) → q ≤ k → q + ((k + 1) - (q + 1)) ≡ k
    index k qk = omega arith

-- the numbers stay in range
pub in_range-moved : (row : List ℤ) (p q : ℕ) → p < length row → q < length row → RowInRange row → RowInRange (moved row p q)
in_range-moved row p q from to all k lt = at k (omega (arith, lt, length-moved row p q from to)) (cases_lt k q)
  where
    before : (k : ℕ) → k < q → (k < p) ⊎ (p ≤ k) → InRange (number_at (moved row p q) k)
    before k kq (inl kp) = subst InRange (sym (moved_below row p q k from to kp kq)) (all k (omega arith))
    before k kq (inr pk) = subst InRange (sym (moved_up row p q k from to pk kq)) (all (k + 1) (omega arith))

    behind : (k : ℕ) → k + 1 < length row → q ≤ k → (k < p) ⊎ (p ≤ k) → InRange (number_at (moved row p q) (k + 1))
    behind k lt qk (inl kp) = subst InRange (sym (moved_down row p q k from to qk kp)) (all k (omega arith))
    behind k lt qk (inr pk) = subst InRange (sym (moved_above row p q k from to qk pk)) (all (k + 1) lt)

    past : (k : ℕ) → k < length row → q < k → InRange (number_at (moved row p q) k)
    past zero lt qk = absurd (omega arith)
    past (suc k) lt qk = subst (λ n. InRange (number_at (moved row p q) n)) (one k) (behind k (omega arith) (omega arith) (cases_lt k p))
      where
        one : (k : ℕ) → k + 1 ≡ suc k
        one k = omega arith

    at : (k : ℕ) → k < length row → (k < q) ⊎ (q ≤ k) → InRange (number_at (moved row p q) k)
    at k lt (inl less) = before k less (cases_lt k p)
    at k lt (inr ge) = ⊎_elim (λ less. past k lt less)
        (λ le. (let e : q ≡ k = omega arith in subst (λ n. InRange (number_at (moved row p q) n)) e
        (subst InRange (sym (moved_at row p q from to)) (all p from)))) (cases_lt q k)
