-- Whether labels are marked at states.
use Rattle.std.proofs.Common.{◌≡◌, ℕ, ◌+◌, ◌<◌, ◌≤◌, ◌⊎◌, Bool, true, List, length, get_or, Contains, inl, inr, sym, subst, arith}
use Rattle.std.proofs.lemmas.Bool.{cases_eq}
use Rattle.std.proofs.lemmas.List.{get_or_default}
use Rattle.rg_marks.specs.Stops.{mark_at}

-- each of the first i events is marked
abbrev pub MarkedUpTo : List (List Bool) → List (ℕ × ℕ) → ℕ → Type 0
MarkedUpTo rows events i = (k : ℕ) (d : ℕ × ℕ) → k < i → mark_at rows (get_or events k d).0 (get_or events k d).1 ≡ true

pub marked_more : (rows : List (List Bool)) (events : List (ℕ × ℕ)) (i : ℕ) (d : ℕ × ℕ) → i < length events → MarkedUpTo rows events i
    → mark_at rows (get_or events i d).0 (get_or events i d).1 ≡ true → MarkedUpTo rows events (i + 1)
marked_more rows events i d lt so_far here k d' less = by (cases_eq k i)
  where
    by : (k ≡ i) ⊎ (k ≡ i → ⊥) → mark_at rows (get_or events k d').0 (get_or events k d').1 ≡ true
    by (inl e) = subst (λ n. mark_at rows (get_or events n d').0 (get_or events n d').1 ≡ true) (sym e) (subst (λ (x : ℕ × ℕ). mark_at rows x.0 x.1 ≡ true) (get_or_default events i d d' lt) here)
    by (inr differ) = so_far k d' (omega arith)

pub all_marked : (rows : List (List Bool)) (events : List (ℕ × ℕ)) (i : ℕ) → length events ≤ i → MarkedUpTo rows events i → (s t : ℕ) → Contains events (s, t) → mark_at rows s t ≡ true
all_marked rows events i past so_far s t (k, lt, e) = subst (λ (x : ℕ × ℕ). mark_at rows x.0 x.1 ≡ true) e (so_far k (s, t) (omega arith))
