-- The first place with more tokens than a bound, marking by marking.
use Rattle.std.proofs.Common.{◌≡◌, ℕ, ◌+◌, ◌<◌, ◌≤◌, List, length, Option, None, Some, IfSome, slice_get, subst, arith}
use Rattle.std.specs.Option.{IsSomeAnd}
use Rattle.rg_theory.specs.Net.{Marking, tokens}
use Rattle.rg_net.specs.Overs.{IsWithinBound, IsOverAt, IsFirstOver}
use Rattle.rg_net.proofs.Rows.{rows_more, rows_all}

pub not_over : (bound : Option ℕ) (n : ℕ) → IsSomeAnd bound (λ k. k < n) → IfSome bound (λ k. n ≤ k) → ⊥
not_over None n over most = over
not_over (Some k) n over most = absurd (omega arith)

-- in the first s markings no place before the end has more, and if it is a place, it has more in a marking that is the first
pub record IsFirstOverBelow (ms : List Marking) (bound places s end first : ℕ) : Type 0 where
  pub within : end ≤ places
  pub before : (j : ℕ) → j < end → (r : ℕ) (m : Marking) → r < s → slice_get ms r ≡ Some m → tokens m j ≤ bound
  pub shown : end < places → (m : Marking) × (slice_get ms first ≡ Some m) × (bound < tokens m end)
  pub first_marking : end < places → (r : ℕ) (m : Marking) → r < first → slice_get ms r ≡ Some m → tokens m end ≤ bound

pub over_start : (ms : List Marking) (bound places : ℕ) → IsFirstOverBelow ms bound places 0 places 0
over_start ms bound places = record {
  within = omega arith;
  before = λ j lt r m less at. absurd (omega arith);
  shown = λ lt. absurd (omega arith);
  first_marking = λ lt r m less at. absurd (omega arith);
}

module _ (ms : List Marking) (bound places s end first : ℕ) (m : Marking) (so_far : IsFirstOverBelow ms bound places s end first) (at : slice_get ms s ≡ Some m) where
  -- no place before the end has more in the next marking
  pub over_kept : ((j : ℕ) → j < end → tokens m j ≤ bound) → IsFirstOverBelow ms bound places (s + 1) end first
  over_kept few = record {
    within = so_far.within;
    before = λ j lt. rows_more (λ n. tokens n j ≤ bound) ms s m (so_far.before j lt) at (few j lt);
    shown = so_far.shown;
    first_marking = so_far.first_marking;
  }

  -- place i is the first that has
  pub over_found : (i : ℕ) → i < end → bound < tokens m i → ((j : ℕ) → j < i → tokens m j ≤ bound) → IsFirstOverBelow ms bound places (s + 1) i s
  over_found i less over few = record {
    within = (let le = so_far.within in omega arith);
    before = λ j lt. rows_more (λ n. tokens n j ≤ bound) ms s m (so_far.before j (omega arith)) at (few j lt);
    shown = λ lt. (m, at, over);
    first_marking = λ lt. so_far.before i less;
  }

module _ (ms : List Marking) (bound places s end first : ℕ) (past : length ms ≤ s) (whole : IsFirstOverBelow ms bound places s end first) where
  all_before : (j : ℕ) → j < end → IsWithinBound ms (Some bound) j
  all_before j lt = rows_all (λ n. tokens n j ≤ bound) ms s past (whole.before j lt)

  pub over_some : end < places → IsFirstOver ms (Some bound) places (Some (end, first))
  over_some lt = record { within = lt; shown = whole.shown lt; first = whole.first_marking lt; before = all_before }

  pub over_none : places ≤ end → IsFirstOver ms (Some bound) places None
  over_none le j lt = all_before j (omega arith)

-- place i isn't the first that has more, so it has nowhere more
pub within_bound : (ms : List Marking) (bound : Option ℕ) (places i : ℕ) (over : Option (ℕ × ℕ)) → i < places → IsFirstOver ms bound places over → IfSome over (λ f. i < f.0) → IsWithinBound ms bound i
within_bound ms bound places i None lt none ahead = none i lt
within_bound ms bound places i (Some f) lt is ahead = is.before i ahead

-- the first place with more, read apart
pub over_here : (ms : List Marking) (bound : Option ℕ) (places i j s : ℕ) (over : Option (ℕ × ℕ)) → over ≡ Some (j, s) → j ≡ i → IsFirstOver ms bound places over → IsOverAt ms bound places i s
over_here ms bound places i j s over is same first = subst (λ k. IsOverAt ms bound places k s) same (subst (IsFirstOver ms bound places) is first)

-- no marking before that one shows a break of the bound at the place
pub not_before : (ms : List Marking) (bound : Option ℕ) (places i s : ℕ) → IsOverAt ms bound places i s → (r : ℕ) (m : Marking) → r < s → slice_get ms r ≡ Some m
    → IsSomeAnd bound (λ k. k < tokens m i) → ⊥
not_before ms bound places i s here r m less at more = not_over bound (tokens m i) more (here.first r m less at)

-- and none at a place before the first that has more
pub never_over : (ms : List Marking) (bound : Option ℕ) (places i : ℕ) (over : Option (ℕ × ℕ)) → IsFirstOver ms bound places over → IfSome over (λ f. i < f.0) → i < places
    → (r : ℕ) (m : Marking) → slice_get ms r ≡ Some m → IsSomeAnd bound (λ k. k < tokens m i) → ⊥
never_over ms bound places i over first ahead lt r m at more = not_over bound (tokens m i) more (within_bound ms bound places i over lt first ahead r m at)

pub ahead_more : (i : ℕ) (over : Option (ℕ × ℕ)) → IfSome over (λ f. i < f.0) → IfSome over (λ f. i + 1 ≤ f.0)
ahead_more i None ahead = ahead
ahead_more i (Some f) ahead = omega arith
