-- States with different numbers, by a set of pairs.
use Rattle.std.proofs.Common.{◌≡◌, ◌≢◌, ℕ, ◌+◌, ◌<◌, ◌≤◌, ◌⊎◌, if◌then◌else◌, Bool, true, false, not, List, [], ◌∷◌, ◌++◌, length, Some, slice_get, get_or, Contains, inl, inr, ⊎_elim, refl, sym, ap, ◌∙◌, subst, arith}
use Rattle.std.specs.List.{list_any}
use Rattle.std.proofs.lemmas.Bool.{cases_eq, true≢false}
use Rattle.std.proofs.lemmas.Option.{slice_get_within, slice_get-get_or, get_or_from_slice_get}
use Rattle.std.proofs.lemmas.List.Elements.{Contains-append_left, Contains-push, Contains-push_cases}
use Rattle.rg_marks.proofs.Refining.{same_pair, with_pair, found, among}
use Rattle.rg_prune.specs.Differing.{AllDiffer, SomeAgree}

-- no two states before s have the same pair, and the keys are their pairs
pub record DifferSoFar (a b : List ℕ) (keys : List (ℕ × ℕ)) (s : ℕ) : Type 0 where
  pub has : (k : ℕ) → k < s → Contains keys (get_or a k 0, get_or b k 0)
  pub only : (x : ℕ × ℕ) → Contains keys x → (k : ℕ) × (k < s) × (x ≡ (get_or a k 0, get_or b k 0))
  pub differ : (k k' : ℕ) → k < k' → k' < s → get_or a k 0 ≡ get_or a k' 0 → get_or b k 0 ≢ get_or b k' 0

pub differ_start : (a b : List ℕ) → DifferSoFar a b [] 0
differ_start a b = record { has = λ k lt. absurd (omega arith); only = λ x (k, lt, e). absurd (omega arith); differ = λ k k' lt lt'. absurd (omega arith) }

contains_get : (keys : List (ℕ × ℕ)) (x : ℕ × ℕ) (i : ℕ) → slice_get keys i ≡ Some x → Contains keys x
contains_get keys x i at = (i, slice_get_within keys i x at, get_or_from_slice_get keys i x x at)

pub differ_next : (a b : List ℕ) (keys : List (ℕ × ℕ)) (s : ℕ) → DifferSoFar a b keys s
    → list_any (same_pair (get_or a s 0, get_or b s 0)) keys ≡ false → DifferSoFar a b (with_pair keys (get_or a s 0, get_or b s 0)) (s + 1)
differ_next a b keys s so_far new = subst (λ t. DifferSoFar a b (if t then keys else (keys ++ (get_or a s 0, get_or b s 0) ∷ [])) (s + 1)) (sym new) more
  where
    gone : Contains keys (get_or a s 0, get_or b s 0) → ⊥
    gone (i, lt, e) = true≢false (sym (found (get_or a s 0, get_or b s 0) keys i (slice_get-get_or keys i (get_or a s 0, get_or b s 0) lt ∙ ap Some e)) ∙ new)

    more : DifferSoFar a b (keys ++ (get_or a s 0, get_or b s 0) ∷ []) (s + 1)
    more = record {
      has = λ k lt. has k lt (cases_eq k s);
      only = λ x h. ⊎_elim (λ before. (let (k, lt, e) = so_far.only x before in (k, omega arith, e))) (λ e. (s, omega arith, sym e)) (Contains-push_cases keys (get_or a s 0, get_or b s 0) x h);
      differ = λ k k' lt lt' e f. apart k k' lt lt' e f (cases_eq k' s);
    }
      where
        has : (k : ℕ) → k < s + 1 → (k ≡ s) ⊎ (k ≡ s → ⊥) → Contains (keys ++ (get_or a s 0, get_or b s 0) ∷ []) (get_or a k 0, get_or b k 0)
        has k lt (inl e) = subst (λ n. Contains (keys ++ (get_or a s 0, get_or b s 0) ∷ []) (get_or a n 0, get_or b n 0)) (sym e) (Contains-push keys (get_or a s 0, get_or b s 0))
        has k lt (inr differ) = Contains-append_left keys ((get_or a s 0, get_or b s 0) ∷ []) (get_or a k 0, get_or b k 0) (so_far.has k (omega arith))

        apart : (k k' : ℕ) → k < k' → k' < s + 1 → get_or a k 0 ≡ get_or a k' 0 → get_or b k 0 ≡ get_or b k' 0 → (k' ≡ s) ⊎ (k' ≡ s → ⊥) → ⊥
        apart k k' lt lt' e f (inl is) = gone (subst (Contains keys) (λ i. ((e ∙ ap (λ n. get_or a n 0) is) i, (f ∙ ap (λ n. get_or b n 0) is) i)) (so_far.has k (omega arith)))
        apart k k' lt lt' e f (inr not) = so_far.differ k k' lt (omega arith) e f

pub agree_here : (a b : List ℕ) (keys : List (ℕ × ℕ)) (s : ℕ) → s < length a → DifferSoFar a b keys s → list_any (same_pair (get_or a s 0, get_or b s 0)) keys ≡ true → SomeAgree a b
agree_here a b keys s lt so_far old =
    let (i, at) = among (get_or a s 0, get_or b s 0) keys old in
    let (k, less, e) = so_far.only (get_or a s 0, get_or b s 0) (contains_get keys (get_or a s 0, get_or b s 0) i at) in
    record { s = k; s' = s; order = less; within = lt; first = sym (ap (λ (x : ℕ × ℕ). x.0) e); second = sym (ap (λ (x : ℕ × ℕ). x.1) e) }

pub differ_end : (a b : List ℕ) (keys : List (ℕ × ℕ)) (s : ℕ) → length a ≤ s → DifferSoFar a b keys s → AllDiffer a b
differ_end a b keys s past so_far k k' lt lt' = so_far.differ k k' lt (omega arith)

pub not_new : (b : Bool) → not b ≡ false → b ≡ true
not_new true e = refl
not_new false e = absurd (true≢false e)
