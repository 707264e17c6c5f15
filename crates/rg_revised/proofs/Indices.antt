-- The indices of the numbers that are not 0.
use Rattle.std.proofs.Common.{◌≡◌, ⊎_elim, ℕ, ◌+◌, ◌<◌, ◌≤◌, List, [], ◌∷◌, ◌++◌, length, length-append, Contains, ap, refl, subst, sym, ◌∙◌, arith, add-one, take, get_or, get_or-set_other}
use Rattle.std.proofs.Math.ListN.{set}
use Rattle.std.specs.Prelude.{ℤ, pos, ◌+ℤ◌, ◌*ℤ◌}
use Rattle.std.proofs.Math.IntN.{*ℤ_comm, *ℤ-zero}
use Rattle.std.proofs.lemmas.List.{take_more, take_all}
use Rattle.rg_revised.specs.Reading.{AreNamed}
use Rattle.std.proofs.lemmas.Int.{ints}
use Rattle.std.proofs.lemmas.List.Elements.{Contains-append_cases}
use Rattle.rg_integers.specs.Sum.{number_at, sum_below, sum_over}
use Rattle.rg_integers.proofs.ListSums.{sum_over-append}
use Rattle.rg_linear.proofs.Members.{Contains-nil, Contains-cons_cases}

-- the indices below n are named
pub record AreNamedBelow (constants : List ℤ) (n : ℕ) (indices : List ℕ) : Type 0 where
  pub sums : (f : ℕ → ℤ) → ((t : ℕ) → t < n → number_at constants t ≡ pos 0 → f t ≡ pos 0) → sum_over f indices ≡ sum_below n f
  pub inside : (t : ℕ) → Contains indices t → t < n
  pub short : length indices ≤ n

pub named_none : (constants : List ℤ) (indices : List ℕ) → indices ≡ [] → AreNamedBelow constants 0 indices
named_none constants indices e = subst (AreNamedBelow constants 0) (sym e) (record { sums = λ f zero. refl; inside = λ t has. absurd (Contains-nil t has); short = omega arith })

pub named_more : (constants : List ℤ) (n : ℕ) (indices indices' : List ℕ) → AreNamedBelow constants n indices → indices' ≡ indices ++ n ∷ [] → AreNamedBelow constants (n + 1) indices'
named_more constants n indices indices' h e = subst (AreNamedBelow constants (n + 1)) (sym e) (record {
  sums = λ f zero. sum_over-append f indices (n ∷ []) ∙ one _ (f n) ∙ ap (λ z. z +ℤ f n) (h.sums f (λ t lt none. zero t (omega arith) none)) ∙ ap (λ m. sum_below m f) (sym (add-one n));
  inside = λ t has. ⊎_elim (λ old. (let lt = h.inside t old in omega arith))
      (λ here. ⊎_elim (λ (is : n ≡ t). omega arith) (λ none. absurd (Contains-nil t none)) (Contains-cons_cases n t [] here)) (Contains-append_cases indices (n ∷ []) t has);
  short = (let l = length-append indices (n ∷ []) in let s = h.short in omega arith);
})
  where
    one : (s z : ℤ) → s +ℤ (z +ℤ pos 0) ≡ s +ℤ z
    one s z = omega (arith, ints)

-- a number after these is written
pub named_set : (constants : List ℤ) (n : ℕ) (indices : List ℕ) (z : ℤ) → AreNamedBelow constants n indices → AreNamedBelow (set constants n z) n indices
named_set constants n indices z h = record {
  sums = λ f zero. h.sums f (λ t lt e. zero t lt (get_or-set_other constants n t z (pos 0) (λ same. omega arith) ∙ e));
  inside = h.inside;
  short = h.short;
}

pub named_same : (constants : List ℤ) (n : ℕ) (indices : List ℕ) → AreNamedBelow constants n indices → number_at constants n ≡ pos 0 → AreNamedBelow constants (n + 1) indices
named_same constants n indices h none = record {
  sums = λ f zero. h.sums f (λ t lt z. zero t (omega arith) z) ∙ more (sum_below n f) (f n) (zero n (omega arith) none) ∙ ap (λ m. sum_below m f) (sym (add-one n));
  inside = λ t has. (let lt = h.inside t has in omega arith);
  short = (let s = h.short in omega arith);
}
  where
    more : (s z : ℤ) → z ≡ pos 0 → s ≡ s +ℤ z
    more s z e = omega (arith, ints)

-- ---- the sum over the indices, one after the other

pub next_total : (f : ℕ → ℤ) (indices : List ℕ) (k : ℕ) (s z e : ℤ) → k < length indices → s ≡ sum_over f (take k indices) +ℤ e → z ≡ f (get_or indices k 0)
    → s +ℤ z ≡ sum_over f (take (k + 1) indices) +ℤ e
next_total f indices k s z e lt is at = turn s z (sum_over f (take k indices)) (f (get_or indices k 0)) e is at
    ∙ ap (λ x. x +ℤ e) (sym (ap (sum_over f) (take_more indices k 0 lt) ∙ sum_over-append f (take k indices) (get_or indices k 0 ∷ []) ∙ one _ (f (get_or indices k 0))))
  where
    turn : (s z t y e : ℤ) → s ≡ t +ℤ e → z ≡ y → s +ℤ z ≡ (t +ℤ y) +ℤ e
    turn s z t y e h g = omega (arith, ints)

    one : (s z : ℤ) → s +ℤ (z +ℤ pos 0) ≡ s +ℤ z
    one s z = omega (arith, ints)

pub whole_total : (coeffs constants : List ℤ) (indices : List ℕ) (k : ℕ) (s constant d : ℤ) → AreNamed constants indices → length constants ≡ length coeffs → length indices ≤ k
    → s ≡ sum_over (λ t. number_at coeffs t *ℤ number_at constants t) (take k indices) +ℤ (constant *ℤ d)
    → s ≡ sum_below (length coeffs) (λ t. number_at coeffs t *ℤ number_at constants t) +ℤ (d *ℤ constant)
whole_total coeffs constants indices k s constant d named same past is =
    is
    ∙ ap (λ xs. sum_over (λ t. number_at coeffs t *ℤ number_at constants t) xs +ℤ (constant *ℤ d)) (take_all k indices past)
    ∙ ap (λ z. z +ℤ (constant *ℤ d)) (named (λ t. number_at coeffs t *ℤ number_at constants t) (λ t lt none. ap (λ z. number_at coeffs t *ℤ z) none ∙ *ℤ-zero (number_at coeffs t)))
    ∙ ap (λ n. sum_below n (λ t. number_at coeffs t *ℤ number_at constants t) +ℤ (constant *ℤ d)) same
    ∙ ap (λ z. sum_below (length coeffs) (λ t. number_at coeffs t *ℤ number_at constants t) +ℤ z) (*ℤ_comm constant d)
