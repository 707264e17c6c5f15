-- Sums over the free labels in whole numbers, to which the labels that aren't free add theirs.
use Rattle.std.specs.Prelude.{◌≡◌, ℕ, ◌<◌, ◌≤◌, List, length, slice_index, ℤ, pos, ◌+ℤ◌, ◌*ℤ◌, FitsSigned, Ok}
use Rattle.std.specs.Int.{w64}
use Rattle.rg_integers.specs.Range.{InRange}
use Rattle.rg_integers.specs.Sum.{number_at, sum_below}
use Rattle.rg_linear.specs.Cycle.{CycleBasis}
use Rattle.rg_folds.specs.Fold.{and_then, whole, add}
use Rattle.rg_folds.specs.Substitution.{free_labels, dependent_term, coefficient_fold}
use Rattle.rg_cycles.specs.declared.basis.Basis.{Basis}
use Rattle.rg_cycles.specs.View.{labels_of, cycle_of, counted_labels}

-- the next sum is the sum and the count times the number, all in range
pub record IsWholeStep (count number sum next : ℤ) : Type 0 where
  pub is : next ≡ sum +ℤ (count *ℤ number)
  pub sum_in_range : InRange sum
  pub product_in_range : InRange (count *ℤ number)
  pub next_in_range : InRange next

-- at each index the sum after is the sum before and the count times the number
abbrev pub AddsTimes : ℤ → List ℤ → List ℤ → List ℤ → Type 0
AddsTimes count numbers before after = (n : ℕ) → n < length before → IsWholeStep count (number_at numbers n) (number_at before n) (number_at after n)

-- each sum after is the sum before and what the label adds to the coefficient of the free label at its index
abbrev pub AddsLabel : Basis → (ℕ → ℤ) → ℕ → List ℤ → List ℤ → Type 0
AddsLabel basis counts t before after = (n : ℕ) → n < length before
    → and_then (dependent_term (cycle_of basis) counts (slice_index (free_labels (labels_of basis) (cycle_of basis)) n) t) (add (whole (number_at before n))) (Ok (whole (number_at after n)))

-- the sums are the coefficients of the free labels, in order
abbrev pub AreCoefficients : Basis → (ℕ → ℤ) → List ℤ → Type 0
AreCoefficients basis counts sums = (n : ℕ) → n < length sums
    → coefficient_fold (labels_of basis) (cycle_of basis) counts (slice_index (free_labels (labels_of basis) (cycle_of basis)) n) (Ok (whole (number_at sums n)))

-- ---- numbers of 64 bits

-- the number, the count times it, and the sum with that fit 64 bits
pub record StaysShort (count number sum : ℤ) : Type 0 where
  pub number_fits : FitsSigned w64 number
  pub product_fits : FitsSigned w64 (count *ℤ number)
  pub sum_fits : FitsSigned w64 (sum +ℤ (count *ℤ number))

-- so it is at each index
abbrev pub StayShort : ℤ → (ℕ → ℤ) → List ℤ → Type 0
StayShort count numbers sums = (n : ℕ) → n < length sums → StaysShort count (numbers n) (number_at sums n)

-- the number of label t in the row of each free label, by its index
abbrev pub numbers_of_label : Basis → ℕ → ℕ → ℤ
numbers_of_label basis t n = ((cycle_of basis).relation t).coefficient (slice_index (free_labels (labels_of basis) (cycle_of basis)) n)

-- what label t adds to these sums is in whole numbers of 64 bits
pub record LabelIsShort (basis : Basis) (counts : ℕ → ℤ) (t : ℕ) (sums : List ℤ) : Type 0 where
  pub count : FitsSigned w64 (counts t)
  pub whole : ((cycle_of basis).relation t).d ≡ pos 1
  pub terms : StayShort (counts t) (numbers_of_label basis t) sums

-- the sum of the free label at index n after the first k of these labels: its own count, and the count of each times its number
abbrev pub sum_after : Basis → (ℕ → ℤ) → List ℕ → ℕ → ℕ → ℤ
sum_after basis counts labels k n =
    counts (slice_index (free_labels (labels_of basis) (cycle_of basis)) n) +ℤ sum_below k (λ i. counts (slice_index labels i) *ℤ numbers_of_label basis (slice_index labels i) n)

-- the labels with a count add, in order, whole numbers of 64 bits to sums that fit 64 bits
pub record AreShort (basis : Basis) (counts : ℕ → ℤ) : Type 0 where
  pub own : (n : ℕ) → n < length (free_labels (labels_of basis) (cycle_of basis)) → FitsSigned w64 (counts (slice_index (free_labels (labels_of basis) (cycle_of basis)) n))
  pub count : (k : ℕ) → k < length (counted_labels basis counts) → FitsSigned w64 (counts (slice_index (counted_labels basis counts) k))
  pub whole : (k : ℕ) → k < length (counted_labels basis counts) → ((cycle_of basis).relation (slice_index (counted_labels basis counts) k)).d ≡ pos 1
  pub terms : (k n : ℕ) → k < length (counted_labels basis counts) → n < length (free_labels (labels_of basis) (cycle_of basis))
      → StaysShort (counts (slice_index (counted_labels basis counts) k)) (numbers_of_label basis (slice_index (counted_labels basis counts) k) n)
      (sum_after basis counts (counted_labels basis counts) k n)
