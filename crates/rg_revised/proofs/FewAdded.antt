-- A row that is added at listed indices alone.
use Rattle.std.proofs.Common.{◌≡◌, ⊎_elim, ℕ, ◌+◌, ◌<◌, ◌≤◌, List, length, refl, subst, sym, ◌∙◌, arith, get_or-set_other}
use Rattle.std.proofs.Math.ListN.{set, length-set}
use Rattle.std.specs.Prelude.{ℤ, pos, ◌+ℤ◌, ◌*ℤ◌, slice_index}
use Rattle.std.proofs.lemmas.Bool.{cases_lt}
use Rattle.rg_integers.specs.Sum.{number_at}
use Rattle.rg_integers.proofs.Order.{is_zero_or_not}
use Rattle.rg_revised.specs.Few.{AreFew}
use Rattle.rg_revised.specs.Reading.{IsAdded}
use Rattle.rg_revised.proofs.FewIndices.{each_set}

-- the number of index n with the multiple of the row's
abbrev pub IsTerm : ℤ → List ℤ → List ℤ → ℕ → ℤ → Type 0
IsTerm by row old n z = z ≡ number_at old n +ℤ (by *ℤ number_at row n)

-- the multiple is added at the first k listed indices
pub record AreAddedAt (by : ℤ) (row old new : List ℤ) (indices : List ℕ) (count k : ℕ) : Type 0 where
  pub same_length : length new ≡ length old
  pub still : (n : ℕ) → number_at row n ≡ pos 0 → IsTerm by row old n (number_at new n)
  pub done : (j : ℕ) → j < k → IsTerm by row old (slice_index indices j) (number_at new (slice_index indices j))
  pub left : (j : ℕ) → k ≤ j → j < count → number_at new (slice_index indices j) ≡ number_at old (slice_index indices j)

pub more_added : (by : ℤ) (row old new : List ℤ) (indices : List ℕ) (count k : ℕ) (z : ℤ) → AreFew row indices count → length row ≡ length old
    → AreAddedAt by row old new indices count k → k < count → IsTerm by row old (slice_index indices k) z → AreAddedAt by row old (set new (slice_index indices k) z) indices count (k + 1)
more_added by row old new indices count k z few same r lt is = record {
  same_length = length-set new (slice_index indices k) z ∙ r.same_length;
  still = λ n zero. each_set (IsTerm by row old) new (slice_index indices k) n z inside (λ ne. r.still n zero) is;
  done = λ j less. ⊎_elim
      (λ before. each_set (IsTerm by row old) new (slice_index indices k) (slice_index indices j) z inside (λ ne. r.done j before) is)
      (λ le. let e : k ≡ j = omega arith in subst (λ i. IsTerm by row old (slice_index indices i) (number_at (set new (slice_index indices k) z) (slice_index indices i))) e
      (each_set (IsTerm by row old) new (slice_index indices k) (slice_index indices k) z inside (λ ne. absurd (ne refl)) is))
      (cases_lt j k);
  left = λ j le less. let before = few.ordered k j (omega arith) less in
      get_or-set_other new (slice_index indices k) (slice_index indices j) z (pos 0) (λ e. omega arith) ∙ r.left j (omega arith) less;
}
  where
    inside : slice_index indices k < length new
    inside = let i = few.inside k lt in let l = r.same_length in omega arith

pub all_added : (by : ℤ) (row old new : List ℤ) (indices : List ℕ) (count : ℕ) → AreFew row indices count → length row ≡ length old → AreAddedAt by row old new indices count count
    → IsAdded by row old new
all_added by row old new indices count few same r = record {
  same_length = r.same_length;
  numbers = λ n lt. ⊎_elim
      (λ zero. r.still n zero)
      (λ ne. (let (k, less, e) = few.all n (subst (λ m. n < m) (sym same) lt) ne in subst (λ m. IsTerm by row old m (number_at new m)) e (r.done k less)))
      (is_zero_or_not (number_at row n));
}
