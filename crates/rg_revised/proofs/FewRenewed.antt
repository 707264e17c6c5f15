-- A row that is renewed at listed indices alone.
use Rattle.std.proofs.Common.{◌≡◌, ⊎_elim, ℕ, ◌+◌, ◌<◌, ◌≤◌, List, length, refl, subst, sym, ◌∙◌, arith, get_or-set_other}
use Rattle.std.proofs.Math.ListN.{set, length-set}
use Rattle.std.specs.Prelude.{ℤ, pos, ◌-ℤ◌, ◌*ℤ◌, slice_index, unsigned_abs}
use Rattle.std.proofs.lemmas.Int.{ints}
use Rattle.std.proofs.lemmas.Bool.{cases_lt}
use Rattle.rg_integers.specs.Sum.{number_at}
use Rattle.rg_integers.proofs.Ring.{ring}
use Rattle.rg_integers.proofs.Order.{is_zero_or_not}
use Rattle.rg_revised.specs.Few.{AreFew}
use Rattle.rg_revised.specs.Rows.{RowWithin}
use Rattle.rg_revised.proofs.Written.{within-set}
use Rattle.rg_revised.proofs.FewIndices.{each_set}

-- the number of index n after the exchange
abbrev pub IsTerm : List ℤ → List ℤ → ℤ → ℤ → ℕ → ℤ → Type 0
IsTerm pivot old d leaving n z = d *ℤ z ≡ (number_at old n *ℤ d) -ℤ (number_at pivot n *ℤ leaving)

-- the first k listed indices are renewed
pub record AreRenewedAt (pivot old new : List ℤ) (d leaving : ℤ) (most : ℕ) (indices : List ℕ) (count k : ℕ) : Type 0 where
  pub same_length : length new ≡ length old
  pub still : (n : ℕ) → number_at pivot n ≡ pos 0 → IsTerm pivot old d leaving n (number_at new n)
  pub done : (j : ℕ) → j < k → IsTerm pivot old d leaving (slice_index indices j) (number_at new (slice_index indices j))
  pub left : (j : ℕ) → k ≤ j → j < count → number_at new (slice_index indices j) ≡ number_at old (slice_index indices j)
  pub within : RowWithin most new

pub none_renewed : (pivot old : List ℤ) (d leaving : ℤ) (most : ℕ) (indices : List ℕ) (count : ℕ) → RowWithin most old → AreRenewedAt pivot old old d leaving most indices count 0
none_renewed pivot old d leaving most indices count within = record {
  same_length = refl;
  still = λ n zero. stays d (number_at old n) (number_at pivot n) leaving zero;
  done = λ j lt. absurd (omega arith);
  left = λ j le lt. refl;
  within = within;
}
  where
    stays : (d x y l : ℤ) → y ≡ pos 0 → d *ℤ x ≡ (x *ℤ d) -ℤ (y *ℤ l)
    stays d x y l e = rw e (simp ring (omega (arith, ints)))

pub more_renewed : (pivot old new : List ℤ) (d leaving : ℤ) (most : ℕ) (indices : List ℕ) (count k : ℕ) (z : ℤ) → AreFew pivot indices count → length pivot ≡ length old
    → AreRenewedAt pivot old new d leaving most indices count k → k < count → IsTerm pivot old d leaving (slice_index indices k) z → unsigned_abs z ≤ most
    → AreRenewedAt pivot old (set new (slice_index indices k) z) d leaving most indices count (k + 1)
more_renewed pivot old new d leaving most indices count k z few same r lt is small = record {
  same_length = length-set new (slice_index indices k) z ∙ r.same_length;
  still = λ n zero. each_set (IsTerm pivot old d leaving) new (slice_index indices k) n z inside (λ ne. r.still n zero) is;
  done = λ j less. ⊎_elim
      (λ before. each_set (IsTerm pivot old d leaving) new (slice_index indices k) (slice_index indices j) z inside (λ ne. r.done j before) is)
      (λ le. let e : k ≡ j = omega arith in subst (λ i. IsTerm pivot old d leaving (slice_index indices i) (number_at (set new (slice_index indices k) z) (slice_index indices i))) e
      (each_set (IsTerm pivot old d leaving) new (slice_index indices k) (slice_index indices k) z inside (λ ne. absurd (ne refl)) is))
      (cases_lt j k);
  left = λ j le less. let before = few.ordered k j (omega arith) less in
      get_or-set_other new (slice_index indices k) (slice_index indices j) z (pos 0) (λ e. omega arith) ∙ r.left j (omega arith) less;
  within = within-set most new (slice_index indices k) z r.within small;
}
  where
    inside : slice_index indices k < length new
    inside = let i = few.inside k lt in let l = r.same_length in omega arith

pub all_at : (pivot old new : List ℤ) (d leaving : ℤ) (most : ℕ) (indices : List ℕ) (count : ℕ) → AreFew pivot indices count → length pivot ≡ length old
    → AreRenewedAt pivot old new d leaving most indices count count → (n : ℕ) → n < length old → IsTerm pivot old d leaving n (number_at new n)
all_at pivot old new d leaving most indices count few same r n lt = ⊎_elim
    (λ zero. r.still n zero)
    (λ ne. (let (k, less, e) = few.all n (subst (λ m. n < m) (sym same) lt) ne in subst (λ m. IsTerm pivot old d leaving m (number_at new m)) e (r.done k less)))
    (is_zero_or_not (number_at pivot n))
