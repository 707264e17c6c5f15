-- A short list of the indices at which numbers aren't 0, made index by index.
use Rattle.std.proofs.Common.{◌≡◌, ◌≢◌, ⊎_elim, ℕ, ◌+◌, ◌<◌, ◌≤◌, Bool, true, false, if◌then◌else◌, List, length, refl, ap, subst, sym, ◌∙◌, arith, get_or-set_other, get_or-set_same}
use Rattle.std.proofs.Math.ListN.{set, length-set}
use Rattle.std.specs.Prelude.{ℤ, pos, neg_ℤ, slice_index}
use Rattle.std.proofs.lemmas.Bool.{cases_lt}
use Rattle.rg_integers.specs.Sum.{number_at}
use Rattle.rg_linear.proofs.Members.{equal_or_not}
use Rattle.rg_revised.specs.Few.{AreFew}

-- the numbers before n are listed
pub record AreFewBelow (numbers : List ℤ) (indices : List ℕ) (count n : ℕ) : Type 0 where
  pub room : count ≤ length indices
  pub inside : (k : ℕ) → k < count → slice_index indices k < n
  pub ordered : (j k : ℕ) → j < k → k < count → slice_index indices j < slice_index indices k
  pub all : (m : ℕ) → m < n → number_at numbers m ≢ pos 0 → (k : ℕ) × (k < count) × (slice_index indices k ≡ m)

-- a number that is 0 is left out
pub few_same : (numbers : List ℤ) (indices : List ℕ) (count n : ℕ) → AreFewBelow numbers indices count n → number_at numbers n ≡ pos 0 → AreFewBelow numbers indices count (n + 1)
few_same numbers indices count n r zero = record {
  room = r.room;
  inside = λ k lt. let before = r.inside k lt in omega arith;
  ordered = r.ordered;
  all = λ m lt ne. ⊎_elim (λ less. r.all m less ne) (λ le. let e : m ≡ n = omega arith in absurd (ne (subst (λ k. number_at numbers k ≡ pos 0) (sym e) zero))) (cases_lt m n);
}

-- one more is listed
pub few_more : (numbers : List ℤ) (indices : List ℕ) (count n : ℕ) → AreFewBelow numbers indices count n → count < length indices
    → AreFewBelow numbers (set indices count n) (count + 1) (n + 1)
few_more numbers indices count n r lt = record {
  room = subst (λ k. count + 1 ≤ k) (sym (length-set indices count n)) (omega arith);
  inside = λ k less. ⊎_elim (λ before. let b = r.inside k before in subst (λ x. x < n + 1) (sym (old k before)) (omega arith)) (λ le. subst (λ x. x < n + 1) (sym (last k (omega arith))) (omega arith))
      (cases_lt k count);
  ordered = λ j k j_less less. ⊎_elim
      (λ before. let b : j < count = omega arith in
      subst (λ x. x < slice_index (set indices count n) k) (sym (old j b)) (subst (λ y. slice_index indices j < y) (sym (old k before)) (r.ordered j k j_less before)))
      (λ le. let b : j < count = omega arith in
      subst (λ x. x < slice_index (set indices count n) k) (sym (old j b)) (subst (λ y. slice_index indices j < y) (sym (last k (omega arith))) (r.inside j b)))
      (cases_lt k count);
  all = λ m less ne. ⊎_elim (λ before. (let (k, below, is) = r.all m before ne in (k, omega arith, old k below ∙ is))) (λ le. (count, omega arith, last count refl ∙ omega arith)) (cases_lt m n);
}
  where
    old : (k : ℕ) → k < count → slice_index (set indices count n) k ≡ slice_index indices k
    old k before = get_or-set_other indices count k n 0 (λ e. omega arith)

    last : (k : ℕ) → k ≡ count → slice_index (set indices count n) k ≡ n
    last k e = subst (λ m. slice_index (set indices count n) m ≡ n) (sym e) (get_or-set_same indices count n 0 lt)

-- 0 has no other sign
pub zero_signed : (negative : Bool) (x : ℤ) → x ≡ pos 0 → (if negative then neg_ℤ x else x) ≡ pos 0
zero_signed true x zero = ap neg_ℤ zero
zero_signed false x zero = zero

-- all are listed, also where their signs were turned
pub all_few : (negative : Bool) (old new : List ℤ) (indices : List ℕ) (count n : ℕ) → AreFewBelow old indices count n → n ≡ length old → length new ≡ length old
    → ((k : ℕ) → k < n → number_at new k ≡ (if negative then neg_ℤ (number_at old k) else number_at old k)) → AreFew new indices count
all_few negative old new indices count n r end same signed = record {
  room = r.room;
  inside = λ k lt. subst (λ m. slice_index indices k < m) (end ∙ sym same) (r.inside k lt);
  ordered = r.ordered;
  all = λ m lt ne. let less : m < n = omega (arith, same, end, lt) in r.all m less (λ zero. ne (signed m less ∙ zero_signed negative (number_at old m) zero));
}

-- what holds of each number but one still holds where that one is written
pub each_set : (P : ℕ → ℤ → Type 0) (xs : List ℤ) (n k : ℕ) (z : ℤ) → n < length xs → (k ≢ n → P k (number_at xs k)) → P n z → P k (number_at (set xs n z) k)
each_set P xs n k z lt rest here = ⊎_elim
    (λ (e : k ≡ n). subst (λ m. P m (number_at (set xs n z) m)) (sym e) (subst (P n) (sym (get_or-set_same xs n z (pos 0) lt)) here))
    (λ ne. subst (P k) (sym (get_or-set_other xs n k z (pos 0) ne)) (rest ne))
    (equal_or_not k n)
