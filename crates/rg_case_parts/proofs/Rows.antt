-- Lists of one number for each label.
use Rattle.std.proofs.Common.{◌≡◌, ℕ, zero, suc, ◌+◌, ◌<◌, ◌≤◌, Bool, true, false, List, [], ◌∷◌, ◌++◌, map, length, ℤ, pos, ap, ap₂, refl, sym, ◌∙◌, arith}
use Rattle.std.specs.Prelude.{FitsSigned}
use Rattle.std.specs.Int.{w64, cast_signed, cast_unsigned}
use Rattle.std.specs.Ordering.{int_eq}
use Rattle.std.proofs.lemmas.Int.{to_z-of_z}
use Rattle.std.specs.Cmp.Lexicographic.{pointwise}
use Rattle.std.proofs.lemmas.List.{map-append, get_or-map, length-map}
use Rattle.std.proofs.lemmas.List.Sums.{fold_push}
use Rattle.rg_integers.specs.Sum.{number_at}
use Rattle.rg_linear.specs.Dictionary.{numbers_from}
use Rattle.rg_linear.specs.Cycle.{IsZeroVector}
use Rattle.rg_linear.proofs.Members.{length-numbers_from, get_or-numbers_from}
use Rattle.rg_case_parts.specs.ChordRows.{mixed, row_hash, rows_decide}

numbers_next : (a n : ℕ) → numbers_from a (suc n) ≡ numbers_from a n ++ (a + n) ∷ []
numbers_next a zero = ap (λ k. k ∷ []) (omega arith)
numbers_next a (suc n) = ap (λ xs. a ∷ xs) (numbers_next (suc a) n ∙ ap (λ k. numbers_from (suc a) n ++ k ∷ []) (omega arith))

-- one number more
pub entry_more : (entry : ℕ → ℤ) (t : ℕ) (xs : List ℤ) (z : ℤ) → xs ≡ map entry (numbers_from 0 t) → z ≡ entry t → xs ++ z ∷ [] ≡ map entry (numbers_from 0 (t + 1))
entry_more entry t xs z are is =
    let one : t + 1 ≡ suc t = omega arith in
    ap₂ (λ ys y. ys ++ y ∷ []) are is ∙ sym (map-append entry (numbers_from 0 t) (t ∷ []))
    ∙ ap (λ k. map entry (numbers_from 0 t ++ k ∷ [])) (omega arith) ∙ ap (map entry) (sym (numbers_next 0 t)) ∙ ap (λ n. map entry (numbers_from 0 n)) (sym one)

-- the hash of one number more
pub hash_more : (entry : ℕ → ℤ) (t hash next : ℕ) (z : ℤ) → hash ≡ row_hash (map entry (numbers_from 0 t)) → next ≡ mixed hash z → z ≡ entry t → next ≡ row_hash (map entry (numbers_from 0 (t + 1)))
hash_more entry t hash next z are mixes is =
    mixes ∙ ap₂ mixed are is ∙ sym (fold_push mixed 14695981039346656037 (map entry (numbers_from 0 t)) (entry t)) ∙ ap row_hash (entry_more entry t (map entry (numbers_from 0 t)) (entry t) refl refl)

-- the number of a label
pub number_is : (f : ℕ → ℤ) (n t : ℕ) → t < n → number_at (map f (numbers_from 0 n)) t ≡ f t
number_is f n t lt = get_or-map f (numbers_from 0 n) t 0 (pos 0) (let e = length-numbers_from 0 n in omega arith) ∙ ap f (get_or-numbers_from 0 n t 0 lt ∙ same t)
  where
    same : (k : ℕ) → 0 + k ≡ k
    same k = omega arith

same_from : (f g : ℕ → ℤ) (a n : ℕ) → ((t : ℕ) → a ≤ t → t < a + n → f t ≡ g t) → map f (numbers_from a n) ≡ map g (numbers_from a n)
same_from f g a zero same = refl
same_from f g a (suc n) same = ap₂ ◌∷◌ (same a (omega arith) (omega arith)) (same_from f g (suc a) n (λ t past lt. same t (omega arith) (omega arith)))

-- lists with the same number of each label are the same
pub same_numbers : (f g : ℕ → ℤ) (n : ℕ) → ((t : ℕ) → t < n → f t ≡ g t) → map f (numbers_from 0 n) ≡ map g (numbers_from 0 n)
same_numbers f g n same = same_from f g 0 n (λ t past lt. same t (omega arith))

zeros_from : (f : ℕ → ℤ) (a n : ℕ) → ((t : ℕ) → a ≤ t → t < a + n → f t ≡ pos 0) → IsZeroVector (map f (numbers_from a n))
zeros_from f a zero zeros k d lt = absurd (omega arith)
zeros_from f a (suc n) zeros zero d lt = zeros a (omega arith) (omega arith)
zeros_from f a (suc n) zeros (suc k) d lt = zeros_from f (suc a) n (λ t past less. zeros t (omega arith) (omega arith)) k d (omega arith)

pub all_zero : (f : ℕ → ℤ) (n : ℕ) → ((t : ℕ) → t < n → f t ≡ pos 0) → IsZeroVector (map f (numbers_from 0 n))
all_zero f n zeros = zeros_from f 0 n (λ t past lt. zeros t (omega arith))

pub zero_at : (f : ℕ → ℤ) (n t : ℕ) → t < n → IsZeroVector (map f (numbers_from 0 n)) → f t ≡ pos 0
zero_at f n t lt zeros = sym (number_is f n t lt) ∙ zeros t (pos 0) (let e = length-map (numbers_from 0 n) f ∙ length-numbers_from 0 n in omega arith)

-- what code tells of numbers by their bits
pub bits_differ : (a b : ℤ) → (cast_unsigned w64 a ≡ cast_unsigned w64 b → ⊥) → a ≡ b → ⊥
bits_differ a b differ e = differ (ap (cast_unsigned w64) e)

pub bits_same : (a b : ℤ) → FitsSigned w64 a → FitsSigned w64 b → cast_unsigned w64 a ≡ cast_unsigned w64 b → a ≡ b
bits_same a b f g e = sym (to_z-of_z w64 a f) ∙ ap (cast_signed w64) e ∙ to_z-of_z w64 b g

-- ---- what the test says of two rows

pub rows_differ : (xs ys : List ℤ) → (xs ≡ ys → ⊥) → false ≡ pointwise int_eq xs ys
rows_differ xs ys differ = go (pointwise int_eq xs ys) refl
  where
    go : (b : Bool) → pointwise int_eq xs ys ≡ b → false ≡ b
    go true e = absurd (differ ((rows_decide xs ys).0 e))
    go false e = refl

pub rows_same : (xs ys : List ℤ) → xs ≡ ys → true ≡ pointwise int_eq xs ys
rows_same xs ys e = sym ((rows_decide xs ys).1 e)

module _ (f g : ℕ → ℤ) (m n : ℕ) where
  pub lengths_differ : (m ≡ n → ⊥) → false ≡ pointwise int_eq (map f (numbers_from 0 m)) (map g (numbers_from 0 n))
  lengths_differ differ = rows_differ (map f (numbers_from 0 m)) (map g (numbers_from 0 n))
      (λ e. differ (sym (length-map (numbers_from 0 m) f ∙ length-numbers_from 0 m) ∙ ap length e ∙ length-map (numbers_from 0 n) g ∙ length-numbers_from 0 n))

  pub numbers_differ : (t : ℕ) → t < m → m ≡ n → (f t ≡ g t → ⊥) → false ≡ pointwise int_eq (map f (numbers_from 0 m)) (map g (numbers_from 0 n))
  numbers_differ t lt long differ = rows_differ (map f (numbers_from 0 m)) (map g (numbers_from 0 n))
      (λ e. differ (sym (number_is f m t lt) ∙ ap (λ xs. number_at xs t) e ∙ number_is g n t (let same = long in omega arith)))

  pub numbers_agree : m ≡ n → ((t : ℕ) → t < m → f t ≡ g t) → true ≡ pointwise int_eq (map f (numbers_from 0 m)) (map g (numbers_from 0 n))
  numbers_agree long same = rows_same (map f (numbers_from 0 m)) (map g (numbers_from 0 n)) (same_numbers f g m same ∙ ap (λ k. map g (numbers_from 0 k)) long)
