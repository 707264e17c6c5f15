-- A row divided by the greatest common divisor of its numbers.
use Rattle.std.proofs.Common.{◌≡◌, ℕ, zero, suc, ◌<◌, ◌≤◌, max, List, [], ◌∷◌, ◌++◌, map, length, take, drop, All, ap, refl, subst, sym, ◌∙◌, arith}
use Rattle.std.specs.Prelude.{ℤ, pos, negsuc, ◌*ℤ◌, ◌≤ℤ◌, unsigned_abs}
use Rattle.std.specs.Int.{int_max}
use Rattle.std.proofs.Math.Nat.{le_refl}
use Rattle.std.proofs.lemmas.Int.{ints}
use Rattle.std.proofs.lemmas.List.{map-append, length-map, length-append, get_or-map, ext_get_or, get_or_append_left, get_or_push, get_or_default, append-nil, drop_all, take_all}
use Rattle.rg_integers.specs.Range.{InRange}
use Rattle.rg_integers.specs.Sum.{number_at}
use Rattle.rg_integers.proofs.Divisors.{gcd_below_is_one}
use Rattle.rg_integers.proofs.Ring.{one-mul}
use Rattle.rg_fraction.specs.Rows.{IsRowGcd, IsPrimitivePart}
use Rattle.rg_folds.specs.Fold.{IsRatio}
use Rattle.rg_case_folds.specs.Rewriting.{Scaled, KeptRow, IsDivided}
use Rattle.rg_rows.proofs.Keeping.{ends}

commutes : (a b : ℤ) → a *ℤ b ≡ b *ℤ a
commutes a b = omega (arith, ints)

once_each : (xs : List ℤ) → map (λ z. pos 1 *ℤ z) xs ≡ xs
once_each [] = refl
once_each (x ∷ xs) = ap (λ z. z ∷ map (λ w. pos 1 *ℤ w) xs) (one-mul x) ∙ ap (λ l. x ∷ l) (once_each xs)

parts_multiplied : (old new : List ℤ) (g : ℕ) → IsPrimitivePart old new g → old ≡ map (λ z. pos (max g 1) *ℤ z) new
parts_multiplied old new zero p = sym (p.zeros refl) ∙ sym (once_each new)
parts_multiplied old new (suc n) p = ext_get_or (pos 0) old (map (λ z. pos (max (suc n) 1) *ℤ z) new) (sym p.same_length ∙ sym (length-map new (λ z. pos (max (suc n) 1) *ℤ z)))
    (λ k lt. sym (p.quotients (omega arith) k lt) ∙ commutes (number_at new k) (pos (suc n)) ∙ ap (λ m. pos m *ℤ number_at new k) bigger
    ∙ sym (get_or-map (λ z. pos (max (suc n) 1) *ℤ z) new k (pos 0) (pos 0) (let e = p.same_length in omega arith)))
  where
    bigger : suc n ≡ max (suc n) 1
    bigger = omega arith

-- the divisor of a division is the greatest common divisor that was found
pub divided_by : (old new : List ℤ) (g h : ℕ) → IsRowGcd old g → IsPrimitivePart old new h → IsPrimitivePart old new g
divided_by old new g h greatest part = subst (IsPrimitivePart old new) (gcd_below_is_one (length old) (λ k. unsigned_abs (number_at old k)) h g part.divisor greatest) part

pub row_divided : (scaled : Scaled) (number : ℤ) (new : List ℤ) (g : ℕ) (out : KeptRow)
    → IsPrimitivePart (scaled.numbers ++ number ∷ []) new g → out.row.coeffs ++ out.row.constant ∷ [] ≡ new → IsRatio out.factor scaled.multiple (pos (max g 1))
    → IsDivided scaled number out
row_divided scaled number new g out part parted factor = record {
  divisor = g;
  greatest = part.divisor;
  coeffs = both.0;
  constant = both.1;
  factor = factor;
}
  where
    multiplied : scaled.numbers ++ number ∷ [] ≡ map (λ z. pos (max g 1) *ℤ z) out.row.coeffs ++ (pos (max g 1) *ℤ out.row.constant) ∷ []
    multiplied = parts_multiplied (scaled.numbers ++ number ∷ []) new g part ∙ ap (map (λ z. pos (max g 1) *ℤ z)) (sym parted)
        ∙ map-append (λ z. pos (max g 1) *ℤ z) out.row.coeffs (out.row.constant ∷ [])

    both : (scaled.numbers ≡ map (λ z. pos (max g 1) *ℤ z) out.row.coeffs) × (number ≡ pos (max g 1) *ℤ out.row.constant)
    both = ends scaled.numbers (map (λ z. pos (max g 1) *ℤ z) out.row.coeffs) number (pos (max g 1) *ℤ out.row.constant) multiplied

-- ---- the divided numbers of the code

-- a list that was written back whole
pub written_back : (new old : List ℤ) (n : ℕ) → length new ≡ length old → n ≡ length old → take n (new ++ drop (length new) old) ≡ new
written_back new old n same size = ap (λ l. take n (new ++ l))
    (drop_all (length new) old (subst (λ k. length old ≤ k) (sym same) (le_refl (length old)))) ∙ ap (take n) (append-nil new)
    ∙ take_all n new (subst (λ k. length new ≤ k) (same ∙ sym size) (le_refl (length new)))

-- the numbers of a row and its constant are in range
pub parts_in_range : (coeffs : List ℤ) (constant : ℤ) (new : List ℤ) (n : ℕ) → coeffs ++ constant ∷ [] ≡ new → length new ≡ n
    → ((k : ℕ) → k < n → InRange (number_at new k)) → All InRange coeffs × InRange constant
parts_in_range coeffs constant new n parted size h = (
  (λ k d lt. subst InRange (get_or_append_left coeffs (constant ∷ []) d k lt) (all k d (let e = length-append coeffs (constant ∷ []) in omega arith))),
  subst InRange (get_or_push coeffs constant (pos 0) (length coeffs) refl) (all (length coeffs) (pos 0) (let e = length-append coeffs (constant ∷ []) in omega arith)),
)
  where
    all : All InRange (coeffs ++ constant ∷ [])
    all = subst (All InRange) (sym parted) (λ k d lt. subst InRange (get_or_default new k (pos 0) d lt) (h k (subst (λ m. k < m) size lt)))

pub bigger_is : (d : ℤ) → pos 0 ≤ℤ d → int_max d (pos 1) ≡ pos (max (unsigned_abs d) 1)
bigger_is (pos n) h = grind arith
bigger_is (negsuc n) h = absurd (omega (arith, ints))
