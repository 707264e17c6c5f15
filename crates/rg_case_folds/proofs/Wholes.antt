-- Steps on whole numbers, and fractions that are multiplied by a multiple of their bottoms.
use Rattle.std.proofs.Common.{◌≡◌, ℕ, zero, suc, ◌*◌, ◌<◌, List, [], ◌∷◌, map, length, slice_index_or, Result, Ok, sym, ap, ap₂, subst, ◌∙◌, arith}
use Rattle.std.specs.Prelude.{ℤ, pos, neg_ℤ, ◌+ℤ◌, ◌-ℤ◌, ◌*ℤ◌, ◌<ℤ◌, unsigned_abs, int_div}
use Rattle.std.proofs.lemmas.Int.{ints, unsigned_abs-mul}
use Rattle.std.specs.Int.{◌∣◌}
use Rattle.std.proofs.Math.Nat.{dvd-mul_right}
use Rattle.std.proofs.Math.IntN.{*ℤ_comm}
use Rattle.rg_integers.specs.Range.{InRange}
use Rattle.rg_integers.specs.Divisor.{int_gcd}
use Rattle.rg_integers.proofs.Signs.{abs_is}
use Rattle.rg_integers.proofs.Order.{mul-cancel, positive_differs}
use Rattle.rg_integers.proofs.Divisors.{gcd_of-only, exact}
use Rattle.rg_integers.specs.declared.term.Wide.{Wide}
use Rattle.rg_folds.specs.Fold.{each, Ratio, whole, add, mul}
use Rattle.rg_folds.proofs.FoldLemmas.{ratio_one}
use Rattle.rg_case_folds.proofs.Scaling.{Divides, AllDivide, whole_ratio, product_whole}
use Rattle.rg_fraction.proofs.Ones.{first_part as part_by_one}

-- ---- parts by common divisors

-- a number divides its multiple
pub part_by_divisor : (m b q : ℤ) → pos 0 <ℤ b → m ≡ b *ℤ q → int_div m (int_gcd m b) ≡ q
part_by_divisor m b q positive is =
    ap (λ n. int_div m (pos n)) (sym (gcd_of-only (unsigned_abs m) (unsigned_abs b) (unsigned_abs b) (divides, itself (unsigned_abs b), λ k p r. r)))
    ∙ ap (λ z. int_div m z) (sym (abs_is b positive))
    ∙ mul-cancel (int_div m b) q b (positive_differs b positive) (exact m b divides ∙ is ∙ *ℤ_comm b q)
  where
    divides : unsigned_abs b ∣ unsigned_abs m
    divides = subst (λ n. unsigned_abs b ∣ n) (sym (ap unsigned_abs is ∙ unsigned_abs-mul b q)) (dvd-mul_right (unsigned_abs b) (unsigned_abs q))

    itself : (n : ℕ) → n ∣ n
    itself n = subst (λ k. n ∣ k) (once n) (dvd-mul_right n 1)
      where
        once : (n : ℕ) → n * 1 ≡ n
        once n = omega arith

-- ---- whole numbers

pub add_whole : (x y : ℤ) (h : Ratio) → add (whole x) (whole y) (Ok h) → (h ≡ whole (x +ℤ y)) × InRange (x +ℤ y)
add_whole x y h (top, bottom, r) = (
  ratio_one h (whole (x +ℤ y)) ((x *ℤ pos 1) +ℤ (y *ℤ pos 1)) (pos 1 *ℤ pos 1) r (whole_ratio (x +ℤ y) ((x *ℤ pos 1) +ℤ (y *ℤ pos 1)) (pos 1 *ℤ pos 1) r.nonzero (same x y)),
  subst InRange (ap (λ k. (x *ℤ k) -ℤ (neg_ℤ y *ℤ k)) (part_by_one (pos 1)) ∙ close x y) top.difference,
)
  where
    same : (x y : ℤ) → (x +ℤ y) *ℤ (pos 1 *ℤ pos 1) ≡ (x *ℤ pos 1) +ℤ (y *ℤ pos 1)
    same x y = omega (arith, ints)

    close : (x y : ℤ) → (x *ℤ pos 1) -ℤ (neg_ℤ y *ℤ pos 1) ≡ x +ℤ y
    close x y = omega (arith, ints)

-- a fraction times a multiple of its bottom is whole and in range
pub product_fits : (r p : Ratio) (m q : ℤ) → pos 0 <ℤ r.bottom → m ≡ r.bottom *ℤ q → mul r (whole m) (Ok p) → (p ≡ whole (r.top *ℤ q)) × InRange (r.top *ℤ q)
product_fits r p m q positive is product = (
  product_whole r p m q is product,
  subst InRange (ap₂ ◌*ℤ◌ (part_by_one r.top) (part_by_divisor m r.bottom q positive is)) product.0.left,
)

-- ---- lists

-- what is made at each place
pub each_at : {A X : Type 0} (make : A → Result X Wide → Type 0) (items : List A) (xs : List X) (a : A) (x : X) (i : ℕ) → each make items (Ok xs) → i < length items
    → make (slice_index_or items i a) (Ok (slice_index_or xs i x))
each_at make [] xs a x i made lt = absurd (omega arith)
each_at make (b ∷ items) xs a x i (y, is, (rest, others, e)) lt =
    subst (λ l. make (slice_index_or (b ∷ items) i a) (Ok (slice_index_or l i x))) (sym e) (go i lt (λ j lt'. each_at make items rest a x j others lt'))
  where
    go : (i : ℕ) → i < length (b ∷ items) → ((j : ℕ) → j < length items → make (slice_index_or items j a) (Ok (slice_index_or rest j x)))
        → make (slice_index_or (b ∷ items) i a) (Ok (slice_index_or (y ∷ rest) i x))
    go zero lt next = is
    go (suc i) lt next = next i (omega arith)

-- ---- the least common multiple

pub divides_at : (rs : List Ratio) (m : ℤ) (i : ℕ) (r : Ratio) → AllDivide (map (λ z. z.bottom) rs) m → i < length rs → Divides (slice_index_or rs i r).bottom m
divides_at [] m i r all lt = absurd (omega arith)
divides_at (s ∷ rs) m zero r (here, all) lt = here
divides_at (s ∷ rs) m (suc i) r (here, all) lt = divides_at rs m i r all (omega arith)
