-- Factors 2, and greatest common divisors of which one number is odd.
use Rattle.std.proofs.Common.{◌≡◌, ℕ, zero, suc, ◌+◌, ◌-◌, ◌*◌, ◌/◌, ◌%◌, ◌^◌, ◌<◌, ◌≤◌, ap, subst, sym, ◌∙◌, arith}
use Rattle.std.specs.Int.{IsGcd, ◌∣◌, bit_at, w128, trailing_zeros}
use Rattle.std.proofs.Math.Nat.{one-dvd, dvd-mul_right, pow-suc, mul-le-mul_right}
use Rattle.std.proofs.lemmas.Nat.{shr-shr}
use Rattle.std.proofs.lemmas.Nat.Bits.{bit_at-trailing_zeros}
use Rattle.std.proofs.lemmas.Nat.Gcd.{IsGcd-from_mod, IsGcd-from_sub, IsGcd-swap, dvd_trans}
use Rattle.rg_fraction.proofs.Ones.{one_is_reduced}
use Rattle.rg_integers.proofs.Coprime.{coprime_divides, coprime_product, IsGcd-times}

shifted : (n k : ℕ) → n / 2 ^ suc k ≡ n / 2 ^ k / 2
shifted n k = ap (λ m. n / 2 ^ m) (one_more k) ∙ sym (shr-shr n k 1)
  where
    one_more : (k : ℕ) → suc k ≡ k + 1
    one_more k = omega arith

-- the lowest bits are 0
pub no_low_bits : (k n : ℕ) → ((i : ℕ) → i < k → bit_at n i ≡ 0) → n ≡ n / 2 ^ k * 2 ^ k
no_low_bits zero n h = omega arith
no_low_bits (suc k) n h =
    let before = no_low_bits k n (λ i l. h i (omega arith)) in
    let even : n / 2 ^ k % 2 ≡ 0 = h k (omega arith) in
    before ∙ by (n / 2 ^ k) (2 ^ k) (2 ^ suc k) (n / 2 ^ suc k) (half (n / 2 ^ k) even) (pow-suc 2 k) (shifted n k)
  where
    half : (m : ℕ) → m % 2 ≡ 0 → m ≡ m / 2 * 2
    half m e = omega arith

    by : (m p q r : ℕ) → m ≡ m / 2 * 2 → q ≡ p * 2 → r ≡ m / 2 → m * p ≡ r * q
    by m p q r h e f = rw (e, f) (ap (λ x. x * p) h ∙ turn (m / 2) p)
      where
        turn : (x p : ℕ) → x * 2 * p ≡ x * (p * 2)
        turn x p = omega arith

-- a number is its odd part times a power of 2
pub odd_part_is : (n k : ℕ) → 0 < n → n < 2 ^ 128 → k ≤ trailing_zeros w128 n → n ≡ n / 2 ^ k * 2 ^ k
odd_part_is n k some small h = no_low_bits k n (λ i l. (bit_at-trailing_zeros w128 n some small).2 i (omega arith))

pub is_odd : (n : ℕ) → 0 < n → n < 2 ^ 128 → n / 2 ^ trailing_zeros w128 n % 2 ≡ 1
is_odd n some small = (bit_at-trailing_zeros w128 n some small).1

-- an odd number has no common factor with a power of 2
odd_with_two : (y : ℕ) → y % 2 ≡ 1 → IsGcd y 2 1
odd_with_two y e = IsGcd-from_mod y 2 1 (subst (λ r. IsGcd 2 r 1) (sym e) (one_is_reduced 2))

odd_with_power : (y k : ℕ) → y % 2 ≡ 1 → IsGcd (2 ^ k) y 1
odd_with_power y zero e = IsGcd-swap y 1 1 (one_is_reduced y)
odd_with_power y (suc k) e =
    subst (λ p. IsGcd p y 1) (sym (pow-suc 2 k)) (coprime_product (2 ^ k) 2 y (odd_with_power y k e) (IsGcd-swap y 2 1 (odd_with_two y e)))

-- factors 2 of one number don't matter beside an odd number
pub drop_twos : (m y g k : ℕ) → y % 2 ≡ 1 → IsGcd m y g → IsGcd (m * 2 ^ k) y g
drop_twos m y g k e h = (
  dvd_trans g h.0 (dvd-mul_right m (2 ^ k)),
  h.1,
  λ d p q. h.2 d (coprime_divides d (2 ^ k) m (apart d q) (subst (λ x. d ∣ x) (turned m (2 ^ k)) p)) q,
)
  where
    turned : (m p : ℕ) → m * p ≡ p * m
    turned m p = omega arith

    apart : (d : ℕ) → d ∣ y → IsGcd d (2 ^ k) 1
    apart d q = (one-dvd d, one-dvd (2 ^ k), λ f s t. (odd_with_power y k e).2 f t (dvd_trans f s q))

-- one step: x is z times a power of 2, and the smaller of z and y is taken from the greater
pub step_below : (x y z g : ℕ) → (k : ℕ) × (x ≡ z * 2 ^ k) → y % 2 ≡ 1 → z < y → IsGcd (y - z) z g → IsGcd x y g
step_below x y z g part odd less h =
    subst (λ n. IsGcd n y g) (sym part.1) (drop_twos z y g part.0 odd (IsGcd-swap y z g (IsGcd-from_sub y z g (omega arith) h)))

pub step_above : (x y z g : ℕ) → (k : ℕ) × (x ≡ z * 2 ^ k) → y % 2 ≡ 1 → y ≤ z → IsGcd (z - y) y g → IsGcd x y g
step_above x y z g part odd more h = subst (λ n. IsGcd n y g) (sym part.1) (drop_twos z y g part.0 odd (IsGcd-from_sub z y g more h))

-- the parts without a power of 2 that divides both
pub with_shared : (a b g k p q : ℕ) → a ≡ p * 2 ^ k → b ≡ q * 2 ^ k → 0 < 2 ^ k → IsGcd p q g → IsGcd a b (g * 2 ^ k)
with_shared a b g k p q e f some h = rw (e, f) (IsGcd-times p q g (2 ^ k) h some)

-- a divisor is not wrapped when its power of 2 comes back
pub unwrapped : (g b k : ℕ) → g ≤ b / 2 ^ k → b ≡ b / 2 ^ k * 2 ^ k → b < 2 ^ 128 → g * 2 ^ k % 2 ^ 128 ≡ g * 2 ^ k
unwrapped g b k h e small =
    let within : g * 2 ^ k ≤ b / 2 ^ k * 2 ^ k = mul-le-mul_right (2 ^ k) h in
    below (g * 2 ^ k) (b / 2 ^ k * 2 ^ k) b within e small
  where
    below : (n m b : ℕ) → n ≤ m → b ≡ m → b < 2 ^ 128 → n % 2 ^ 128 ≡ n
    below n m b h e small = omega arith
