-- How many states the systems have.
use Rattle.std.proofs.Common.{◌≡◌, ℕ, zero, suc, ◌+◌, ◌-◌, ◌*◌, ◌^◌, List, [], ◌∷◌, length, refl, ap, ◌∙◌, arith}
use Rattle.std.specs.List.{flat_map, range_with_len}
use Rattle.std.proofs.Math.Nat.{suc-mul}
use Rattle.std.proofs.lemmas.List.{length-append, length-map}
use Rattle.std.proofs.lemmas.List.Concat.{flat_map-cons}
use Rattle.std.proofs.lemmas.List.FromFn.{length-range_with_len, length-map-range_with_len}
use Rattle.rg_theory.specs.System.{System, states}
use Rattle.rg_families.specs.declared.Kind.TheVariants.{Grid, Doubling, Lock}
use Rattle.rg_families.specs.Named.{row}
use Rattle.rg_families.specs.Grid.{point}
use Rattle.rg_families.specs.Lock.{word, with_lock}
use Rattle.rg_families.specs.Families.{IsFamilyNumber, IsOfFamily}
use Rattle.rg_families.proofs.DoublingSound.{pair}
use Rattle.rg_families.proofs.LockUsers.{with_step}

-- lists of one length, one behind the other
pub flat_long : {X Y : Type 0} (f : X → List Y) (xs : List X) (k : ℕ) → ((x : X) → length (f x) ≡ k) → length (flat_map f xs) ≡ length xs * k
flat_long f [] k each = omega arith
flat_long f (x ∷ xs) k each =
    let rest = flat_long f xs k each in
    let first = each x in
    let whole = ap length (flat_map-cons f x xs) in
    omega (arith, rest, first, whole, length-append (f x) (flat_map f xs), suc-mul (length xs) k)

pub grid_states : (n : ℕ) (lts : System) → IsOfFamily Grid n lts → states lts ≡ (n + 1) * (n + 1)
grid_states n lts is =
    ap length is.state_names ∙ flat_long (λ i. row (n + 1) (point i)) (range_with_len 0 (n + 1)) (n + 1) (λ i. length-map-range_with_len (point i) 0 (n + 1))
    ∙ ap (λ m. m * (n + 1)) (length-range_with_len 0 (n + 1))

pub doubling_states : (n : ℕ) (lts : System) → IsOfFamily Doubling n lts → states lts ≡ 2 * n + 1
doubling_states n lts is =
    let names = ap length is.state_names in
    let pairs = flat_long pair (range_with_len 0 n) 2 (λ i. refl) in
    omega (arith, names, pairs, length-range_with_len 0 n)

with_size : (m : ℕ) → length (with_lock (suc m)) ≡ (m + 3) * 2 ^ m
with_size zero = refl
with_size (suc m) =
    let step = with_step (suc m) in
    let size = with_size m in
    let p = 2 ^ m in
    let twice : 2 ^ suc m ≡ p + p = omega arith in
    step ∙ doubled (length (with_lock (suc m))) m p (2 ^ suc m) size twice
  where
    doubled : (l m p q : ℕ) → l ≡ (m + 3) * p → q ≡ p + p → (l + l) + q ≡ (suc m + 3) * q
    doubled l m p q size twice = grind (arith, size, twice, suc-mul (m + 3) q)

pub lock_states : (n : ℕ) (lts : System) → IsFamilyNumber Lock n → IsOfFamily Lock n lts → states lts ≡ (n + 2) * 2 ^ (n - 1)
lock_states zero lts (some, le) is = absurd (omega arith)
lock_states (suc m) lts (some, le) is =
    let three : m + 3 ≡ suc m + 2 = omega arith in
    let one : m ≡ suc m - 1 = omega arith in
    ap length is.state_names ∙ length-map (with_lock (suc m)) word ∙ with_size m ∙ ap (λ k. k * 2 ^ m) three ∙ ap (λ k. (suc m + 2) * 2 ^ k) one
