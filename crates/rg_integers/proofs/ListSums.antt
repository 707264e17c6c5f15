-- Sums over a list.
use Rattle.std.proofs.Common.{◌≡◌, suc, List, [], ◌∷◌, ◌++◌, map, Contains, All, ap, ap₂, refl, sym, ◌∙◌, arith}
use Rattle.std.specs.Prelude.{ℤ, pos, ◌+ℤ◌, ◌*ℤ◌, ◌≤ℤ◌}
use Rattle.std.proofs.lemmas.Int.{ints}
use Rattle.std.proofs.lemmas.List.Elements.{All-head, All-tail}
use Rattle.rg_integers.specs.Sum.{sum_over}
use Rattle.rg_integers.proofs.Ring.{mul-add}

pub sum_over-same : {X : Type 0} (f g : X → ℤ) (xs : List X) → ((x : X) → Contains xs x → f x ≡ g x) → sum_over f xs ≡ sum_over g xs
sum_over-same f g [] same = refl
sum_over-same f g (x ∷ xs) same = ap₂ ◌+ℤ◌ (same x (0, omega arith, refl)) (sum_over-same f g xs (λ u (i, lt, e). same u (suc i, omega arith, e)))

pub sum_over-zero : {X : Type 0} (f : X → ℤ) (xs : List X) → ((x : X) → Contains xs x → f x ≡ pos 0) → sum_over f xs ≡ pos 0
sum_over-zero f [] none = refl
sum_over-zero f (x ∷ xs) none =
    let ih = sum_over-zero f xs (λ u (i, lt, e). none u (suc i, omega arith, e)) in
    let here = none x (0, omega arith, refl) in
    omega (arith, ints)

pub sum_over-append : {X : Type 0} (f : X → ℤ) (xs ys : List X) → sum_over f (xs ++ ys) ≡ sum_over f xs +ℤ sum_over f ys
sum_over-append f [] ys = omega (arith, ints)
sum_over-append f (x ∷ xs) ys = let ih = sum_over-append f xs ys in omega (arith, ints)

pub sum_over-map : {X Y : Type 0} (f : Y → ℤ) (g : X → Y) (xs : List X) → sum_over f (map g xs) ≡ sum_over (λ x. f (g x)) xs
sum_over-map f g [] = refl
sum_over-map f g (x ∷ xs) = ap (λ z. f (g x) +ℤ z) (sum_over-map f g xs)

pub sum_over-plus : {X : Type 0} (f g : X → ℤ) (xs : List X) → sum_over (λ x. f x +ℤ g x) xs ≡ sum_over f xs +ℤ sum_over g xs
sum_over-plus f g [] = omega (arith, ints)
sum_over-plus f g (x ∷ xs) = let ih = sum_over-plus f g xs in omega (arith, ints)

pub sum_over-times : {X : Type 0} (k : ℤ) (f : X → ℤ) (xs : List X) → sum_over (λ x. k *ℤ f x) xs ≡ k *ℤ sum_over f xs
sum_over-times k f [] = omega (arith, ints)
sum_over-times k f (x ∷ xs) = ap (λ z. (k *ℤ f x) +ℤ z) (sum_over-times k f xs) ∙ sym (mul-add k (f x) (sum_over f xs))

-- two sums change places
pub sum_over-swap : {X Y : Type 0} (h : X → Y → ℤ) (xs : List X) (ys : List Y)
    → sum_over (λ x. sum_over (λ y. h x y) ys) xs ≡ sum_over (λ y. sum_over (λ x. h x y) xs) ys
sum_over-swap h [] ys = sym (sum_over-zero (λ y. pos 0) ys (λ y has. refl))
sum_over-swap h (x ∷ xs) ys =
    ap (λ z. sum_over (λ y. h x y) ys +ℤ z) (sum_over-swap h xs ys)
    ∙ sym (sum_over-plus (λ y. h x y) (λ y. sum_over (λ u. h u y) xs) ys)

pub sum_over-not_negative : {X : Type 0} (f : X → ℤ) (xs : List X) → All (λ x. pos 0 ≤ℤ f x) xs → pos 0 ≤ℤ sum_over f xs
sum_over-not_negative f [] each = omega (arith, ints)
sum_over-not_negative f (x ∷ xs) each =
    let here = All-head (λ x. pos 0 ≤ℤ f x) x xs each in
    let rest = sum_over-not_negative f xs (All-tail (λ x. pos 0 ≤ℤ f x) x xs each) in
    omega (arith, ints)
