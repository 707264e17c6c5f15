-- Norms that are kept in 64 bits.
use Rattle.std.proofs.Common.{◌≡◌, ◌⊎◌, inl, inr, ℕ, zero, suc, ◌+◌, ◌<◌, ◌≤◌, max, List, [], ◌++◌, length, refl, ap, subst, ◌∙◌, arith}
use Rattle.std.specs.Prelude.{pos}
use Rattle.std.proofs.lemmas.Bool.{cases_lt}
use Rattle.std.proofs.lemmas.Bool.Decides.{nat_tests}
use Rattle.std.proofs.lemmas.List.{get_or_append_left, get_or-append-add, length-append}
use Rattle.rg_linear.specs.System.{LinearRow}
use Rattle.rg_linear.specs.Norm.{row_norm, greatest, norm_at, greatest_norm, kept_norm}

pub at_most : (n : ℕ) (f : ℕ → ℕ) (i : ℕ) → i < n → f i ≤ greatest n f
at_most zero f i lt = absurd (omega arith)
at_most (suc n) f i lt = go (at_most n f i) (cases_lt i n)
  where
    top : (a b c : ℕ) → a ≤ b → a ≤ max b c
    top a b c le = grind (arith, nat_tests)

    here : (b c : ℕ) → c ≤ max b c
    here b c = grind (arith, nat_tests)

    go : (i < n → f i ≤ greatest n f) → (i < n) ⊎ (n ≤ i) → f i ≤ greatest (suc n) f
    go more (inl less) = top (f i) (greatest n f) (f n) (more less)
    go more (inr most) = subst (λ k. f k ≤ greatest (suc n) f) (same i n lt most) (here (greatest n f) (f n))
      where
        same : (i n : ℕ) → i < suc n → n ≤ i → n ≡ i
        same i n lt most = omega arith

greatest_same : (n : ℕ) (f g : ℕ → ℕ) → ((i : ℕ) → i < n → f i ≡ g i) → greatest n f ≡ greatest n g
greatest_same zero f g same = refl
greatest_same (suc n) f g same =
    ap (λ k. max k (f n)) (greatest_same n f g (λ i lt. same i (omega arith))) ∙ ap (λ k. max (greatest n g) k) (same n (omega arith))

-- the greatest of n + m numbers is that of the first m or of the others
greatest_of_two : (n m : ℕ) (f : ℕ → ℕ) → greatest (n + m) f ≡ max (greatest m f) (greatest n (λ i. f (i + m)))
greatest_of_two zero m f = ap (λ k. greatest k f) (left_zero m) ∙ right_zero (greatest m f)
  where
    left_zero : (m : ℕ) → 0 + m ≡ m
    left_zero m = omega arith

    right_zero : (k : ℕ) → k ≡ max k 0
    right_zero k = grind (arith, nat_tests)
greatest_of_two (suc n) m f =
    ap (λ k. greatest k f) (left_suc n m) ∙ ap (λ k. max k (f (n + m))) (greatest_of_two n m f) ∙ joined (greatest m f) (greatest n (λ i. f (i + m))) (f (n + m))
  where
    left_suc : (n m : ℕ) → suc n + m ≡ suc (n + m)
    left_suc n m = omega arith

    joined : (a b c : ℕ) → max (max a b) c ≡ max a (max b c)
    joined a b c = grind (arith, nat_tests)

-- the greatest norm of two lists, one after the other
pub greatest_of_lists : (xs ys : List LinearRow) → kept_norm (greatest_norm (xs ++ ys)) ≡ max (kept_norm (greatest_norm xs)) (kept_norm (greatest_norm ys))
greatest_of_lists xs ys =
    ap kept_norm (ap (λ n. greatest n (norm_at (xs ++ ys))) (length-append xs ys ∙ turned (length xs) (length ys)) ∙ greatest_of_two (length ys) (length xs) (norm_at (xs ++ ys)) ∙ parts)
    ∙ kept_max (greatest_norm xs) (greatest_norm ys)
  where
    none : LinearRow
    none = record { coeffs = []; constant = pos 0 }

    turned : (a b : ℕ) → a + b ≡ b + a
    turned a b = omega arith

    norm_of : LinearRow → ℕ
    norm_of r = row_norm r.coeffs r.constant

    first : (i : ℕ) → i < length xs → norm_at (xs ++ ys) i ≡ norm_at xs i
    first i lt = ap norm_of (get_or_append_left xs ys none i lt)

    second : (i : ℕ) → i < length ys → norm_at (xs ++ ys) (i + length xs) ≡ norm_at ys i
    second i lt = ap (norm_at (xs ++ ys)) (turned i (length xs)) ∙ ap norm_of (get_or-append-add xs ys i none)

    parts : max (greatest (length xs) (norm_at (xs ++ ys))) (greatest (length ys) (λ i. norm_at (xs ++ ys) (i + length xs))) ≡ max (greatest_norm xs) (greatest_norm ys)
    parts = ap (λ k. max k (greatest (length ys) (λ i. norm_at (xs ++ ys) (i + length xs)))) (greatest_same (length xs) (norm_at (xs ++ ys)) (norm_at xs) first)
        ∙ ap (λ k. max (greatest_norm xs) k) (greatest_same (length ys) (λ i. norm_at (xs ++ ys) (i + length xs)) (norm_at ys) second)

    kept_max : (a b : ℕ) → kept_norm (max a b) ≡ max (kept_norm a) (kept_norm b)
    kept_max a b = grind (arith, nat_tests)
