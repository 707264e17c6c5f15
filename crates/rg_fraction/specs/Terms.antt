-- The terms a*b - c*d that are formed, and which of them passes.
use Rattle.std.specs.Prelude.{◌≡◌, ◌⊎◌, ℤ, pos, neg_ℤ, ◌*ℤ◌, int_div}
use Rattle.rg_integers.specs.Divisor.{int_gcd}
use Rattle.rg_integers.specs.Value.{IsReducedForm}
use Rattle.rg_integers.specs.declared.term.Wide.{Wide}
use Rattle.rg_integers.specs.Term.{term_value, FitsTerm}

-- the term that is a product alone
abbrev pub product_term : ℤ → ℤ → Wide
product_term a b = record { a = a; b = b; c = pos 0; d = pos 0 }

-- the term that is the sum of x and y
abbrev pub sum_term : ℤ → ℤ → Wide
sum_term x y = record { a = x; b = pos 1; c = neg_ℤ y; d = pos 1 }

-- w is the first of the two terms that passes
abbrev pub FirstPasses : Wide → Wide → Wide → Type 0
FirstPasses s t w = ((FitsTerm s → ⊥) × (w ≡ s)) ⊎ (FitsTerm s × (FitsTerm t → ⊥) × (w ≡ t))

-- the numerator that the sum of n/d and m/e forms: n * (e/g) - (-m) * (d/g), where g divides d and e
abbrev pub sum_top : ℤ → ℤ → ℤ → ℤ → Wide
sum_top n d m e = record { a = n; b = int_div e (int_gcd d e); c = neg_ℤ m; d = int_div d (int_gcd d e) }

-- and the denominator: (d/g) * e
abbrev pub sum_bottom : ℤ → ℤ → ℤ → ℤ → Wide
sum_bottom n d m e = product_term (int_div d (int_gcd d e)) e

-- the numerator of the product: (n/g) * (m/h), where g divides n and e, and h divides m and d
abbrev pub product_top : ℤ → ℤ → ℤ → ℤ → Wide
product_top n d m e = product_term (int_div n (int_gcd n e)) (int_div m (int_gcd m d))

-- and the denominator: (d/h) * (e/g)
abbrev pub product_bottom : ℤ → ℤ → ℤ → ℤ → Wide
product_bottom n d m e = product_term (int_div d (int_gcd m d)) (int_div e (int_gcd n e))

-- the two terms of the product of n/d and m/e are its reduced form
abbrev pub ProductIsReduced : ℤ → ℤ → ℤ → ℤ → Type 0
ProductIsReduced n d m e = IsReducedForm (term_value (product_top n d m e)) (term_value (product_bottom n d m e)) (n *ℤ m) (d *ℤ e)
