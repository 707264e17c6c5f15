-- What a fraction shows, and what the calls that form one answer.
use Rattle.std.specs.Prelude.{◌≡◌, Result, MatchResult, IfOk, ℤ, ◌+ℤ◌, ◌*ℤ◌}
use Rattle.rg_integers.specs.Value.{SameValue}
use Rattle.rg_integers.specs.declared.term.Wide.{Wide}
use Rattle.rg_fraction.specs.declared.fraction.Fraction.{Fraction}
use Rattle.rg_fraction.specs.Terms.{FirstPasses, sum_top, sum_bottom, product_top, product_bottom}
use Rattle.rg_integers.specs.Term.{term_value, FitsTerm}

-- the numerator that a fraction shows
abbrev pub numerator_of : Fraction → ℤ
numerator_of f = f.numerator

-- and the denominator
abbrev pub denominator_of : Fraction → ℤ
denominator_of f = f.denominator

-- its value is n over d
abbrev pub IsValue : Fraction → ℤ → ℤ → Type 0
IsValue f n d = SameValue (numerator_of f) (denominator_of f) n d

-- it shows these two numbers
abbrev pub Shows : Fraction → ℤ → ℤ → Type 0
Shows f n d = (numerator_of f ≡ n) × (denominator_of f ≡ d)

-- both terms fit and the answer is a fraction with the value n over d, or the answer is the first term that passes
abbrev pub IsFormed : Wide → Wide → ℤ → ℤ → Result Fraction Wide → Type 0
IsFormed top bottom n d r = MatchResult r (λ f. FitsTerm top × FitsTerm bottom × IsValue f n d) (λ w. FirstPasses top bottom w)

-- what the sum of n/d and m/e answers
abbrev pub IsSum : ℤ → ℤ → ℤ → ℤ → Result Fraction Wide → Type 0
IsSum n d m e r = IsFormed (sum_top n d m e) (sum_bottom n d m e) ((n *ℤ e) +ℤ (m *ℤ d)) (d *ℤ e) r

-- what the product of n/d and m/e answers
abbrev pub IsProduct : ℤ → ℤ → ℤ → ℤ → Result Fraction Wide → Type 0
IsProduct n d m e r = IsFormed (product_top n d m e) (product_bottom n d m e) (n *ℤ m) (d *ℤ e) r

-- a fraction that is the product of n/d and m/e shows its two terms
abbrev pub ShowsProduct : ℤ → ℤ → ℤ → ℤ → Result Fraction Wide → Type 0
ShowsProduct n d m e r = IfOk r (λ f. Shows f (term_value (product_top n d m e)) (term_value (product_bottom n d m e)))
