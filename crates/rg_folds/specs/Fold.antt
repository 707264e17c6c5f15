-- Computations that stop at their first step out of range, given by their results.
use Rattle.std.specs.Prelude.{◌≡◌, ◌≢◌, ◌⊎◌, Bool, true, false, List, [], ◌∷◌, ℤ, pos, ◌+ℤ◌, ◌*ℤ◌, ◌<ℤ◌, unsigned_abs, int_div, Result, Ok, Err}
use Rattle.std.specs.Int.{IsGcd}
use Rattle.rg_integers.specs.declared.term.Wide.{Wide}
use Rattle.rg_fraction.specs.declared.fraction.Fraction.{Fraction}
use Rattle.rg_fraction.specs.declared.fold_stop.FoldStop.{FoldStop}
use Rattle.rg_fraction.specs.declared.fold_stop.FoldStop.TheVariants as stop
use Rattle.rg_integers.specs.Range.{InRange}
use Rattle.rg_integers.specs.Value.{SameValue}
use Rattle.rg_fraction.specs.Terms.{sum_term, product_term, FirstPasses, sum_top, sum_bottom, product_top, product_bottom}
use Rattle.rg_integers.specs.Term.{FitsTerm, term_value}
use Rattle.rg_integers.specs.Divisor.{int_gcd}
use Rattle.rg_fraction.specs.Fractions.{numerator_of, denominator_of}

-- the value x, with no step
abbrev pub gives : {X : Type 0} → X → Result X Wide → Type 0
gives x (Ok y) = y ≡ x
gives x (Err w) = ⊥

-- one computation, and the next one on its value; the result is the first step out of range of the two
abbrev pub and_then : {X Y : Type 0} → (Result X Wide → Type 0) → (X → Result Y Wide → Type 0) → Result Y Wide → Type 0
and_then {X} first next (Ok y) = (x : X) × first (Ok x) × next x (Ok y)
and_then {X} first next (Err w) = first (Err w) ⊎ ((x : X) × first (Ok x) × next x (Err w))

-- the same, so that several computations in a row are a `do` block
infixl 10 ◌>>=◌
abbrev pub ◌>>=◌ : {X Y : Type 0} → (Result X Wide → Type 0) → (X → Result Y Wide → Type 0) → Result Y Wide → Type 0
first >>= next = and_then first next

-- the one computation or the other
abbrev pub either : {X : Type 0} → Bool → (Result X Wide → Type 0) → (Result X Wide → Type 0) → Result X Wide → Type 0
either true first second = first
either false first second = second

-- the computation has one result at most
pub record IsOne {X : Type 0} (fold : Result X Wide → Type 0) : Type 0 where
  pub one : (r r' : Result X Wide) → fold r → fold r' → r ≡ r'

-- the same result, its value seen as another
abbrev pub shown_result : {X Y : Type 0} → (X → Y) → Result X Wide → Result Y Wide
shown_result show (Ok x) = Ok (show x)
shown_result show (Err w) = Err w

-- what a call gives is a result of the computation: its value, seen so, or its first step out of range
abbrev pub Comes : {T X : Type 0} → (Result X Wide → Type 0) → (T → X) → Result T FoldStop → Type 0
Comes fold view (Ok v) = fold (Ok (view v))
Comes fold view (Err (stop.Wide w)) = fold (Err w)
Comes fold view (Err stop.NoMemory) = Unit {0}

-- ---- lists

-- the values of the items, made in order
abbrev pub each : {A X : Type 0} → (A → Result X Wide → Type 0) → List A → Result (List X) Wide → Type 0
each make [] = gives []
each make (a ∷ rest) = do
  x ← make a
  xs ← each make rest
  gives (x ∷ xs)

-- a number to which further ones are joined, each made and then joined
abbrev pub further : {A X : Type 0} → (X → X → Result X Wide → Type 0) → (A → Result X Wide → Type 0) → X → List A → Result X Wide → Type 0
further join make sum [] = gives sum
further join make sum (a ∷ rest) = do
  x ← make a
  more ← join sum x
  further join make more rest

-- the same, which begins with its first term; `none` where there is no term
abbrev pub joined : {A X : Type 0} → (X → X → Result X Wide → Type 0) → (A → Result X Wide → Type 0) → X → List A → Result X Wide → Type 0
joined join make none [] = gives none
joined join make none (a ∷ rest) = do
  x ← make a
  further join make x rest

-- ---- steps

-- a rational number, reduced
pub record Ratio : Type 0 where
  pub top : ℤ
  pub bottom : ℤ

abbrev pub whole : ℤ → Ratio
whole z = record { top = z; bottom = pos 1 }

-- the fraction of code
abbrev pub ratio_of : Fraction → Ratio
ratio_of f = record { top = numerator_of f; bottom = denominator_of f }

-- f is n over d, reduced
pub record IsRatio (f : Ratio) (n d : ℤ) : Type 0 where
  pub nonzero : d ≢ pos 0
  pub positive : pos 0 <ℤ f.bottom
  pub reduced : IsGcd (unsigned_abs f.top) (unsigned_abs f.bottom) 1
  pub value : SameValue f.top f.bottom n d

-- a reduced number, with numbers in range
pub record IsWithin (f : Ratio) : Type 0 where
  pub positive : pos 0 <ℤ f.bottom
  pub reduced : IsGcd (unsigned_abs f.top) (unsigned_abs f.bottom) 1
  pub top_in_range : InRange f.top
  pub bottom_in_range : InRange f.bottom

-- n over d, which is never out of range
abbrev pub quotient : ℤ → ℤ → Result Ratio Wide → Type 0
quotient n d (Ok f) = IsRatio f n d
quotient n d (Err w) = ⊥

-- the term a*b - c*d
abbrev pub term : Wide → Result ℤ Wide → Type 0
term t (Ok z) = FitsTerm t × (z ≡ term_value t)
term t (Err w) = (FitsTerm t → ⊥) × (w ≡ t)

-- n over d, made of two terms
abbrev pub two_terms : Wide → Wide → ℤ → ℤ → Result Ratio Wide → Type 0
two_terms s t n d (Ok f) = FitsTerm s × FitsTerm t × IsRatio f n d
two_terms s t n d (Err w) = FirstPasses s t w

-- f + g
abbrev pub add : Ratio → Ratio → Result Ratio Wide → Type 0
add f g = two_terms (sum_top f.top f.bottom g.top g.bottom) (sum_bottom f.top f.bottom g.top g.bottom) ((f.top *ℤ g.bottom) +ℤ (g.top *ℤ f.bottom)) (f.bottom *ℤ g.bottom)

-- f * g
abbrev pub mul : Ratio → Ratio → Result Ratio Wide → Type 0
mul f g = two_terms (product_top f.top f.bottom g.top g.bottom) (product_bottom f.top f.bottom g.top g.bottom) (f.top *ℤ g.top) (f.bottom *ℤ g.bottom)

-- x + y, of whole numbers
abbrev pub whole_sum : ℤ → ℤ → Result ℤ Wide → Type 0
whole_sum x y = term (sum_term x y)

-- x * y, of whole numbers
abbrev pub whole_product : ℤ → ℤ → Result ℤ Wide → Type 0
whole_product x y = term (product_term x y)

-- the least common multiple of x and y
abbrev pub common_multiple : ℤ → ℤ → Result ℤ Wide → Type 0
common_multiple x y = whole_product (int_div x (int_gcd x y)) y

-- the least common multiple of several numbers, two at a time; 1 of none
abbrev pub multiple_of_all : List ℤ → Result ℤ Wide → Type 0
multiple_of_all = joined common_multiple gives (pos 1)
