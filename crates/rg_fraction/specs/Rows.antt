-- The elimination of an entry of a row of numbers by another row.
use Rattle.std.specs.Prelude.{ℕ, ◌≡◌, ◌<◌, List, length, ℤ, pos, ◌*ℤ◌, unsigned_abs}
use Rattle.rg_integers.specs.Divisor.{IsGcdBelow}
use Rattle.rg_integers.specs.Sum.{number_at}
use Rattle.rg_integers.specs.declared.term.Wide.{Wide}
use Rattle.rg_integers.specs.Term.{FitsTerm, term_value}

-- the term at index k of the elimination of q's entry at j by p
abbrev pub row_term : List ℤ → List ℤ → ℕ → ℕ → Wide
row_term p q j k = record { a = number_at q k; b = number_at p j; c = number_at p k; d = number_at q j }

-- the first k at which the term passes is this one
pub record FirstTerm (p q : List ℤ) (j k : ℕ) : Type 0 where
  pub inside : k < length q
  pub passes : FitsTerm (row_term p q j k) → ⊥
  pub before : (i : ℕ) → i < k → FitsTerm (row_term p q j i)

-- every term of the row fits
abbrev pub RowFits : List ℤ → List ℤ → ℕ → Type 0
RowFits p q j = (k : ℕ) → k < length q → FitsTerm (row_term p q j k)

-- w is the first term that passes
abbrev pub IsFirstWide : List ℤ → List ℤ → ℕ → Wide → Type 0
IsFirstWide p q j w = (k : ℕ) × FirstTerm p q j k × (w ≡ row_term p q j k)

-- the row of the terms
pub record IsCrossed (p q : List ℤ) (j : ℕ) (r : List ℤ) : Type 0 where
  pub same_length : length r ≡ length q
  pub terms : (k : ℕ) → k < length q → number_at r k ≡ term_value (row_term p q j k)

-- g is the greatest common divisor of the row's numbers
abbrev pub IsRowGcd : List ℤ → ℕ → Type 0
IsRowGcd r g = IsGcdBelow (length r) (λ k. unsigned_abs (number_at r k)) g

-- s is r divided by its greatest common divisor, or r where that is 0
pub record IsPrimitivePart (r s : List ℤ) (g : ℕ) : Type 0 where
  pub divisor : IsRowGcd r g
  pub same_length : length s ≡ length r
  pub zeros : g ≡ 0 → s ≡ r
  pub quotients : 0 < g → (k : ℕ) → k < length r → number_at s k *ℤ pos g ≡ number_at r k

-- s is q after the elimination of its entry at j by p
pub record IsEliminated (p q : List ℤ) (j : ℕ) (s : List ℤ) : Type 0 where
  pub zero : number_at q j ≡ pos 0 → s ≡ q
  pub fits : (number_at q j ≡ pos 0 → ⊥) → RowFits p q j
  pub row : (number_at q j ≡ pos 0 → ⊥) → (r : List ℤ) × (g : ℕ) × IsCrossed p q j r × IsPrimitivePart r s g

-- the call is refused with this term, and the row stays
pub record IsRefused (p q : List ℤ) (j : ℕ) (s : List ℤ) (w : Wide) : Type 0 where
  pub entry : number_at q j ≡ pos 0 → ⊥
  pub stays : s ≡ q
  pub first : IsFirstWide p q j w
