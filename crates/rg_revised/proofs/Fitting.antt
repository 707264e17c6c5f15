-- Bounds on the numbers of two relations, and the terms that are formed of them.
use Rattle.std.proofs.Common.{◌≡◌, ℕ, zero, suc, ◌+◌, ◌*◌, ◌^◌, ◌<◌, ◌≤◌, List, [], ◌∷◌, ◌++◌, map, Some, subst, arith}
use Rattle.std.specs.Prelude.{ℤ, pos, neg_ℤ, ◌*ℤ◌, unsigned_abs, slice_get}
use Rattle.std.proofs.lemmas.Option.{same_Some, none-some}
use Rattle.rg_integers.specs.declared.term.Wide.{Wide}
use Rattle.rg_integers.specs.Term.{term_value, FitsTerm}
use Rattle.rg_integers.specs.Range.{InRange}
use Rattle.rg_integers.specs.Sign.{sign, size}
use Rattle.rg_integers.proofs.Signs.{abs-minus, abs-times, abs-neg, abs-signed}
use Rattle.rg_linear.specs.System.{LinearSystem}
use Rattle.rg_linear.specs.Dictionary.{Relation, DictionaryRow}
use Rattle.rg_linear.specs.Exchange.{without, terms, AllFit}
use Rattle.rg_revised.specs.Basis.{IsWithin}

-- no number of a relation over the set passes b
abbrev pub AllWithin : LinearSystem → ℕ → List ℕ → Type 0
AllWithin system b members = (w : ℕ) (k : Relation) → DictionaryRow system members w k → IsWithin b k

-- the outer numbers of a term aren't above a, and the inner ones not above b
record IsBounded (a b : ℕ) (t : Wide) : Type 0 where
  pub a' : unsigned_abs t.a ≤ a
  pub b' : unsigned_abs t.b ≤ b
  pub c' : unsigned_abs t.c ≤ b
  pub d' : unsigned_abs t.d ≤ a

terms_bounded : (a b : ℕ) (members : List ℕ) (k : Relation) (j : ℕ) (l : Relation) → IsWithin b k → IsWithin a l → (n : ℕ) (t : Wide) → slice_get (terms members k j l) n ≡ Some t → IsBounded a b t
terms_bounded a b members k j l g h n t e = at n e
  where
    none : (m : ℕ) → unsigned_abs (pos 0) ≤ m
    none m = omega arith

    q : unsigned_abs (size (k.coefficient j)) ≤ b
    q = g.coefficients j

    middle : ℕ → Wide
    middle m = record { a = l.coefficient m; b = size (k.coefficient j); c = sign (k.coefficient j) *ℤ k.coefficient m; d = l.coefficient j }

    last : Wide
    last = record { a = pos 0; b = size (k.coefficient j); c = neg_ℤ (sign (k.coefficient j) *ℤ k.d); d = l.coefficient j }

    rest : (ms : List ℕ) (n : ℕ) → slice_get (map middle ms ++ last ∷ []) n ≡ Some t → IsBounded a b t
    rest [] zero e = subst (IsBounded a b) (same_Some last t e) (record { a' = none a; b' = q; c' = abs-neg _ b (abs-signed (k.coefficient j) k.d b g.d); d' = h.coefficients j })
    rest [] (suc n) e = absurd (none-some t e)
    rest (m ∷ ms) zero e = subst (IsBounded a b) (same_Some (middle m) t e)
        (record { a' = h.coefficients m; b' = q; c' = abs-signed (k.coefficient j) (k.coefficient m) b (g.coefficients m); d' = h.coefficients j })
    rest (m ∷ ms) (suc n) e = rest ms n e

    first : Wide
    first = record { a = l.d; b = size (k.coefficient j); c = pos 0; d = pos 0 }

    second : Wide
    second = record { a = l.constant; b = size (k.coefficient j); c = sign (k.coefficient j) *ℤ k.constant; d = l.coefficient j }

    at : (n : ℕ) → slice_get (first ∷ second ∷ (map middle (without j members) ++ last ∷ [])) n ≡ Some t → IsBounded a b t
    at zero e = subst (IsBounded a b) (same_Some first t e) (record { a' = h.d; b' = q; c' = none b; d' = none a })
    at (suc zero) e = subst (IsBounded a b) (same_Some second t e) (record { a' = h.constant; b' = q; c' = abs-signed (k.coefficient j) k.constant b g.constant; d' = h.coefficients j })
    at (suc (suc n)) e = rest (without j members) n e

bounded_fits : (a b : ℕ) (t : Wide) → a * b < 2 ^ 126 → IsBounded a b t → FitsTerm t
bounded_fits a b t small g = record {
  left = half (t.a *ℤ t.b) left;
  right = other (t.c *ℤ t.d) right;
  difference = whole (term_value t) (abs-minus (t.a *ℤ t.b) (t.c *ℤ t.d) (a * b) (b * a) left right);
}
  where
    left : unsigned_abs (t.a *ℤ t.b) ≤ a * b
    left = abs-times t.a t.b a b g.a' g.b'

    right : unsigned_abs (t.c *ℤ t.d) ≤ b * a
    right = abs-times t.c t.d b a g.c' g.d'

    half : (z : ℤ) → unsigned_abs z ≤ a * b → InRange z
    half z h = omega arith

    other : (z : ℤ) → unsigned_abs z ≤ b * a → InRange z
    other z h = omega arith

    whole : (z : ℤ) → unsigned_abs z ≤ a * b + b * a → InRange z
    whole z h = omega arith

-- where the numbers of all relations, and those of the pivot's, are small, the exchange has no term out of range
pub fits_where_small : (system : LinearSystem) (members : List ℕ) (i j a b : ℕ) → AllWithin system a members → ((k : Relation) → DictionaryRow system members i k → IsWithin b k) → a * b < 2 ^ 126
    → AllFit system members i j
fits_where_small system members i j a b all pivot small w n t is =
    bounded_fits a b t small (terms_bounded a b members is.k j is.l (pivot is.k is.pivot) (all w is.l is.target) n t is.here)
