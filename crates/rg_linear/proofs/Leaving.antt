-- The numbers of the new relations: the terms, and their range.
use Rattle.std.proofs.Common.{◌≡◌, ◌≢◌, ◌⊎◌, ℕ, List, [], ◌∷◌, ◌++◌, map, Contains, ap, ap₂, refl, subst, sym, ◌∙◌, inl, inr, arith}
use Rattle.std.specs.Prelude.{ℤ, pos, negsuc, neg_ℤ, ◌-ℤ◌, ◌*ℤ◌, unsigned_abs}
use Rattle.std.specs.Int.{◌∣◌}
use Rattle.std.proofs.lemmas.Int.{ints}
use Rattle.std.proofs.lemmas.Nat.Gcd.{dvd-zero}
use Rattle.rg_linear.specs.System.{LinearSystem}
use Rattle.rg_linear.specs.Dictionary.{Relation, IsPrimitive, DictionaryRow}
use Rattle.rg_integers.specs.declared.term.Wide.{Wide}
use Rattle.rg_integers.specs.Term.{term_value}
use Rattle.rg_integers.specs.Sign.{sign, size}
use Rattle.rg_linear.specs.Exchange.{without, terms, renewed, turned, IsReduced}
use Rattle.rg_integers.proofs.Ring.{ring, one-mul}
use Rattle.rg_integers.proofs.Signs.{abs-negated}
use Rattle.rg_linear.proofs.Members.{equal_or_not, differs, same, Contains-here, Contains-there, without-Contains}

-- the values of the terms are the numbers of the renewed relation, in order
pub terms-values : (members : List ℕ) (k : Relation) (i j : ℕ) (l : Relation) → ¬ Contains members i
    → map term_value (terms members k j l) ≡ (renewed k i j l).d ∷ (renewed k i j l).constant ∷ map (renewed k i j l).coefficient (without j members)
    ++ (renewed k i j l).coefficient i ∷ []
terms-values members k i j l outside = ap₂ (λ a bs. a ∷ (renewed k i j l).constant ∷ bs) (first l.d (size (k.coefficient j)))
    (rest (without j members) (λ has. outside (without-Contains j i members has).0))
  where
    first : (e q : ℤ) → (e *ℤ q) -ℤ (pos 0 *ℤ pos 0) ≡ e *ℤ q
    first e q = omega (arith, ints)

    last : (q h l : ℤ) → (pos 0 *ℤ q) -ℤ (neg_ℤ h *ℤ l) ≡ h *ℤ l
    last q h l = simp ring (omega (arith, ints))

    at : ℕ → Wide
    at m = record { a = l.coefficient m; b = size (k.coefficient j); c = sign (k.coefficient j) *ℤ k.coefficient m; d = l.coefficient j }

    final : Wide
    final = record { a = pos 0; b = size (k.coefficient j); c = neg_ℤ (sign (k.coefficient j) *ℤ k.d); d = l.coefficient j }

    rest : (ms : List ℕ) → ¬ Contains ms i → map term_value (map at ms ++ final ∷ []) ≡ map (renewed k i j l).coefficient ms ++ (renewed k i j l).coefficient i ∷ []
    rest [] outside = ap (λ z. z ∷ []) (last (size (k.coefficient j)) (sign (k.coefficient j) *ℤ k.d) (l.coefficient j) ∙ rw (same i) refl)
    rest (m ∷ ms) outside = ap₂ ◌∷◌ (rw (differs m i (λ e. outside (subst (Contains (m ∷ ms)) e (Contains-here m ms)))) refl) (rest ms (λ has. outside (Contains-there m i ms has)))

size-signed : (s z : ℤ) → unsigned_abs (sign s *ℤ z) ≡ unsigned_abs z
size-signed (pos n) z = ap unsigned_abs (one-mul z)
size-signed (negsuc n) z = omega (arith, ints)

-- the relation of the member that leaves has no common factor
pub turned-primitive : (system : LinearSystem) (members : List ℕ) (i j : ℕ) (k : Relation) → DictionaryRow system members i k → Contains members j → IsPrimitive (turned k i j)
turned-primitive system members i j k row member g gd gc gm = row.primitive g divides_d divides_constant (λ m. divides m (equal_or_not m j) (equal_or_not m i))
  where
    apart : i ≢ j
    apart e = row.outside (subst (Contains members) (sym e) member)

    at_i : (turned k i j).coefficient i ≡ sign (k.coefficient j) *ℤ k.d
    at_i = rw (differs i j apart, same i) refl

    divides_d : g ∣ unsigned_abs k.d
    divides_d = subst (λ n. g ∣ n) (ap unsigned_abs at_i ∙ size-signed (k.coefficient j) k.d) (gm i)

    divides_constant : g ∣ unsigned_abs k.constant
    divides_constant = subst (λ n. g ∣ n) (abs-negated (sign (k.coefficient j) *ℤ k.constant) ∙ size-signed (k.coefficient j) k.constant) gc

    divides : (m : ℕ) → (m ≡ j) ⊎ (m ≢ j) → (m ≡ i) ⊎ (m ≢ i) → g ∣ unsigned_abs (k.coefficient m)
    divides m (inl e) _ = rw e gd
    divides m (inr ne) (inl e) = subst (λ z. g ∣ unsigned_abs z) (sym (ap k.coefficient e ∙ row.over i row.outside)) (dvd-zero g)
    divides m (inr ne) (inr ni) = subst (λ n. g ∣ n) (ap unsigned_abs (at_m ne ni) ∙ abs-negated (sign (k.coefficient j) *ℤ k.coefficient m) ∙ size-signed (k.coefficient j) (k.coefficient m)) (gm m)
      where
        at_m : m ≢ j → m ≢ i → (turned k i j).coefficient m ≡ neg_ℤ (sign (k.coefficient j) *ℤ k.coefficient m)
        at_m ne ni = rw (differs m j ne, differs m i ni) refl

-- so it is reduced already
pub turned_reduced : (system : LinearSystem) (members : List ℕ) (i j : ℕ) (k : Relation) → DictionaryRow system members i k → Contains members j → IsReduced (turned k i j) (turned k i j)
turned_reduced system members i j k row member = record {
  factor = pos 1;
  positive = omega (arith, ints);
  d = sym (one-mul _);
  constant = sym (one-mul _);
  coefficients = λ m. sym (one-mul _);
  primitive = turned-primitive system members i j k row member;
}
