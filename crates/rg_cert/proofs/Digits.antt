-- What numbers look like.
use Rattle.std.proofs.Common.{◌≡◌, ◌≢◌, inl, inr, ℕ, Bool, true, false, not, List, [], ◌∷◌, ℤ, pos, neg_ℤ, refl, sym, subst, ◌∙◌}
use Rattle.std.specs.Str.Parse.{digits_value}
use Rattle.rg_cert.specs.Numerals.{IsPlain, IsNumeral}

-- digits hold no `-`
pub no_minus : (digits : List ℕ) → IsPlain (45 ∷ digits) → ⊥
no_minus digits is = let each = is.each in absurd cc

-- a number that begins with `-`
pub after_minus : (text digits : List ℕ) (z : ℤ) → text ≡ 45 ∷ digits → IsNumeral text z → IsPlain digits × (digits ≢ 48 ∷ [])
after_minus text digits z is (inl plain) = absurd (no_minus digits (subst IsPlain is plain.0))
after_minus text digits z is (inr (ds, at, plain, other, value)) =
    let same : ds ≡ digits = let both = sym at ∙ is in cc in
    (subst IsPlain same plain, subst (λ l. l ≢ 48 ∷ []) same other)

-- a number that doesn't
pub without_minus : (text : List ℕ) (z : ℤ) → ((rest : List ℕ) → text ≢ 45 ∷ rest) → IsNumeral text z → IsPlain text
without_minus text z none (inl plain) = plain.0
without_minus text z none (inr (ds, at, plain, other, value)) = absurd (none ds at)

pub plain_numeral : (text : List ℕ) → IsPlain text → (z : ℤ) × IsNumeral text z
plain_numeral text is = (pos (digits_value 10 text), inl (is, refl))

pub minus_numeral : (text digits : List ℕ) → text ≡ 45 ∷ digits → IsPlain digits → digits ≢ 48 ∷ [] → (z : ℤ) × IsNumeral text z
minus_numeral text digits at is other = (neg_ℤ (pos (digits_value 10 digits)), inr (digits, at, is, other, refl))

pub turned_back : (b : Bool) → (b ≡ true → ⊥) → not b ≡ true
turned_back true other = absurd (other refl)
turned_back false other = refl
