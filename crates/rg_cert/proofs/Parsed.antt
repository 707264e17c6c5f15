-- What `parse` makes of numerals.
use Rattle.std.proofs.Common.{rules, ◌≡◌, inl, inr, ⊎_elim, ℕ, zero, suc, ◌<◌, ◌≤◌, ◌^◌, true, List, length, get_or, drop, All, ℤ, pos, neg_ℤ, nat_abs, Option, None, Some, IfSome, IfNone, IsSome, Result, Err, refl, sym, ap, subst, ◌∙◌, arith}
use Rattle.std.specs.List.{list_all}
use Rattle.std.specs.Char.{is_ascii_digit}
use Rattle.std.specs.Result.{OkIff}
use Rattle.std.specs.Str.Parse.{digits_value, ParsesSigned}
use Rattle.std.proofs.lemmas.Bool.{cases_lt}
use Rattle.std.proofs.lemmas.List.Elements.{All-weaker}
use Rattle.std.proofs.lemmas.Str.Parse.{parse_signed_digits, parse_signed_minus}
use Rattle.rg_theory.proofs.ClassTexts.{numerals}
use Rattle.rg_cert.specs.Numerals.{IsNumeral}
use Rattle.rg_cert.proofs.Decimal.{numeral_shown, one_number}
use mir.Syntax.{w128}

abs_minus : (v : ℕ) → nat_abs (neg_ℤ (pos v)) ≡ v
abs_minus zero = refl
abs_minus (suc v) = omega arith

-- a numeral that is no number of 128 bits is wide
pub refused_is_wide : {E : Type 0} (text : List ℕ) (z : ℤ) (r : Result ℤ E) (e : E) → r ≡ Err e → ParsesSigned w128 10 text r → IsNumeral text z → 2 ^ 127 ≤ nat_abs z
refused_is_wide {E} text z r e is parses (inl (plain, value)) =
    let refused : (0 < length text) × (digits_value 10 text < 2 ^ 127) → ⊥ =
    subst (λ (o : Result ℤ E). OkIff o ((0 < length text) × (digits_value 10 text < 2 ^ 127)) (pos (digits_value 10 text))) is
    (parse_signed_digits numerals w128 text r parses plain.each) in
    ⊎_elim (λ within. absurd (refused (plain.some, within))) (λ over. subst (λ y. 2 ^ 127 ≤ nat_abs y) (sym value) over) (cases_lt (digits_value 10 text) (2 ^ 127))
refused_is_wide {E} text z r e is parses (inr (ds, as_minus, plain, other, value)) =
    let first : get_or text 0 0 ≡ 45 = ap (λ l. get_or l 0 0) as_minus in
    let rest : drop 1 text ≡ ds = ap (drop 1) as_minus in
    let refused : (list_all is_ascii_digit (drop 1 text) ≡ true) × (0 < length (drop 1 text)) × (digits_value 10 (drop 1 text) ≤ 2 ^ 127) → ⊥ =
    subst (λ (o : Result ℤ E). OkIff o ((list_all is_ascii_digit (drop 1 text) ≡ true) × (0 < length (drop 1 text))
    × (digits_value 10 (drop 1 text) ≤ 2 ^ 127)) (neg_ℤ (pos (digits_value 10 (drop 1 text))))) is
    (parse_signed_minus numerals w128 text r parses first) in
    let size : nat_abs z ≡ digits_value 10 ds = ap nat_abs value ∙ abs_minus (digits_value 10 ds) in
    ⊎_elim
    (λ within. absurd (refused (subst (λ l. (list_all is_ascii_digit l ≡ true) × (0 < length l) × (digits_value 10 l ≤ 2 ^ 127)) (sym rest) (plain.each, plain.some, omega (arith, within)))))
    (λ over. omega (arith, over, size)) (cases_lt (digits_value 10 ds) (2 ^ 127))

pub numeral_ascii : (text : List ℕ) (z : ℤ) → IsNumeral text z → All (λ b. b < 128) text
numeral_ascii text z is = All-weaker (λ b. (32 < b) × (b < 128)) (λ b. b < 128) (λ b h. h.1) text (numeral_shown text z is)

-- the number that a text is read as is the number that it writes
pub read_number : (text : List ℕ) (o : Option ℤ) (y z : ℤ) → IfSome o (IsNumeral text) → o ≡ Some y → IsNumeral text z → (IsNumeral text y) × (z ≡ y)
read_number text o y z some is numeral =
    let read : IsNumeral text y = subst (λ p. IfSome p (IsNumeral text)) is some in
    (read, one_number text z y numeral read)

-- a number below 2^127 in size is read
pub read_small : (text : List ℕ) (o : Option ℤ) (z : ℤ) → IfNone o ((y : ℤ) → IsNumeral text y → 2 ^ 127 ≤ nat_abs y) → IsNumeral text z → nat_abs z < 2 ^ 127 → IsSome o
read_small text None z none is small = let wide = none z is in absurd (omega arith)
read_small text (Some y) z none is small = search rules
