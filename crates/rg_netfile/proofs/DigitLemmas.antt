-- The value of a number of digits alone.
use Rattle.std.proofs.Common.{◌≡◌, ℕ, ◌<◌, ◌^◌, ◌&&◌, true, List, [], ◌∷◌, length, refl, sym, ap, subst, ◌∙◌, ⊎_elim, arith, Result, Err}
use Rattle.std.specs.List.{AllPass, list_all}
use Rattle.std.specs.Char.{is_ascii_digit}
use Rattle.std.specs.Result.{OkIff}
use Rattle.std.specs.Str.{all_ascii_digits}
use Rattle.std.specs.Str.Parse.{digits_value, ParsesUnsigned}
use Rattle.std.proofs.lemmas.Bool.{cases_lt}
use Rattle.std.proofs.lemmas.List.Sums.{list_all-from_AllPass}
use Rattle.std.proofs.lemmas.Str.Parse.{numerals_by_value, tells_all_ascii_digits, parse_digits}
use Rattle.rg_integers.specs.Range.{greatest}

digits_same : (text : List ℕ) → list_all is_ascii_digit text ≡ all_ascii_digits text
digits_same [] = refl
digits_same (c ∷ text) = ap (λ b. is_ascii_digit c && b) (digits_same text)

pub are_digits : (text : List ℕ) → AllPass is_ascii_digit text → all_ascii_digits text ≡ true
are_digits text h = sym (digits_same text) ∙ list_all-from_AllPass is_ascii_digit text h

-- what is no number of 128 bits is over the greatest
pub refused_is_over : {E : Type 0} (text : List ℕ) (r : Result ℕ E) (e : E) → r ≡ Err e → ParsesUnsigned 128 10 text r → AllPass is_ascii_digit text → 0 < length text
    → greatest < digits_value 10 text
refused_is_over {E} text r e is parses digits some =
    let own = numerals_by_value (λ ds. all_ascii_digits ds ≡ true) tells_all_ascii_digits in
    let refused : (0 < length text) × (digits_value 10 text < 2 ^ 128) → ⊥ =
    subst (λ (o : Result ℕ E). OkIff o ((0 < length text) × (digits_value 10 text < 2 ^ 128)) (digits_value 10 text)) is
    (parse_digits own 128 text r parses (are_digits text digits)) in
    ⊎_elim (λ over. over)
    (λ within. absurd (refused (some, omega (arith, within))))
    (cases_lt greatest (digits_value 10 text))
