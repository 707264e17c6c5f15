-- A number in decimal digits is a name.
use Rattle.std.proofs.Common.{◌≡◌, ℕ, ◌+◌, ◌%◌, ◌<◌, ◌≤◌, ◌^◌, true, List, [], ◌∷◌, ◌++◌, length, decimal, arith, length-append}
use Rattle.std.specs.List.{AllPass}
use Rattle.std.specs.Char.{is_ascii_digit}
use Rattle.std.proofs.lemmas.Bool.Decides.{nat_tests}
use Rattle.std.proofs.lemmas.Fmt.{decimal_by_steps_wide, length-decimal-le_wide}
use Rattle.std.proofs.lemmas.List.Elements.{All-push, All-nil, All-weaker}
use Rattle.rg_text.specs.Byte.{is_name_byte, IsName}

digit_byte : (d : ℕ) → d < 10 → is_ascii_digit (48 + d) ≡ true
digit_byte d lt = grind (arith, nat_tests)

name_byte : (b : ℕ) → is_ascii_digit b ≡ true → is_name_byte b ≡ true
name_byte b is = grind (arith, nat_tests)

-- there is a digit, and nothing but digits
pub record AreDigits (ds : List ℕ) : Type 0 where
  pub some : 0 < length ds
  pub each : AllPass is_ascii_digit ds

pub decimal_digits : (n : ℕ) → n < 10 ^ 64 → AreDigits (decimal n)
decimal_digits n lt = decimal_by_steps_wide (λ m ds. AreDigits ds) one more n lt
  where
    push : (ds : List ℕ) (d : ℕ) → d < 10 → AllPass is_ascii_digit ds → AllPass is_ascii_digit (ds ++ (48 + d) ∷ [])
    push ds d lt all = All-push (λ b. is_ascii_digit b ≡ true) ds (48 + d) all (digit_byte d lt)

    one : (m : ℕ) → m < 10 → AreDigits ((48 + m) ∷ [])
    one m lt = record { some = omega arith; each = push [] m lt (All-nil (λ b. is_ascii_digit b ≡ true)) }

    more : (m : ℕ) (ds : List ℕ) → 10 ≤ m → AreDigits ds → AreDigits (ds ++ ((48 + m % 10) ∷ []))
    more m ds ge are = record {
      some = omega (arith, length-append ds ((48 + m % 10) ∷ []));
      each = push ds (m % 10) (omega arith) are.each;
    }

pub decimal_name : (n : ℕ) → n < 10 ^ 64 → IsName (decimal n)
decimal_name n lt =
    let are = decimal_digits n lt in
    record {
      some = are.some;
      short = omega (arith, length-decimal-le_wide 64 n (omega arith) lt lt);
      bytes = All-weaker (λ b. is_ascii_digit b ≡ true) (λ b. is_name_byte b ≡ true) name_byte (decimal n) are.each;
    }
