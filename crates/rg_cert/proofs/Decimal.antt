-- Numbers and the texts that write them.
use Rattle.std.proofs.Common.{◌≡◌, ◌≢◌, inl, inr, ℕ, zero, suc, ◌+◌, ◌*◌, ◌/◌, ◌%◌, ◌<◌, ◌≤◌, ◌^◌, Bool, true, false, ◌&&◌, List, [], ◌∷◌, ◌++◌, length, take, get_or, decimal, All, ℤ, pos, negsuc, neg_ℤ, nat_abs, refl, sym, ap, ap₂, subst, ◌∙◌, arith, length-append}
use Rattle.std.specs.List.{list_all}
use Rattle.std.specs.Char.{is_ascii_digit, digit_value}
use Rattle.std.specs.Fmt.{signed_decimal}
use Rattle.std.specs.Str.Parse.{digits_value, digits_value_after}
use Rattle.std.proofs.lemmas.Bool.Decides.{nat_tests}
use Rattle.std.proofs.lemmas.Fmt.{decimal_digit, decimal_step_wide, decimal_by_steps_wide, decimal_is_IsNumeral_wide}
use Rattle.std.proofs.lemmas.Int.Digits.{digits_value_push}
use Rattle.std.proofs.lemmas.List.{drop_more, drop_all, take-append-drop, length-take-le, get_or-take, get_or_append_left}
use Rattle.std.proofs.lemmas.List.Folds.{list_all-append}
use Rattle.std.proofs.lemmas.List.Sums.{AllPass-from_list_all}
use Rattle.std.proofs.lemmas.List.Elements.{All-weaker, All-cons}
use Rattle.rg_cert.specs.Numerals.{IsPlain, IsNumeral}
use Rattle.rg_cert.proofs.Digits.{no_minus}

after_ge : (n : ℕ) (cs : List ℕ) → n ≤ digits_value_after 10 n cs
after_ge n [] = omega arith
after_ge n (c ∷ cs) = omega (arith, after_ge (n * 10 + digit_value c) cs)

digit_is : (c : ℕ) → is_ascii_digit c ≡ true → (digit_value c < 10) × (c ≡ 48 + digit_value c)
digit_is c is = (grind (arith, nat_tests), grind (arith, nat_tests))

-- the front and the last of a list
front_last : (m : ℕ) (xs : List ℕ) → length xs ≡ suc m → xs ≡ take m xs ++ get_or xs m 0 ∷ []
front_last m xs long =
    let less : m < length xs = omega arith in
    sym (take-append-drop m xs) ∙ ap (λ l. take m xs ++ l) (drop_more xs m 0 less ∙ ap (λ l. get_or xs m 0 ∷ l) (drop_all (m + 1) xs (omega arith)))

both_pass : (xs ys : List ℕ) → list_all is_ascii_digit (xs ++ ys) ≡ true → (list_all is_ascii_digit xs ≡ true) × (list_all is_ascii_digit ys ≡ true)
both_pass xs ys h = by (list_all is_ascii_digit xs) (list_all is_ascii_digit ys) (sym (list_all-append is_ascii_digit xs ys) ∙ h)
  where
    by : (a b : Bool) → (a && b) ≡ true → (a ≡ true) × (b ≡ true)
    by true b h = (refl, h)
    by false b h = absurd cc

and_true : (b : Bool) → (b && true) ≡ true → b ≡ true
and_true true h = refl
and_true false h = absurd cc

-- a plain number that begins with another digit than 0 isn't 0
some_value : (ds : List ℕ) → IsPlain ds → get_or ds 0 0 ≢ 48 → 0 < digits_value 10 ds
some_value [] is other = let some = is.some in absurd (omega arith)
some_value (c ∷ cs) is other =
    let digit = digit_is c (and_true (is_ascii_digit c) (both_pass (c ∷ []) cs is.each).0) in
    omega (arith, after_ge (0 * 10 + digit_value c) cs, digit.1, other)

start : (d : ℕ) → 0 * 10 + d ≡ d
start d = omega arith

-- a plain number is what is written of its value
plain_from : (m : ℕ) (ds : List ℕ) → length ds ≡ suc m → IsPlain ds → digits_value 10 ds < 10 ^ 64 → ds ≡ decimal (digits_value 10 ds)
plain_from zero ds long is small =
    let whole = front_last 0 ds long in
    let digit = digit_is (get_or ds 0 0) (and_true (is_ascii_digit (get_or ds 0 0)) (both_pass (take 0 ds) (get_or ds 0 0 ∷ []) (subst (λ l. list_all is_ascii_digit l ≡ true) whole is.each)).1) in
    let value : digits_value 10 ds ≡ digit_value (get_or ds 0 0) = ap (digits_value 10) whole ∙ start (digit_value (get_or ds 0 0)) in
    whole ∙ ap (λ c. c ∷ []) digit.1 ∙ sym (decimal_digit (digit_value (get_or ds 0 0)) digit.0) ∙ ap decimal (sym value)
plain_from (suc m) ds long is small =
    let front = take (suc m) ds in
    let last = get_or ds (suc m) 0 in
    let whole = front_last (suc m) ds long in
    let parts = both_pass front (last ∷ []) (subst (λ l. list_all is_ascii_digit l ≡ true) whole is.each) in
    let digit = digit_is last (and_true (is_ascii_digit last) parts.1) in
    let short : length front ≡ suc m = length-take-le (suc m) ds (omega arith) in
    let same : get_or front 0 0 ≡ get_or ds 0 0 = get_or-take (suc m) ds 0 0 (omega arith) in
    let other : get_or front 0 0 ≢ 48 = λ zero. omega (arith, is.first (sym same ∙ zero)) in
    let plain : IsPlain front = record { some = omega arith; each = parts.0; first = λ zero. absurd (other zero) } in
    let value : digits_value 10 ds ≡ digits_value 10 front * 10 + digit_value last =
    ap (digits_value 10) whole ∙ digits_value_push 10 front last in
    let some = some_value front plain other in
    let v = digits_value 10 ds in
    let ten : 10 ≤ v = omega (arith, value, some) in
    let tens : v / 10 ≡ digits_value 10 front = omega (arith, value, digit.0) in
    let ones : v % 10 ≡ digit_value last = omega (arith, value, digit.0) in
    whole ∙ ap₂ (λ a b. a ++ b ∷ []) (plain_from m front short plain (omega (arith, value, small)) ∙ ap decimal (sym tens)) (digit.1 ∙ ap (λ d. 48 + d) (sym ones))
    ∙ sym (decimal_step_wide v ten small)

pub plain_decimal : (ds : List ℕ) → IsPlain ds → digits_value 10 ds < 10 ^ 64 → ds ≡ decimal (digits_value 10 ds)
plain_decimal [] is small = let some = is.some in absurd (omega arith)
plain_decimal (c ∷ cs) is small = plain_from (length cs) (c ∷ cs) refl is small

-- what is written of a number is plain, and begins with 0 for 0 alone
record IsWritten (n : ℕ) (ds : List ℕ) : Type 0 where
  pub plain : IsPlain ds
  pub zero : get_or ds 0 0 ≡ 48 → n ≡ 0

written : (n : ℕ) → n < 10 ^ 64 → IsWritten n (decimal n)
written n small = decimal_by_steps_wide (λ m ds. IsWritten m ds) one more n small
  where
    passes : (d : ℕ) → d < 10 → is_ascii_digit (48 + d) ≡ true
    passes d less = grind (arith, nat_tests)

    one : (m : ℕ) → m < 10 → IsWritten m ((48 + m) ∷ [])
    one m less = record { plain = record { some = omega arith; each = ap (λ b. b && true) (passes m less); first = λ is. refl }; zero = λ is. omega arith }

    more : (m : ℕ) (ds : List ℕ) → 10 ≤ m → IsWritten (m / 10) ds → IsWritten m (ds ++ ((48 + m % 10) ∷ []))
    more m ds ge is =
        let some = is.plain.some in
        let first : get_or (ds ++ ((48 + m % 10) ∷ [])) 0 0 ≡ get_or ds 0 0 = get_or_append_left ds ((48 + m % 10) ∷ []) 0 0 some in
        let none : get_or (ds ++ ((48 + m % 10) ∷ [])) 0 0 ≡ 48 → ⊥ = λ e. omega (arith, is.zero (sym first ∙ e), ge) in
        record {
          plain = record {
            some = omega (arith, length-append ds ((48 + m % 10) ∷ []));
            each = list_all-append is_ascii_digit ds ((48 + m % 10) ∷ []) ∙ ap₂ ◌&&◌ is.plain.each (ap (λ b. b && true) (passes (m % 10) (omega arith)));
            first = λ e. absurd (none e);
          };
          zero = λ e. absurd (none e);
        }

pub decimal_plain : (n : ℕ) → n < 10 ^ 64 → IsPlain (decimal n)
decimal_plain n small = (written n small).plain

pub decimal_value : (n : ℕ) → n < 10 ^ 64 → digits_value 10 (decimal n) ≡ n
decimal_value n small = (decimal_is_IsNumeral_wide n small).1

-- what is written of a whole number is a numeral of it
pub written_numeral : (z : ℤ) → nat_abs z < 10 ^ 64 → IsNumeral (signed_decimal z) z
written_numeral (pos n) small = inl (decimal_plain n small, ap pos (sym (decimal_value n small)))
written_numeral (negsuc n) small =
    inr (
      decimal (suc n),
      refl,
      decimal_plain (suc n) (omega arith),
      (λ e. omega (arith, sym (decimal_value (suc n) (omega arith)) ∙ ap (digits_value 10) e)),
      ap (λ v. neg_ℤ (pos v)) (sym (decimal_value (suc n) (omega arith))),
    )

-- a numeral is what is written of its number
pub numeral_text : (text : List ℕ) (z : ℤ) → IsNumeral text z → nat_abs z < 10 ^ 64 → text ≡ signed_decimal z
numeral_text text z (inl (plain, value)) small =
    plain_decimal text plain (subst (λ y. nat_abs y < 10 ^ 64) value small) ∙ ap signed_decimal (sym value)
numeral_text text z (inr (ds, is, plain, other, value)) small = by (digits_value 10 ds) refl
  where
    by : (v : ℕ) → digits_value 10 ds ≡ v → text ≡ signed_decimal z
    by zero e = absurd (other (plain_decimal ds plain (omega (arith, e)) ∙ ap decimal e ∙ decimal_digit 0 (omega arith)))
    by (suc n) e =
        let is_z : z ≡ negsuc n = value ∙ ap (λ v. neg_ℤ (pos v)) e in
        let few : suc n < 10 ^ 64 = subst (λ y. nat_abs y < 10 ^ 64) is_z small in
        is ∙ ap (λ l. 45 ∷ l) (plain_decimal ds plain (omega (arith, e, few)) ∙ ap decimal e) ∙ ap signed_decimal (sym is_z)

-- a text is a numeral of one number
pub one_number : (text : List ℕ) (y z : ℤ) → IsNumeral text y → IsNumeral text z → y ≡ z
one_number text y z (inl (p, e)) (inl (q, f)) = e ∙ sym f
one_number text y z (inl (p, e)) (inr (ds, is, q, other, f)) = absurd (no_minus ds (subst IsPlain is p))
one_number text y z (inr (ds, is, q, other, f)) (inl (p, e)) = absurd (no_minus ds (subst IsPlain is p))
one_number text y z (inr (ds, is, p, other, e)) (inr (cs, is', q, other', f)) =
    let both = sym is ∙ is' in
    let same : ds ≡ cs = cc in
    e ∙ ap (λ l. neg_ℤ (pos (digits_value 10 l))) same ∙ sym f

ascii_digit : (b : ℕ) → is_ascii_digit b ≡ true → (32 < b) × (b < 128)
ascii_digit b is = (grind (arith, nat_tests), grind (arith, nat_tests))

plain_shown : (ds : List ℕ) → IsPlain ds → All (λ b. (32 < b) × (b < 128)) ds
plain_shown ds is = All-weaker (λ b. is_ascii_digit b ≡ true) (λ b. (32 < b) × (b < 128)) ascii_digit ds (AllPass-from_list_all is_ascii_digit ds is.each)

-- the bytes of a numeral are ASCII, and neither spaces nor line feeds
pub numeral_shown : (text : List ℕ) (z : ℤ) → IsNumeral text z → All (λ b. (32 < b) × (b < 128)) text
numeral_shown text z (inl (plain, value)) = plain_shown text plain
numeral_shown text z (inr (ds, is, plain, other, value)) =
    subst (All (λ b. (32 < b) × (b < 128))) (sym is) (All-cons (λ b. (32 < b) × (b < 128)) 45 ds (omega arith, omega arith) (plain_shown ds plain))
