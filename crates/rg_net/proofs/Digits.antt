-- A number and what follows it are told by their text, where no digit follows the number.
use Rattle.std.proofs.Common.{◌≡◌, ℕ, ◌<◌, ◌≤◌, ◌==◌, ◌^◌, true, false, List, [], ◌∷◌, ◌++◌, length, decimal, refl, sym, ap, ◌∙◌, arith}
use Rattle.std.specs.Char.{is_ascii_digit}
use Rattle.std.specs.Str.Parse.{AllDigits, digits_value}
use Rattle.std.proofs.lemmas.Fmt.{decimal_is_IsNumeral_wide}
use Rattle.std.proofs.lemmas.Str.Parse.{digit_from_value}
use Rattle.std.proofs.lemmas.Bool.{eqb-false, true≢false}
use Rattle.std.proofs.lemmas.Bool.Decides.{nat_tests}
use Rattle.rg_text.specs.Byte.{StopsAt}

-- numbers whose decimals have all their digits
abbrev pub IsPrinted : ℕ → Type 0
IsPrinted n = n < 10 ^ 64

-- digits alone
abbrev pub AreDigits : List ℕ → Type 0
AreDigits [] = Unit {0}
AreDigits (c ∷ cs) = (is_ascii_digit c ≡ true) × AreDigits cs

digits_of_value : (ds : List ℕ) → AllDigits 10 ds → AreDigits ds
digits_of_value [] h = tt
digits_of_value (c ∷ cs) h = (one c (digit_from_value c h.0), digits_of_value cs h.1)
  where
    one : (c : ℕ) → (48 ≤ c) × (c ≤ 57) → is_ascii_digit c ≡ true
    one c h = grind (arith, nat_tests)

pub decimal_digits : (n : ℕ) → IsPrinted n → AreDigits (decimal n)
decimal_digits n h = digits_of_value (decimal n) (decimal_is_IsNumeral_wide n h).0.1

-- the rest of a list is told by the whole
pub same_rest : (a : ℕ) (xs ys : List ℕ) → a ∷ xs ≡ a ∷ ys → xs ≡ ys
same_rest a xs ys same = cc

-- lists with different first bytes differ
pub heads_apart : (a b : ℕ) (xs ys : List ℕ) → (a == b) ≡ false → a ∷ xs ≡ b ∷ ys → ⊥
heads_apart a b xs ys e same = let first : a ≡ b = cc in eqb-false a b e first

-- what begins with a digit differs from what begins with another byte
pub digit_apart : (a b : ℕ) (xs ys : List ℕ) → is_ascii_digit a ≡ true → is_ascii_digit b ≡ false → a ∷ xs ≡ b ∷ ys → ⊥
digit_apart a b xs ys digit other same = let first : a ≡ b = cc in true≢false (sym digit ∙ ap is_ascii_digit first ∙ other)

-- digits, and what follows them without a digit, are told by the whole
pub split_digits : (ds es x y : List ℕ) → AreDigits ds → AreDigits es → StopsAt is_ascii_digit x → StopsAt is_ascii_digit y
    → ds ++ x ≡ es ++ y → (ds ≡ es) × (x ≡ y)
split_digits [] [] x y d e p q same = (refl, same)
split_digits [] (b ∷ es) [] y d e p q same = absurd cc
split_digits [] (b ∷ es) (a ∷ x) y d e p q same =
    absurd (digit_apart b a _ _ e.0 p (sym same))
split_digits (a ∷ ds) [] x [] d e p q same = absurd cc
split_digits (a ∷ ds) [] x (b ∷ y) d e p q same =
    absurd (digit_apart a b _ _ d.0 q same)
split_digits (a ∷ ds) (b ∷ es) x y d e p q same =
    let first : a ≡ b = cc in
    let rest = split_digits ds es x y d.1 e.1 p q cc in
    (cc, rest.1)

pub same_decimal : (m n : ℕ) → IsPrinted m → IsPrinted n → decimal m ≡ decimal n → m ≡ n
same_decimal m n h k same =
    sym (decimal_is_IsNumeral_wide m h).1 ∙ ap (digits_value 10) same ∙ (decimal_is_IsNumeral_wide n k).1

-- a number and what follows it are told by the whole
pub told_number : (m n : ℕ) (x y : List ℕ) → IsPrinted m → IsPrinted n → StopsAt is_ascii_digit x → StopsAt is_ascii_digit y
    → decimal m ++ x ≡ decimal n ++ y → (m ≡ n) × (x ≡ y)
told_number m n x y h k p q same =
    let parts = split_digits (decimal m) (decimal n) x y (decimal_digits m h) (decimal_digits n k) p q same in
    (same_decimal m n h k parts.0, parts.1)

-- a number begins with a digit
pub first_digit : (n : ℕ) → IsPrinted n → (d : ℕ) × (ds : List ℕ) × (is_ascii_digit d ≡ true) × (decimal n ≡ d ∷ ds)
first_digit n h = by (decimal n) (decimal_is_IsNumeral_wide n h).0.0 (decimal_digits n h)
  where
    by : (ds : List ℕ) → 0 < length ds → AreDigits ds → (d : ℕ) × (es : List ℕ) × (is_ascii_digit d ≡ true) × (ds ≡ d ∷ es)
    by [] some all = absurd (omega arith)
    by (d ∷ ds) some all = (d, ds, all.0, refl)

-- a number differs from what begins with another byte than a digit
pub number_apart : (n b : ℕ) (xs ys : List ℕ) → IsPrinted n → is_ascii_digit b ≡ false → decimal n ++ xs ≡ b ∷ ys → ⊥
number_apart n b xs ys h other same =
    let d = first_digit n h in
    digit_apart d.0 b (d.1 ++ xs) ys d.2 other (ap (λ l. l ++ xs) (sym d.3) ∙ same)
