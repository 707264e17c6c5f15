-- Numbers as they are written: digits, with or without a `-` before them.
use Rattle.std.specs.Prelude.{◌≡◌, ◌≢◌, ◌⊎◌, ℕ, ◌<◌, true, List, [], ◌∷◌, length, slice_index, ℤ, pos, neg_ℤ}
use Rattle.std.specs.List.{list_all}
use Rattle.std.specs.Char.{is_ascii_digit}
use Rattle.std.specs.Str.Parse.{digits_value}

-- one digit or more, and no 0 before others
pub record IsPlain (digits : List ℕ) : Type 0 where
  pub some : 0 < length digits
  pub each : list_all is_ascii_digit digits ≡ true
  pub first : slice_index digits 0 ≡ 48 → length digits ≡ 1

-- the text is a number with `-` or without; 0 has none
abbrev pub IsNumeral : List ℕ → ℤ → Type 0
IsNumeral text z =
    (IsPlain text × (z ≡ pos (digits_value 10 text)))
    ⊎ ((digits : List ℕ) × (text ≡ 45 ∷ digits) × IsPlain digits × (digits ≢ 48 ∷ []) × (z ≡ neg_ℤ (pos (digits_value 10 digits))))
