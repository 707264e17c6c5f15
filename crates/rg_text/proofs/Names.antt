-- A name is ASCII, and so it is UTF-8.
use Rattle.std.proofs.Common.{◌≡◌, ℕ, ◌<◌, true, List, refl, arith, Result, Ok, Err}
use Rattle.std.specs.Result.{MatchResult, IsOk}
use Rattle.std.specs.Str.{IsUtf8}
use Rattle.std.proofs.lemmas.Bool.Decides.{nat_tests}
use Rattle.std.proofs.lemmas.List.Elements.{All-weaker}
use Rattle.std.proofs.lemmas.Str.{IsUtf8-from_ascii}
use Rattle.std.proofs.lemmas.Str.Ascii.{IsAscii-from_all}
use Rattle.rg_text.specs.Byte.{is_name_byte, IsName}

ascii_byte : (b : ℕ) → is_name_byte b ≡ true → b < 128
ascii_byte b passes = grind (arith, nat_tests)

name_utf8 : (name : List ℕ) → IsName name → IsUtf8 name
name_utf8 name is = IsUtf8-from_ascii name
    (IsAscii-from_all name (All-weaker (λ b. is_name_byte b ≡ true) (λ b. b < 128) ascii_byte name is.bytes))

-- what a name is read as is no error
pub read_as_name : {T E : Type 0} (text : List ℕ) (r : Result T E) (P : T → Type 0) (Q : E → Type 0) → MatchResult r P (λ e. (IsUtf8 text → ⊥) × Q e)
    → IsName text → IsOk r
read_as_name text (Ok x) P Q cases is = refl
read_as_name text (Err e) P Q cases is = absurd (cases.0 (name_utf8 text is))
