-- The first prefix that is free, step by step.
use Rattle.std.proofs.Common.{◌≡◌, ℕ, suc, ◌+◌, ◌<◌, ◌||◌, Some, slice_get, Bool, true, false, List, length, drop, take, refl, sym, ap, ◌∙◌, arith}
use Rattle.std.specs.List.{list_any, list_all}
use Rattle.std.specs.Char.{is_ascii_digit}
use Rattle.std.specs.Str.{bytes_eq}
use Rattle.std.proofs.lemmas.Bool.{lt-ltb}
use Rattle.rg_net.specs.NetText.{blocks, candidate, first_free}
use Rattle.rg_text.proofs.Grown.{first_left}

pub free_here : (names : List (List ℕ)) (k m n : ℕ) → n ≡ suc m → list_any (blocks (candidate k)) names ≡ false → first_free names k n ≡ candidate k
free_here names k m n e free = ap (λ n. first_free names k n) e ∙ here
  where
    here : first_free names k (suc m) ≡ candidate k
    here = rw free refl

pub free_later : (names : List (List ℕ)) (k m n : ℕ) → n ≡ suc m → list_any (blocks (candidate k)) names ≡ true
    → first_free names k n ≡ first_free names (k + 1) m
free_later names k m n e blocked = ap (λ n. first_free names k n) e ∙ later
  where
    later : first_free names k (suc m) ≡ first_free names (k + 1) m
    later = rw blocked refl

-- what follows the prefix tells whether the label blocks it
pub blocks_by : (prefix label number : List ℕ) → bytes_eq (take (length prefix) label) prefix ≡ true → number ≡ drop (length prefix) label
    → length number + length prefix ≡ length label
    → 0 < length number → list_all is_ascii_digit number ≡ blocks prefix label
blocks_by prefix label number begins is long some =
    let more = lt-ltb (length prefix) (length label) (omega arith) in
    rw (begins, more) (ap (list_all is_ascii_digit) is)

-- a name that passes settles the test of those that are left, and another leaves it to those after it
pub name_passes : (test : List ℕ → Bool) (names : List (List ℕ)) (t : ℕ) (name read : List ℕ) → slice_get names t ≡ Some name → read ≡ name
    → test read ≡ true
    → list_any test (drop t names) ≡ true
name_passes test names t name read at same passes = ap (list_any test) (first_left names t name at)
    ∙ ap (λ b. b || list_any test (drop (t + 1) names)) (ap test (sym same) ∙ passes)

pub name_fails : (test : List ℕ → Bool) (names : List (List ℕ)) (t : ℕ) (name read : List ℕ) → slice_get names t ≡ Some name → read ≡ name
    → test read ≡ false
    → list_any test (drop t names) ≡ list_any test (drop (t + 1) names)
name_fails test names t name read at same fails = ap (list_any test) (first_left names t name at)
    ∙ ap (λ b. b || list_any test (drop (t + 1) names)) (ap test (sym same) ∙ fails)
