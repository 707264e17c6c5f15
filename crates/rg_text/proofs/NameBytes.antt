-- The digits of a number are bytes of names, and names are found among others.
use Rattle.std.proofs.Common.{◌≡◌, ℕ, zero, suc, ◌+◌, ◌<◌, ◌≤◌, ◌^◌, ◌%◌, ◌||◌, Bool, true, false, List, [], ◌∷◌, ◌++◌, length, map, decimal, Contains, bytes_eq, refl, sym, ap, arith}
use Rattle.std.specs.List.{AllPass, list_any}
use Rattle.std.proofs.lemmas.Bool.{or_right, false_from_ne_true}
use Rattle.std.proofs.lemmas.Bool.Decides.{nat_tests}
use Rattle.std.proofs.lemmas.Fmt.{decimal_by_steps_wide}
use Rattle.std.proofs.lemmas.List.Elements.{All-push}
use Rattle.std.proofs.lemmas.List.Sums.{AllPass-from_list_all}
use Rattle.std.proofs.lemmas.Slice.Eq.{bytes_eq-Decides}
use Rattle.rg_text.specs.Byte.{is_name_byte}

pub digit_byte : (d : ℕ) → d < 10 → is_name_byte (48 + d) ≡ true
digit_byte d lt = grind (arith, nat_tests)

pub decimal_passes : (n : ℕ) → n < 2 ^ 32 → AllPass is_name_byte (decimal n)
decimal_passes n lt = decimal_by_steps_wide (λ m ds. AllPass is_name_byte ds) one more n (omega arith)
  where
    push : (ds : List ℕ) (d : ℕ) → d < 10 → AllPass is_name_byte ds → AllPass is_name_byte (ds ++ (48 + d) ∷ [])
    push ds d lt all = All-push (λ b. is_name_byte b ≡ true) ds (48 + d) all (digit_byte d lt)

    one : (m : ℕ) → m < 10 → AllPass is_name_byte ((48 + m) ∷ [])
    one m lt = push [] m lt (AllPass-from_list_all is_name_byte [] refl)

    more : (m : ℕ) (ds : List ℕ) → 10 ≤ m → AllPass is_name_byte ds → AllPass is_name_byte (ds ++ ((48 + m % 10) ∷ []))
    more m ds ge all = push ds (m % 10) (omega arith) all

-- a name that is among the texts is found
pub contains_any : {X : Type 0} (text : X → List ℕ) (name : List ℕ) (xs : List X) → Contains (map text xs) name → list_any (λ x. bytes_eq name (text x)) xs ≡ true
contains_any text name [] (k, lt, e) = absurd (omega arith)
contains_any text name (x ∷ xs) (zero, lt, e) = ap (λ b. b || list_any (λ x. bytes_eq name (text x)) xs) ((bytes_eq-Decides name (text x)).1 (sym e))
contains_any text name (x ∷ xs) (suc k, lt, e) =
    or_right (bytes_eq name (text x)) (list_any (λ x. bytes_eq name (text x)) xs) (contains_any text name xs (k, omega arith, e))

pub any_contains : {X : Type 0} (text : X → List ℕ) (name : List ℕ) (xs : List X) → list_any (λ x. bytes_eq name (text x)) xs ≡ true → Contains (map text xs) name
any_contains text name [] e = absurd cc
any_contains text name (x ∷ xs) e = by (bytes_eq name (text x)) refl e (any_contains text name xs)
  where
    by : (b : Bool) → bytes_eq name (text x) ≡ b → (b || list_any (λ x. bytes_eq name (text x)) xs) ≡ true
        → (list_any (λ x. bytes_eq name (text x)) xs ≡ true → Contains (map text xs) name) → Contains (map text (x ∷ xs)) name
    by true h e more = (zero, omega arith, sym ((bytes_eq-Decides name (text x)).0 h))
    by false h e more = let later = more e in (suc later.0, omega (arith, later.1), later.2)

pub absent_none : {X : Type 0} (text : X → List ℕ) (name : List ℕ) (xs : List X) → (Contains (map text xs) name → ⊥) → list_any (λ x. bytes_eq name (text x)) xs ≡ false
absent_none text name xs absent = false_from_ne_true (list_any (λ x. bytes_eq name (text x)) xs) (λ e. absent (any_contains text name xs e))
