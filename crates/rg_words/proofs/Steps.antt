-- A step that is new, and the names of states.
use Rattle.std.proofs.Common.{◌≡◌, ◌≢◌, ℕ, zero, suc, ◌+◌, ◌<◌, ◌≤◌, ◌^◌, ◌%◌, ◌==◌, Bool, true, false, not, ◌||◌, ◌&&◌, List, [], ◌∷◌, ◌++◌, length, map, Contains, decimal, refl, sym, ap, subst, ◌∙◌, arith}
use Rattle.std.specs.List.{AllPass, list_any, position_or_len, range_with_len}
use Rattle.std.specs.Str.{bytes_eq}
use Rattle.std.specs.Str.Parse.{digits_value}
use Rattle.std.proofs.lemmas.Bool.{or_parts, cond-false}
use Rattle.std.proofs.lemmas.Bool.Decides.{nat_tests}
use Rattle.std.proofs.lemmas.Fmt.{decimal_is_IsNumeral_wide, decimal_by_steps_wide, length-decimal-le_wide}
use Rattle.std.proofs.lemmas.List.Elements.{All-push}
use Rattle.std.proofs.lemmas.List.FromFn.{length-map-range_with_len, get_or-map-range_with_len}
use Rattle.std.proofs.lemmas.List.Sums.{AllPass-from_list_all}
use Rattle.rg_text.specs.Byte.{is_name_byte, IsName}
use Rattle.rg_text.proofs.NameBytes.{digit_byte}
use Rattle.rg_theory.proofs.Lists.{range_more}
use Rattle.rg_line_formats.specs.First.{with_new}
use Rattle.rg_line_formats.proofs.Present.{new_absent}
use Rattle.indexmap.specs.IndexSet.{insert_key}
use Rattle.rg_words.specs.Contents.{state_names}

none_at : (test : ℕ × ℕ → Bool) (keys : List (ℕ × ℕ)) → list_any test keys ≡ false → position_or_len test keys ≡ length keys
none_at test [] e = refl
none_at test (k ∷ keys) e =
    let h = or_parts (test k) (list_any test keys) e in
    rw (h.0, none_at test keys h.1) (omega arith)

any_at : (eq : ℕ × ℕ → ℕ × ℕ → Bool) → ((p : ℕ × ℕ) → eq p p ≡ true) → (keys : List (ℕ × ℕ)) (k : ℕ × ℕ) → Contains keys k → list_any (eq k) keys ≡ true
any_at eq same [] k (i, lt, e) = absurd (omega arith)
any_at eq same (p ∷ keys) k (zero, lt, e) = ap (λ b. b || list_any (eq k) keys) (subst (λ q. eq k q ≡ true) (sym e) (same k))
any_at eq same (p ∷ keys) k (suc i, lt, e) = or_right (eq k p) (list_any (eq k) keys) (any_at eq same keys k (i, omega arith, e))
  where
    or_right : (a b : Bool) → b ≡ true → (a || b) ≡ true
    or_right true b h = refl
    or_right false b h = h

pub fresh : (eq : ℕ × ℕ → ℕ × ℕ → Bool) → ((p : ℕ × ℕ) → eq p p ≡ true) → (keys grown : List (ℕ × ℕ)) (k : ℕ × ℕ) (i : ℕ) (new : Bool)
    → new ≡ not (list_any (eq k) keys) → grown ≡ insert_key eq keys k → i ≡ position_or_len (eq k) keys → new ≢ false
    → (i ≡ length keys) × (grown ≡ keys ++ k ∷ []) × (Contains keys k → ⊥)
fresh eq same keys grown k i new added grows index real = by (list_any (eq k) keys) refl
  where
    by : (b : Bool) → list_any (eq k) keys ≡ b → (i ≡ length keys) × (grown ≡ keys ++ k ∷ []) × (Contains keys k → ⊥)
    by true e = absurd (real (added ∙ ap not e))
    by false e = (
      index ∙ none_at (eq k) keys e,
      grows ∙ cond-false (list_any (eq k) keys) keys (keys ++ k ∷ []) e,
      λ has. (let there = any_at eq same keys k has in cc),
    )

map_more : (f : ℕ → List ℕ) (xs : List ℕ) (x : ℕ) → map f (xs ++ x ∷ []) ≡ map f xs ++ f x ∷ []
map_more f [] x = refl
map_more f (y ∷ xs) x = ap (λ l. f y ∷ l) (map_more f xs x)

pub names_more : (n : ℕ) → state_names (n + 1) ≡ state_names n ++ (115 ∷ decimal n) ∷ []
names_more n =
    let z : 0 + n ≡ n = omega arith in
    ap (map (λ i. 115 ∷ decimal i)) (range_more 0 n ∙ ap (λ m. range_with_len 0 n ++ m ∷ []) z) ∙ map_more (λ i. 115 ∷ decimal i) (range_with_len 0 n) n

-- different numbers have different names
pub same_name : (i j : ℕ) → i < 10 ^ 64 → j < 10 ^ 64 → 115 ∷ decimal i ≡ 115 ∷ decimal j → i ≡ j
same_name i j lt lt' e =
    let tail : decimal i ≡ decimal j = cc in
    sym (decimal_is_IsNumeral_wide i lt).1 ∙ ap (digits_value 10) tail ∙ (decimal_is_IsNumeral_wide j lt').1

-- whether two steps are the same, as the set of them tests it
abbrev pub pair_eq : ℕ × ℕ → ℕ × ℕ → Bool
pair_eq p q = (p.0 == q.0) && (p.1 == q.1)

number_itself : (n : ℕ) → (n == n) ≡ true
number_itself n = grind (arith, nat_tests)

pub pair_itself : (p : ℕ × ℕ) → pair_eq p p ≡ true
pair_itself p = rw (number_itself p.0, number_itself p.1) refl

-- the name of a state is a name
pub state_is_name : (n : ℕ) → n < 2 ^ 32 → IsName (115 ∷ decimal n)
state_is_name n lt =
    let digits = decimal_by_steps_wide (λ m ds. AllPass is_name_byte (115 ∷ ds)) one more n (omega arith) in
    record { some = omega arith; short = omega (arith, length-decimal-le_wide 64 n (omega arith) (omega arith) (omega arith)); bytes = digits }
  where
    push : (ds : List ℕ) (d : ℕ) → d < 10 → AllPass is_name_byte ds → AllPass is_name_byte (ds ++ (48 + d) ∷ [])
    push ds d lt all = All-push (λ b. is_name_byte b ≡ true) ds (48 + d) all (digit_byte d lt)

    one : (m : ℕ) → m < 10 → AllPass is_name_byte (115 ∷ (48 + m) ∷ [])
    one m lt = push (115 ∷ []) m lt (AllPass-from_list_all is_name_byte (115 ∷ []) refl)

    more : (m : ℕ) (ds : List ℕ) → 10 ≤ m → AllPass is_name_byte (115 ∷ ds) → AllPass is_name_byte (115 ∷ (ds ++ ((48 + m % 10) ∷ [])))
    more m ds ge all = push (115 ∷ ds) (m % 10) (omega arith) all

-- the next one is none of them
pub next_is_new : (n : ℕ) → n < 2 ^ 32 → Contains (state_names n) (115 ∷ decimal n) → ⊥
next_is_new n lt (k, within, e) =
    let long : length (state_names n) ≡ n = length-map-range_with_len (λ j. 115 ∷ decimal j) 0 n in
    let less : k < n = omega (arith, long, within) in
    let z : 0 + k ≡ k = omega arith in
    let same = same_name k n (omega arith) (omega arith) (sym (get_or-map-range_with_len (λ j. 115 ∷ decimal j) 0 n k k (115 ∷ decimal n) less z) ∙ e) in
    omega (arith, same, less)

pub with_next : (n : ℕ) → n < 2 ^ 32 → with_new bytes_eq (state_names n) (115 ∷ decimal n) ≡ state_names (n + 1)
with_next n lt = new_absent (state_names n) (115 ∷ decimal n) (next_is_new n lt) ∙ sym (names_more n)

pub states_long : (n : ℕ) → length (state_names n) ≡ n
states_long n = length-map-range_with_len (λ j. 115 ∷ decimal j) 0 n
