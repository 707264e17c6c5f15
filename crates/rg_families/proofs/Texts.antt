-- Names made of letters and numbers.
use Rattle.std.proofs.Common.{◌≡◌, ◌≢◌, ℕ, ◌+◌, ◌<◌, ◌≤◌, ◌^◌, ◌%◌, true, List, [], ◌∷◌, ◌++◌, length, All, decimal, refl, ap, ◌∙◌, arith}
use Rattle.std.specs.List.{AllPass, list_all}
use Rattle.std.proofs.lemmas.Fmt.{decimal_by_steps_wide, length-decimal-le_wide, decimal_injective}
use Rattle.std.proofs.lemmas.List.{length-append}
use Rattle.std.proofs.lemmas.List.Elements.{All-push, All-append, All-head, All-tail}
use Rattle.std.proofs.lemmas.List.Sums.{AllPass-from_list_all}
use Rattle.rg_text.specs.Byte.{is_name_byte, IsName}
use Rattle.rg_text.proofs.NameBytes.{decimal_passes}

decimal_lineless : (n : ℕ) → n < 2 ^ 32 → All (λ b. b ≢ 95) (decimal n)
decimal_lineless n lt = decimal_by_steps_wide (λ m ds. All (λ b. b ≢ 95) ds) one more n (omega arith)
  where
    push : (ds : List ℕ) (d : ℕ) → d < 10 → All (λ b. b ≢ 95) ds → All (λ b. b ≢ 95) (ds ++ (48 + d) ∷ [])
    push ds d lt all = All-push (λ b. b ≢ 95) ds (48 + d) all (λ e. omega arith)

    one : (m : ℕ) → m < 10 → All (λ b. b ≢ 95) ((48 + m) ∷ [])
    one m lt = push [] m lt (λ k d less. absurd (omega arith))

    more : (m : ℕ) (ds : List ℕ) → 10 ≤ m → All (λ b. b ≢ 95) ds → All (λ b. b ≢ 95) (ds ++ ((48 + m % 10) ∷ []))
    more m ds ge all = push ds (m % 10) (omega arith) all

decimal_short : (n : ℕ) → n < 2 ^ 32 → length (decimal n) ≤ 64
decimal_short n lt = length-decimal-le_wide 64 n (omega arith) (omega arith) (omega arith)

-- letters
pub name_of_letters : (letters : List ℕ) → list_all is_name_byte letters ≡ true → 0 < length letters → length letters ≤ 100 → IsName letters
name_of_letters letters pass some short = record { some = some; short = omega arith; bytes = AllPass-from_list_all is_name_byte letters pass }

-- some letters and a number
pub numbered_is_name : (letters : List ℕ) (n : ℕ) → list_all is_name_byte letters ≡ true → 0 < length letters → length letters ≤ 100 → n < 2 ^ 32 → IsName (letters ++ decimal n)
numbered_is_name letters n pass some short lt =
    let long = length-append letters (decimal n) in
    let digits = decimal_short n lt in
    record {
      some = omega (arith, long);
      short = omega (arith, long, digits);
      bytes = All-append (λ b. is_name_byte b ≡ true) letters (decimal n) (AllPass-from_list_all is_name_byte letters pass) (decimal_passes n lt);
    }

-- two numbers with a line between them, behind a letter
pub pair_is_name : (a i j : ℕ) → list_all is_name_byte (a ∷ []) ≡ true → i < 2 ^ 32 → j < 2 ^ 32 → IsName (a ∷ (decimal i ++ (95 ∷ decimal j)))
pair_is_name a i j pass lt lt' =
    let back = length-append (decimal i) (95 ∷ decimal j) in
    let left = decimal_short i lt in
    let right = decimal_short j lt' in
    let line : AllPass is_name_byte (95 ∷ decimal j) = All-append (λ b. is_name_byte b ≡ true) (95 ∷ []) (decimal j) (AllPass-from_list_all is_name_byte (95 ∷ []) refl) (decimal_passes j lt') in
    let tail : AllPass is_name_byte (decimal i ++ (95 ∷ decimal j)) = All-append (λ b. is_name_byte b ≡ true) (decimal i) (95 ∷ decimal j) (decimal_passes i lt) line in
    record {
      some = omega arith;
      short = omega (arith, back, left, right);
      bytes = All-append (λ b. is_name_byte b ≡ true) (a ∷ []) (decimal i ++ (95 ∷ decimal j)) (AllPass-from_list_all is_name_byte (a ∷ []) pass) tail;
    }

cut : (xs ys us vs : List ℕ) → All (λ b. b ≢ 95) xs → All (λ b. b ≢ 95) ys → xs ++ 95 ∷ us ≡ ys ++ 95 ∷ vs → (xs ≡ ys) × (us ≡ vs)
cut [] [] us vs ax ay e = (refl, cc)
cut [] (y ∷ ys) us vs ax ay e =
    let same : y ≡ 95 = cc in
    absurd (All-head (λ b. b ≢ 95) y ys ay same)
cut (x ∷ xs) [] us vs ax ay e =
    let same : x ≡ 95 = cc in
    absurd (All-head (λ b. b ≢ 95) x xs ax same)
cut (x ∷ xs) (y ∷ ys) us vs ax ay e =
    let head : x ≡ y = cc in
    let tail : xs ++ 95 ∷ us ≡ ys ++ 95 ∷ vs = cc in
    let r = cut xs ys us vs (All-tail (λ b. b ≢ 95) x xs ax) (All-tail (λ b. b ≢ 95) y ys ay) tail in
    (ap (λ h. h ∷ xs) head ∙ ap (λ l. y ∷ l) r.0, r.1)

pub same_pair : (a i j k l : ℕ) → i < 2 ^ 32 → j < 2 ^ 32 → k < 2 ^ 32 → l < 2 ^ 32 → a ∷ (decimal i ++ (95 ∷ decimal j)) ≡ a ∷ (decimal k ++ (95 ∷ decimal l)) → (i ≡ k) × (j ≡ l)
same_pair a i j k l li lj lk ll e =
    let tail : decimal i ++ (95 ∷ decimal j) ≡ decimal k ++ (95 ∷ decimal l) = cc in
    let r = cut (decimal i) (decimal k) (decimal j) (decimal l) (decimal_lineless i li) (decimal_lineless k lk) tail in
    (decimal_injective i k (omega arith) (omega arith) r.0, decimal_injective j l (omega arith) (omega arith) r.1)

pub same_number : (i j : ℕ) → i < 2 ^ 32 → j < 2 ^ 32 → decimal i ≡ decimal j → i ≡ j
same_number i j li lj e = decimal_injective i j (omega arith) (omega arith) e
