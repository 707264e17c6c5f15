-- Lists that are cut at a byte which doesn't stand before it.
use Rattle.std.proofs.Common.{◌≡◌, ◌≢◌, ℕ, ◌+◌, ◌-◌, ◌<◌, ◌==◌, true, false, List, [], ◌∷◌, ◌++◌, length, take, drop, get_or, All, refl, sym, ap, ap₂, subst, ◌∙◌, arith}
use Rattle.std.specs.List.{prefix_len, join_with_byte}
use Rattle.std.proofs.lemmas.Bool.Decides.{nat_tests}
use Rattle.std.proofs.lemmas.List.{drop_more, take-append-drop, take_all, length-drop, length-take-le, get_or-take}
use Rattle.std.proofs.lemmas.List.Sums.{prefix_len_passes, prefix_len_stops}
use Rattle.std.proofs.lemmas.List.Elements.{All-head, All-tail, All-weaker}
use Rattle.std.proofs.lemmas.List.Splits.{slice_split_none, slice_split_at, join_with_byte-slice_split}
use Rattle.rg_text.specs.Byte.{IsName, is_name_byte, is_other_than}
use Rattle.rg_text.specs.Line.{fields}
use Rattle.rg_cert.specs.Text.{spaced}

-- the byte doesn't stand in the list
abbrev pub Lacks : ℕ → List ℕ → Type 0
Lacks c xs = All (λ b. b ≢ c) xs

-- a list is cut at the first such byte in one way
pub one_cut : (c : ℕ) (a b r s : List ℕ) → Lacks c a → Lacks c b → a ++ c ∷ r ≡ b ++ c ∷ s → (a ≡ b) × (r ≡ s)
one_cut c [] [] r s x y e = (refl, cc)
one_cut c [] (k ∷ b) r s x y e = let head : c ≡ k = cc in absurd (All-head (λ b. b ≢ c) k b y (sym head))
one_cut c (k ∷ a) [] r s x y e = let head : k ≡ c = cc in absurd (All-head (λ b. b ≢ c) k a x head)
one_cut c (k ∷ a) (l ∷ b) r s x y e =
    let head : k ≡ l = cc in
    let tail : a ++ c ∷ r ≡ b ++ c ∷ s = cc in
    let more = one_cut c a b r s (All-tail (λ b. b ≢ c) k a x) (All-tail (λ b. b ≢ c) l b y) tail in
    (ap₂ ◌∷◌ head more.0, more.1)

-- a list without the byte isn't cut at it
pub no_cut : (c : ℕ) (a b r : List ℕ) → Lacks c a → a ≡ b ++ c ∷ r → ⊥
no_cut c [] [] r x e = absurd cc
no_cut c [] (l ∷ b) r x e = absurd cc
no_cut c (k ∷ a) [] r x e = let head : k ≡ c = cc in All-head (λ b. b ≢ c) k a x head
no_cut c (k ∷ a) (l ∷ b) r x e = let tail : a ≡ b ++ c ∷ r = cc in no_cut c a b r (All-tail (λ b. b ≢ c) k a x) tail

pub other_byte : (c b : ℕ) → is_other_than c b ≡ true → b ≢ c
other_byte c b is = grind (arith, nat_tests)

that_byte : (c b : ℕ) → is_other_than c b ≡ false → b ≡ c
that_byte c b is = grind (arith, nat_tests)

-- where no byte stops the run, the byte doesn't stand in the list
pub whole_run : (c : ℕ) (xs : List ℕ) (n : ℕ) → n ≡ prefix_len (is_other_than c) xs → n ≡ length xs → Lacks c xs
whole_run c xs n run whole = λ k d less. other_byte c (get_or xs k d) (prefix_len_passes (is_other_than c) xs k d (omega (arith, run, whole)))

-- where a byte stops it, the list is cut there
pub first_cut : (c : ℕ) (xs : List ℕ) (n : ℕ) → n ≡ prefix_len (is_other_than c) xs → n < length xs
    → (xs ≡ take n xs ++ c ∷ take (length xs - (n + 1)) (drop (n + 1) xs)) × Lacks c (take n xs)
first_cut c xs n run less =
    let stops : get_or xs n c ≡ c = that_byte c (get_or xs n c)
    (subst (λ m. is_other_than c (get_or xs m c) ≡ false) (sym run) (prefix_len_stops (is_other_than c) xs c (subst (λ m. m < length xs) run less))) in
    let rest : take (length xs - (n + 1)) (drop (n + 1) xs) ≡ drop (n + 1) xs = take_all _ _ (omega (arith, length-drop (n + 1) xs)) in (
      sym (take-append-drop n xs) ∙ ap (λ l. take n xs ++ l) (drop_more xs n c less ∙ ap₂ ◌∷◌ stops (sym rest)),
      (λ k d inside. let short = length-take-le n xs (omega arith) in
          subst (λ b. b ≢ c) (sym (get_or-take n xs k d (omega arith)))
          (other_byte c (get_or xs k d) (prefix_len_passes (is_other_than c) xs k d (omega arith)))),
    )

-- fields without spaces are what stands between the spaces of their line
pub spaced_fields : (field : List ℕ) (more : List (List ℕ)) → All (Lacks 32) (field ∷ more) → fields (spaced (field ∷ more)) ≡ field ∷ more
spaced_fields field [] lack = slice_split_none (λ b. b == 32) field (All-weaker (λ b. b ≢ 32) (λ b. (b == 32) ≡ false) off field (All-head (Lacks 32) field [] lack))
  where
    off : (b : ℕ) → b ≢ 32 → (b == 32) ≡ false
    off b h = grind (arith, nat_tests)
spaced_fields field (next ∷ more) lack =
    slice_split_at (λ b. b == 32) field 32 (spaced (next ∷ more))
    (All-weaker (λ b. b ≢ 32) (λ b. (b == 32) ≡ false) off field (All-head (Lacks 32) field (next ∷ more) lack)) refl
    ∙ ap (λ l. field ∷ l) (spaced_fields next more (All-tail (Lacks 32) field (next ∷ more) lack))
  where
    off : (b : ℕ) → b ≢ 32 → (b == 32) ≡ false
    off b h = grind (arith, nat_tests)

-- and a line is its fields with spaces between
pub fields_spaced : (line : List ℕ) → spaced (fields line) ≡ line
fields_spaced line = same_join (fields line) ∙ join_with_byte-slice_split 32 line
  where
    same_join : (words : List (List ℕ)) → spaced words ≡ join_with_byte 32 words
    same_join [] = refl
    same_join (word ∷ []) = refl
    same_join (word ∷ next ∷ more) = ap (λ l. word ++ 32 ∷ l) (same_join (next ∷ more))

-- the bytes of a name are no space and no line feed
name_byte : (b : ℕ) → is_name_byte b ≡ true → (32 < b) × (b < 128)
name_byte b is = (grind (arith, nat_tests), grind (arith, nat_tests))

pub name_above : (name : List ℕ) → IsName name → All (λ b. 32 < b) name
name_above name is = All-weaker (λ b. is_name_byte b ≡ true) (λ b. 32 < b) (λ b h. (name_byte b h).0) name is.bytes
