-- The first word of a line, and the words of what is left.
use Rattle.std.proofs.Common.{◌≡◌, ◌⊎◌, inl, inr, ℕ, suc, ◌+◌, ◌-◌, ◌<◌, ◌≤◌, ◌==◌, Bool, true, false, not, List, [], ◌∷◌, length, filter, get_or, take, drop, refl, sym, ap, subst, ◌∙◌, arith}
use Rattle.std.specs.List.{prefix_len, position_or_len, slice_split}
use Rattle.std.proofs.lemmas.Bool.{cond-true, cond-false, cases_order}
use Rattle.std.proofs.lemmas.Bool.Decides.{nat_tests}
use Rattle.std.proofs.lemmas.List.{take_rest, take_all, drop_all, drop_more, length-drop, length-take}
use Rattle.std.proofs.lemmas.List.Sums.{prefix_len-le-length, fails_before_first, passes_at_first}
use Rattle.std.proofs.lemmas.List.Splits.{slice_split_first, slice_split_none, slice_split-cons_yes}
use Rattle.rg_text.specs.Byte.{is_blank_byte}
use Rattle.rg_line_formats.specs.Words.{words}

-- a blank byte first changes nothing
blank_first : (b : ℕ) (bytes : List ℕ) → is_blank_byte b ≡ true → words (b ∷ bytes) ≡ words bytes
blank_first b bytes e = ap (filter (λ word. not (length word == 0))) (slice_split-cons_yes is_blank_byte b bytes e)

pub blanks_passed : (line : List ℕ) → words (drop (prefix_len is_blank_byte line) line) ≡ words line
blanks_passed [] = refl
blanks_passed (b ∷ bytes) = by (is_blank_byte b) refl (blanks_passed bytes)
  where
    by : (test : Bool) → is_blank_byte b ≡ test → words (drop (prefix_len is_blank_byte bytes) bytes) ≡ words bytes
        → words (drop (prefix_len is_blank_byte (b ∷ bytes)) (b ∷ bytes)) ≡ words (b ∷ bytes)
    by true e more =
        let one : prefix_len is_blank_byte (b ∷ bytes) ≡ 1 + prefix_len is_blank_byte bytes = cond-true (is_blank_byte b) (1 + prefix_len is_blank_byte bytes) 0 e in
        let n : prefix_len is_blank_byte (b ∷ bytes) ≡ suc (prefix_len is_blank_byte bytes) = omega (arith, one) in
        ap (λ k. words (drop k (b ∷ bytes))) n ∙ more ∙ sym (blank_first b bytes e)
    by false e more =
        let none : prefix_len is_blank_byte (b ∷ bytes) ≡ 0 = cond-false (is_blank_byte b) (1 + prefix_len is_blank_byte bytes) 0 e in
        ap (λ k. words (drop k (b ∷ bytes))) none

-- behind the blanks a word begins
pub word_begins : (line : List ℕ) → 0 < length (drop (prefix_len is_blank_byte line) line) → 0 < position_or_len is_blank_byte (drop (prefix_len is_blank_byte line) line)
word_begins [] some = absurd (omega (arith, some))
word_begins (b ∷ bytes) some = by (is_blank_byte b) refl some (word_begins bytes)
  where
    by : (test : Bool) → is_blank_byte b ≡ test → 0 < length (drop (prefix_len is_blank_byte (b ∷ bytes)) (b ∷ bytes))
        → (0 < length (drop (prefix_len is_blank_byte bytes) bytes) → 0 < position_or_len is_blank_byte (drop (prefix_len is_blank_byte bytes) bytes))
        → 0 < position_or_len is_blank_byte (drop (prefix_len is_blank_byte (b ∷ bytes)) (b ∷ bytes))
    by true e some more =
        let one : prefix_len is_blank_byte (b ∷ bytes) ≡ 1 + prefix_len is_blank_byte bytes = cond-true (is_blank_byte b) (1 + prefix_len is_blank_byte bytes) 0 e in
        let n : prefix_len is_blank_byte (b ∷ bytes) ≡ suc (prefix_len is_blank_byte bytes) = omega (arith, one) in
        subst (λ k. 0 < position_or_len is_blank_byte (drop k (b ∷ bytes))) (sym n) (more (subst (λ k. 0 < length (drop k (b ∷ bytes))) n some))
    by false e some more =
        let none : prefix_len is_blank_byte (b ∷ bytes) ≡ 0 = cond-false (is_blank_byte b) (1 + prefix_len is_blank_byte bytes) 0 e in
        let one : position_or_len is_blank_byte (b ∷ bytes) ≡ 1 + position_or_len is_blank_byte bytes = cond-true (not (is_blank_byte b)) (1 + position_or_len is_blank_byte bytes) 0 (ap not e) in
        subst (λ k. 0 < position_or_len is_blank_byte (drop k (b ∷ bytes))) (sym none) (omega (arith, one))

some_test : (n : ℕ) → 0 < n → not (n == 0) ≡ true
some_test n some = let e : (n == 0) ≡ false = grind (arith, nat_tests) in ap not e

kept : (word : List ℕ) (more : List (List ℕ)) → 0 < length word → filter (λ w. not (length w == 0)) (word ∷ more) ≡ word ∷ filter (λ w. not (length w == 0)) more
kept word more some =
    cond-true (not (length word == 0)) (word ∷ filter (λ w. not (length w == 0)) more) (filter (λ w. not (length w == 0)) more) (some_test (length word) some)

-- the first word is cut off
pub word_cut : (line : List ℕ) (at : ℕ) → at ≡ position_or_len is_blank_byte line → 0 < at → words line ≡ take at line ∷ words (drop at line)
word_cut line at is some = by (cases_order at (length line))
  where
    within : at ≤ length line
    within = omega (arith, is, prefix_len-le-length (λ b. not (is_blank_byte b)) line)

    whole : at ≡ length line → words line ≡ take at line ∷ words (drop at line)
    whole end =
        let one : slice_split is_blank_byte line ≡ line ∷ [] =
        slice_split_none is_blank_byte line (λ k d lt. fails_before_first is_blank_byte line k d (subst (λ n. k < n) (sym end ∙ is) lt)) in
        let taken : take at line ≡ line = take_all at line (omega (arith, end)) in
        let left : drop at line ≡ [] = drop_all at line (omega (arith, end)) in
        ap (filter (λ w. not (length w == 0))) one ∙ kept line [] (omega (arith, end, some)) ∙ sym (ap (λ w. w ∷ words (drop at line)) taken ∙ ap (λ l. line ∷ words l) left)

    part : at < length line → words line ≡ take at line ∷ words (drop at line)
    part lt =
        let first : slice_split is_blank_byte line ≡ take at line ∷ slice_split is_blank_byte (drop (at + 1) line) =
        subst (λ n. slice_split is_blank_byte line ≡ take n line ∷ slice_split is_blank_byte (drop (n + 1) line)) (sym is)
        (slice_split_first is_blank_byte line 0 (subst (λ n. n < length line) is lt)) in
        let blank : is_blank_byte (get_or line at 0) ≡ true =
        subst (λ n. is_blank_byte (get_or line n 0) ≡ true) (sym is) (passes_at_first is_blank_byte line 0 (subst (λ n. n < length line) is lt)) in
        let left : words (drop at line) ≡ words (drop (at + 1) line) = ap words (drop_more line at 0 lt) ∙ blank_first (get_or line at 0) (drop (at + 1) line) blank in
        ap (filter (λ w. not (length w == 0))) first
        ∙ kept (take at line) (slice_split is_blank_byte (drop (at + 1) line)) (omega (arith, length-take at line, some, lt))
        ∙ ap (λ l. take at line ∷ l) (sym left)

    by : (at ≡ length line) ⊎ ((at < length line) ⊎ (length line < at)) → words line ≡ take at line ∷ words (drop at line)
    by (inl e) = whole e
    by (inr (inl lt)) = part lt
    by (inr (inr gt)) = absurd (omega (arith, within, gt))

-- no word is left behind the blanks
pub no_word : (line : List ℕ) (n : ℕ) → n ≡ prefix_len is_blank_byte line → length (take (length line - n) (drop n line)) ≡ 0 → words line ≡ []
no_word line n is none =
    let nothing : drop n line ≡ [] = drop_all n line (omega (arith, none, ap length (take_rest line n), length-drop n line)) in
    sym (blanks_passed line) ∙ ap (λ k. words (drop k line)) (sym is) ∙ ap words nothing

-- the first word stands behind the blanks
pub first_word : (line text : List ℕ) (n at : ℕ) → n ≡ prefix_len is_blank_byte line → text ≡ take (length line - n) (drop n line) → 0 < length text → at ≡ position_or_len is_blank_byte text
    → (0 < at) × (at ≤ length text) × (words line ≡ take at text ∷ words (take (length text - at) (drop at text)))
first_word line text n at is text_is some at_is =
    let rest : text ≡ drop (prefix_len is_blank_byte line) line = text_is ∙ take_rest line n ∙ ap (λ k. drop k line) is in
    let begins : 0 < at = omega (arith, at_is, ap (position_or_len is_blank_byte) rest, word_begins line (subst (λ l. 0 < length l) rest some)) in (
      begins,
      omega (arith, at_is, prefix_len-le-length (λ b. not (is_blank_byte b)) text),
      sym (blanks_passed line) ∙ ap words (sym rest) ∙ word_cut text at at_is begins ∙ ap (λ l. take at text ∷ words l) (sym (take_rest text at)),
    )

pub is_none : (n : ℕ) → (n == 0) ≡ true → n ≡ 0
is_none n e = grind (arith, nat_tests)

pub is_some : (n : ℕ) → (n == 0) ≡ false → 0 < n
is_some n e = grind (arith, nat_tests)
