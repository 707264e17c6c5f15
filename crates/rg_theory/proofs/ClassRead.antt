-- The one condition that a word gives, read from its digits and its letters.
use Rattle.std.proofs.Common.{◌≡◌, ◌⊎◌, inl, inr, ℕ, ◌<◌, ◌≤◌, Bool, true, false, if◌then◌else◌, List, [], ◌∷◌, ◌++◌, codes, decimal, Option, None, Some, true≢false, refl, sym, ap, subst, ◌∙◌, ⊎_elim, append_assoc, append-nil, arith}
use Rattle.std.specs.List.{list_all}
use Rattle.std.specs.Char.{is_ascii_digit}
use Rattle.std.specs.Str.{bytes_eq}
use Rattle.std.specs.Str.Parse.{digits_value}
use Rattle.std.proofs.lemmas.Bool.{and_parts, cases_eq, cases_lt}
use Rattle.std.proofs.lemmas.Fmt.{digits_decimal, digits_value-decimal}
use Rattle.std.proofs.lemmas.Slice.Eq.{bytes_eq-Decides}
use Rattle.rg_theory.specs.declared.class_words.Condition.{Condition}
use Rattle.rg_theory.specs.declared.class_words.Condition.TheVariants.{Pure, Plain, Bounded, Multiple, Nonbranching}
use Rattle.rg_theory.specs.ClassWords.{bounded_word, IsWordOf}
use Rattle.rg_theory.proofs.ClassTexts.{numerals}

-- the condition of a number and letters
abbrev of_letters : ℕ → List ℕ → Option Condition
of_letters n letters =
    if bytes_eq letters (codes "pure") then Some Pure
    else if bytes_eq letters (codes "plain") then Some Plain
    else if bytes_eq letters (codes "safe") then Some (Bounded 1)
    else if bytes_eq letters (codes "-bounded") then Some (Bounded n)
    else if bytes_eq letters (codes "-marking") then Some (Multiple n)
    else if bytes_eq letters (codes "output-nonbranching") then Some Nonbranching
    else None

-- the same, after the digits that have been read
abbrev read_on : List ℕ → List ℕ → Option Condition
read_on digits [] = of_letters (digits_value 10 digits) []
read_on digits (b ∷ word) = if is_ascii_digit b then read_on (digits ++ b ∷ []) word else of_letters (digits_value 10 digits) (b ∷ word)

abbrev read : List ℕ → Option Condition
read word = read_on [] word

read_digits : (ds before : List ℕ) (b : ℕ) (tail : List ℕ) → list_all is_ascii_digit ds ≡ true → is_ascii_digit b ≡ false
    → read_on before (ds ++ b ∷ tail) ≡ of_letters (digits_value 10 (before ++ ds)) (b ∷ tail)
read_digits [] before b tail all other =
    ap (λ t. if t then read_on (before ++ b ∷ []) tail else of_letters (digits_value 10 before) (b ∷ tail)) other
    ∙ ap (λ l. of_letters (digits_value 10 l) (b ∷ tail)) (sym (append-nil before))
read_digits (d ∷ ds) before b tail all other =
    let both = and_parts (is_ascii_digit d) (list_all is_ascii_digit ds) all in
    ap (λ t. if t then read_on (before ++ d ∷ []) (ds ++ b ∷ tail) else of_letters (digits_value 10 before) (d ∷ ds ++ b ∷ tail)) both.0
    ∙ read_digits ds (before ++ d ∷ []) b tail both.1 other
    ∙ ap (λ l. of_letters (digits_value 10 l) (b ∷ tail)) (append_assoc before (d ∷ []) ds)

read_number : (k b : ℕ) (tail : List ℕ) → k ≤ 255 → is_ascii_digit b ≡ false → read (decimal k ++ b ∷ tail) ≡ of_letters k (b ∷ tail)
read_number k b tail few other =
    read_digits (decimal k) [] b tail (digits_decimal numerals k (omega arith)) other ∙ ap (λ n. of_letters n (b ∷ tail)) (digits_value-decimal numerals k (omega arith))

pub word_read : (c : Condition) (word : List ℕ) → IsWordOf c word → read word ≡ Some c
word_read Pure word is = ap read is
word_read Plain word is = ap read is
word_read (Bounded k) word (inl (one, safe)) = ap read safe ∙ ap (λ n. Some (Bounded n)) (sym one)
word_read (Bounded k) word (inr (some, few, spelled)) = ap read spelled ∙ read_number k _ _ few refl
word_read (Multiple n) word (some, few, spelled) = ap read spelled ∙ read_number n _ _ few refl
word_read Nonbranching word is = ap read is

-- a word gives one condition
pub one_condition : (a b : Condition) (word : List ℕ) → IsWordOf a word → IsWordOf b word → a ≡ b
one_condition a b word x y = let both : Some a ≡ Some b = sym (word_read a word x) ∙ word_read b word y in cc

-- `none` gives no condition
pub none_gives : (c : Condition) (word : List ℕ) → word ≡ codes "none" → IsWordOf c word → ⊥
none_gives c word is x = let both : None ≡ Some c = sym (ap read is) ∙ word_read c word x in absurd cc

-- it holds, or it doesn't
abbrev pub Decided : Type 0 → Type 0
Decided P = P ⊎ (P → ⊥)

pub same_bytes : (xs ys : List ℕ) → Decided (xs ≡ ys)
same_bytes xs ys = by (bytes_eq xs ys) refl
  where
    by : (b : Bool) → bytes_eq xs ys ≡ b → Decided (xs ≡ ys)
    by true e = inl ((bytes_eq-Decides xs ys).0 e)
    by false e = inr (λ same. true≢false (sym ((bytes_eq-Decides xs ys).1 same) ∙ e))

-- a number from 1 to 255 and a tail
number_or_not : (k : ℕ) (tail word : List ℕ) → Decided ((0 < k) × (k ≤ 255) × (word ≡ decimal k ++ tail))
number_or_not k tail word = by (cases_lt 0 k) (cases_lt 255 k) (same_bytes word (decimal k ++ tail))
  where
    by : (0 < k) ⊎ (k ≤ 0) → (255 < k) ⊎ (k ≤ 255) → Decided (word ≡ decimal k ++ tail) → Decided ((0 < k) × (k ≤ 255) × (word ≡ decimal k ++ tail))
    by (inl some) (inr few) (inl is) = inl (some, few, is)
    by (inl some) (inr few) (inr other) = inr (λ h. other h.2)
    by (inl some) (inl many) same = inr (λ h. omega (arith, many, h.1))
    by (inr none) size same = inr (λ h. omega (arith, none, h.0))

word_or_not : (c : Condition) (word : List ℕ) → Decided (IsWordOf c word)
word_or_not Pure word = same_bytes word (codes "pure")
word_or_not Plain word = same_bytes word (codes "plain")
word_or_not (Bounded k) word = by (cases_eq k 1) (same_bytes word (codes "safe")) (number_or_not k (codes "-bounded") word)
  where
    by : Decided (k ≡ 1) → Decided (word ≡ codes "safe") → Decided ((0 < k) × (k ≤ 255) × (word ≡ bounded_word k)) → Decided (IsWordOf (Bounded k) word)
    by (inl one) (inl safe) number = inl (inl (one, safe))
    by one safe (inl number) = inl (inr number)
    by (inr more) safe (inr none) = inr (⊎_elim (λ h. more h.0) none)
    by one (inr unsafe) (inr none) = inr (⊎_elim (λ h. unsafe h.1) none)
word_or_not (Multiple n) word = number_or_not n (codes "-marking") word
word_or_not Nonbranching word = same_bytes word (codes "output-nonbranching")

-- a condition that the word gives
abbrev pub Gives : List ℕ → Type 0
Gives word = (c : Condition) × IsWordOf c word

pub condition_or_not : (word : List ℕ) → Decided (Gives word)
condition_or_not word = by (read word) refl
  where
    only : (c : Condition) → read word ≡ Some c → (IsWordOf c word → ⊥) → Gives word → ⊥
    only c e none (d, gives) = none (let both : Some d ≡ Some c = sym (word_read d word gives) ∙ e in let same : d ≡ c = cc in subst (λ b. IsWordOf b word) same gives)

    given : (c : Condition) → read word ≡ Some c → Decided (IsWordOf c word) → Decided (Gives word)
    given c e (inl gives) = inl (c, gives)
    given c e (inr none) = inr (only c e none)

    by : (found : Option Condition) → read word ≡ found → Decided (Gives word)
    by None e = inr (λ (d, gives). let both : None ≡ Some d = sym e ∙ word_read d word gives in absurd cc)
    by (Some c) e = given c e (word_or_not c word)
