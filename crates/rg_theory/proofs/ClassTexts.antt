-- The words of classes.
use Rattle.std.proofs.Common.{◌≡◌, ◌≢◌, ◌⊎◌, inl, inr, ⊎_elim, ℕ, zero, suc, ◌<◌, ◌≤◌, true, ◌&&◌, List, [], ◌∷◌, ◌++◌, length, get_or, codes, decimal, Result, Ok, Err, refl, sym, ap, ap₂, subst, ◌∙◌, arith, length-append}
use Rattle.std.specs.List.{list_all}
use Rattle.std.specs.Char.{is_ascii_digit}
use Rattle.std.specs.Str.{all_ascii_digits}
use Rattle.std.specs.Str.Parse.{digits_value, ParsesUnsigned}
use Rattle.std.proofs.lemmas.Str.Parse.{IsDigitsTest, IsNumeralModel, numerals_by_value, parse_digits, tells_all_ascii_digits}
use Rattle.rg_theory.specs.declared.Class.{Class}
use Rattle.rg_theory.specs.declared.class_words.Condition.{Condition}
use Rattle.rg_theory.specs.declared.class_words.Condition.TheVariants.{Pure, Plain, Bounded, Multiple, Nonbranching}
use Rattle.rg_theory.specs.declared.class_words.ClassFault.{ClassFault}
use Rattle.rg_theory.specs.declared.class_words.ClassFault.TheVariants.{UnknownWord, BadNumber}
use Rattle.rg_theory.specs.ClassWords.{IsWordOf, no_condition, with_conditions, asks_for, IsBadNumeral, IsTail, IsBadNumber, IsRepeated, IsRefusedWord}
use Rattle.rg_theory.specs.ClassParts.{IsOther}
use Rattle.rg_theory.proofs.ClassAsked.{asked_among}
use Rattle.std.proofs.lemmas.Fmt.{first_decimal, decimal_digit, decimal_nonempty, digits_decimal, parse-decimal, decimal-digits_value}

pub same_test : (ds : List ℕ) → list_all is_ascii_digit ds ≡ all_ascii_digits ds
same_test [] = refl
same_test (c ∷ cs) = ap (λ b. is_ascii_digit c && b) (same_test cs)

pub digits_test : IsDigitsTest (λ ds. list_all is_ascii_digit ds ≡ true)
digits_test = record {
  empty = refl;
  parts = λ c cs e. let told = tells_all_ascii_digits.parts c cs (sym (same_test (c ∷ cs)) ∙ e) in (told.0, same_test cs ∙ told.1);
  more = λ c cs k e. same_test (c ∷ cs) ∙ tells_all_ascii_digits.more c cs k (sym (same_test cs) ∙ e);
}

pub numerals : IsNumeralModel (λ ds. list_all is_ascii_digit ds ≡ true) (digits_value 10)
numerals = numerals_by_value (λ ds. list_all is_ascii_digit ds ≡ true) digits_test

-- what is read of digits without a leading 0
pub small_read : {E : Type 0} (bs : List ℕ) (n : ℕ) (r : Result ℕ E) → list_all is_ascii_digit bs ≡ true → 0 < length bs → get_or bs 0 0 ≢ 48
    → r ≡ Ok n → ParsesUnsigned 8 10 bs r → (0 < n) × (n ≤ 255) × (bs ≡ decimal n)
small_read {E} bs n r all some first is parses =
    let read = parse_digits numerals {E = E} 8 bs (Ok n) (subst (ParsesUnsigned 8 10 bs) is parses) all in
    let spelled : decimal (digits_value 10 bs) ≡ bs = decimal-digits_value numerals bs all some (λ z. absurd (first z)) (omega (arith, read.0.1)) in
    let n_is : n ≡ digits_value 10 bs = read.1 in
    let text : bs ≡ decimal n = sym spelled ∙ ap decimal (sym n_is) in
    (by n n_is text, omega (arith, n_is, read.0.1), text)
  where
    by : (m : ℕ) → m ≡ digits_value 10 bs → bs ≡ decimal m → 0 < m
    by zero e text = absurd (first (ap (λ l. get_or l 0 0) (text ∙ decimal_digit 0 (omega arith))))
    by (suc m) e text = omega arith

-- what isn't read
pub small_unread : {E : Type 0} (bs : List ℕ) (e : E) (r : Result ℕ E) → r ≡ Err e → ParsesUnsigned 8 10 bs r → (k : ℕ) → 0 < k → k ≤ 255 → bs ≢ decimal k
small_unread bs e r err parses k some few is = let read = parse-decimal 8 k bs r (omega arith) (omega arith) is parses in let same = sym err ∙ read in absurd cc

-- a number but 0 doesn't begin with 0
pub begins_else : (bs : List ℕ) → get_or bs 0 0 ≡ 48 → (k : ℕ) → 0 < k → k ≤ 255 → bs ≢ decimal k
begins_else bs zero_first k some few is = omega (arith, zero_first, ap (λ l. get_or l 0 0) is, first_decimal k some (omega arith))

-- ---- numbers with a tail

-- texts that end in texts of one length are the same in both parts
same_ends : (xs ys s t : List ℕ) → length s ≡ length t → xs ++ s ≡ ys ++ t → (xs ≡ ys) × (s ≡ t)
same_ends [] [] s t n e = (refl, e)
same_ends [] (y ∷ ys) s t n e = absurd (omega (arith, n, ap length e, length-append ys t))
same_ends (x ∷ xs) [] s t n e = absurd (omega (arith, n, ap length e, length-append xs s))
same_ends (x ∷ xs) (y ∷ ys) s t n e =
    let head : x ≡ y = cc in
    let tail : xs ++ s ≡ ys ++ t = cc in
    let rest = same_ends xs ys s t n tail in
    (ap₂ ◌∷◌ head rest.0, rest.1)

pub tail_length : (tail : List ℕ) → IsTail tail → length tail ≡ 8
tail_length tail (inl e) = ap length e
tail_length tail (inr e) = ap length e

-- a word has one number and one tail
pub same_tails : (ds es s t : List ℕ) → IsTail s → IsTail t → ds ++ s ≡ es ++ t → (ds ≡ es) × (s ≡ t)
same_tails ds es s t x y e = same_ends ds es s t (tail_length s x ∙ sym (tail_length t y)) e

-- what isn't digits spells no number
not_numeral : (digits : List ℕ) → (0 < length digits → list_all is_ascii_digit digits ≡ true → ⊥) → (k : ℕ) → 0 < k → k ≤ 255 → digits ≢ decimal k
not_numeral digits none k some few e =
    none (subst (λ d. 0 < length d) (sym e) (decimal_nonempty k (omega arith))) (ap (list_all is_ascii_digit) e ∙ digits_decimal numerals k (omega arith))

-- a word that is none of those without a number gives a condition only by a number and a tail
only_numbered : (word : List ℕ) → IsOther word → (c : Condition) → IsWordOf c word → (k : ℕ) × (tail : List ℕ) × (0 < k) × (k ≤ 255) × IsTail tail × (word ≡ decimal k ++ tail)
only_numbered word other Pure x = absurd (other.pure x)
only_numbered word other Plain x = absurd (other.plain x)
only_numbered word other (Bounded k) (inl (one, safe)) = absurd (other.safe safe)
only_numbered word other (Bounded k) (inr (some, few, spelled)) = (k, codes "-bounded", some, few, inl refl, spelled)
only_numbered word other (Multiple n) (some, few, spelled) = (n, codes "-marking", some, few, inr refl, spelled)
only_numbered word other Nonbranching x = absurd (other.nonbranching x)

-- digits that spell no number, before a tail
pub refused_numeral : (word digits tail : List ℕ) (number : ℕ) (f : ClassFault) (before : List Condition) → IsOther word → IsTail tail → word ≡ digits ++ tail
    → ((f ≡ UnknownWord number) × (0 < length digits → list_all is_ascii_digit digits ≡ true → ⊥)) ⊎ ((f ≡ BadNumber number) × IsBadNumeral digits) → IsRefusedWord before word number f
refused_numeral word digits tail number f before other ends is (inl (e, none)) = subst (IsRefusedWord before word number) (sym e) (refl, no_bad, no_word)
  where
    no_bad : IsBadNumber word → ⊥
    no_bad b =
        let same = (same_tails b.digits digits b.tail tail b.ends ends (sym b.spelled ∙ is)).0 in
        none (subst (λ d. 0 < length d) same b.numeral.some) (subst (λ d. list_all is_ascii_digit d ≡ true) same b.numeral.all)

    no_word : (c : Condition) → IsWordOf c word → ⊥
    no_word c gives =
        let (k, t, some, few, ends', spelled) = only_numbered word other c gives in
        not_numeral digits none k some few (same_tails digits (decimal k) tail t ends ends' (sym is ∙ spelled)).0
refused_numeral word digits tail number f before other ends is (inr (e, bad)) =
    subst (IsRefusedWord before word number) (sym e) (refl, record { digits = digits; tail = tail; numeral = bad; ends = ends; spelled = is })

-- the class of all nets asks for nothing
none_asked : (c : Condition) → asks_for no_condition c ≡ true → ⊥
none_asked Pure e = absurd cc
none_asked Plain e = absurd cc
none_asked (Bounded k) e = absurd cc
none_asked (Multiple n) e = absurd cc
none_asked Nonbranching e = absurd cc

-- a condition that the class asks for was given before
pub repeated : (class : Class) (before : List Condition) (c : Condition) (word : List ℕ) → class ≡ with_conditions no_condition before → true ≡ asks_for class c
    → IsWordOf c word → IsRepeated before word
repeated class before c word made asked gives = record {
  condition = c;
  gives = gives;
  again = ⊎_elim (λ e. absurd (none_asked c e)) (λ any. any) (asked_among no_condition before c (sym (asked ∙ ap (λ d. asks_for d c) made)));
}
