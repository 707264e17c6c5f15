-- The bytes of a text that names a class, and the bound of that class.
use Rattle.std.proofs.Common.{◌≡◌, inl, inr, ℕ, nat_lt, Bool, true, false, not, ◌&&◌, ◌==◌, ◌≤◌, All, List, [], ◌∷◌, ◌++◌, codes, decimal, refl, sym, ap, ap₂, subst, ◌∙◌, arith}
use Rattle.std.specs.List.{list_all, join_with_byte}
use Rattle.std.specs.Char.{is_ascii_digit}
use Rattle.std.proofs.lemmas.Bool.{and_parts}
use Rattle.std.proofs.lemmas.Bool.Decides.{nat_tests}
use Rattle.std.proofs.lemmas.List.Elements.{All-weaker}
use Rattle.std.proofs.lemmas.List.Sums.{AllPass-from_list_all, list_all-from_AllPass}
use Rattle.std.proofs.lemmas.Fmt.{digits_decimal}
use Rattle.std.proofs.lemmas.List.Folds.{list_all-append}
use Rattle.std.proofs.lemmas.List.Splits.{join_with_byte-slice_split}
use Rattle.rg_theory.specs.declared.Class.{Class}
use Rattle.rg_theory.specs.declared.class_words.Condition.{Condition}
use Rattle.rg_theory.specs.declared.class_words.Condition.TheVariants.{Pure, Plain, Bounded, Multiple, Nonbranching}
use Rattle.rg_theory.specs.ClassWords.{IsWordOf, AreWordsOf, no_condition, with_condition, with_conditions, class_words, NamesClass, HasNumbersInRange}
use Rattle.rg_theory.proofs.ClassTexts.{numerals}

-- a byte of ASCII that shows, and no space
abbrev pub is_shown : ℕ → Bool
is_shown b = nat_lt 32 b && nat_lt b 127

-- such a byte that is no comma
abbrev pub is_word_byte : ℕ → Bool
is_word_byte b = is_shown b && not (b == 44)

digit_in_word : (b : ℕ) → is_ascii_digit b ≡ true → is_word_byte b ≡ true
digit_in_word b is = grind (arith, nat_tests)

-- a test that bytes pass which pass another one
all_weaker : (p q : ℕ → Bool) → ((b : ℕ) → p b ≡ true → q b ≡ true) → (bs : List ℕ) → list_all p bs ≡ true → list_all q bs ≡ true
all_weaker p q weaker bs all = list_all-from_AllPass q bs (All-weaker (λ b. p b ≡ true) (λ b. q b ≡ true) weaker bs (AllPass-from_list_all p bs all))

number_in_word : (k : ℕ) (tail : List ℕ) → k ≤ 255 → list_all is_word_byte tail ≡ true → list_all is_word_byte (decimal k ++ tail) ≡ true
number_in_word k tail few all =
    list_all-append is_word_byte (decimal k) tail ∙ ap₂ ◌&&◌ (all_weaker is_ascii_digit is_word_byte digit_in_word (decimal k) (digits_decimal numerals k (omega arith))) all

-- the bytes of a word that gives a condition
pub word_bytes : (c : Condition) (word : List ℕ) → IsWordOf c word → list_all is_word_byte word ≡ true
word_bytes Pure word is = ap (list_all is_word_byte) is
word_bytes Plain word is = ap (list_all is_word_byte) is
word_bytes (Bounded k) word (inl (one, safe)) = ap (list_all is_word_byte) safe
word_bytes (Bounded k) word (inr (some, few, spelled)) = ap (list_all is_word_byte) spelled ∙ number_in_word k (codes "-bounded") few refl
word_bytes (Multiple n) word (some, few, spelled) = ap (list_all is_word_byte) spelled ∙ number_in_word n (codes "-marking") few refl
word_bytes Nonbranching word is = ap (list_all is_word_byte) is

word_shown : (c : Condition) (word : List ℕ) → IsWordOf c word → list_all is_shown word ≡ true
word_shown c word is = all_weaker is_word_byte is_shown (λ b e. (and_parts (is_shown b) (not (b == 44)) e).0) word (word_bytes c word is)

-- no comma stands in the word
abbrev pub LacksComma : List ℕ → Type 0
LacksComma word = All (λ b. (b == 44) ≡ false) word

pub word_lacks : (c : Condition) (word : List ℕ) → IsWordOf c word → LacksComma word
word_lacks c word is =
    All-weaker (λ b. is_word_byte b ≡ true) (λ b. (b == 44) ≡ false) (λ b e. not_true (b == 44) (and_parts (is_shown b) (not (b == 44)) e).1) word
    (AllPass-from_list_all is_word_byte word (word_bytes c word is))
  where
    not_true : (a : Bool) → not a ≡ true → a ≡ false
    not_true true e = absurd cc
    not_true false e = refl

both_shown : (xs ys : List ℕ) → list_all is_shown xs ≡ true → list_all is_shown ys ≡ true → list_all is_shown (xs ++ ys) ≡ true
both_shown xs ys x y = list_all-append is_shown xs ys ∙ ap₂ ◌&&◌ x y

joined_shown : (word : List ℕ) (more : List (List ℕ)) → list_all is_shown word ≡ true → list_all is_shown (join_with_byte 44 more) ≡ true
    → list_all is_shown (join_with_byte 44 (word ∷ more)) ≡ true
joined_shown word [] x y = x
joined_shown word (next ∷ more) x y = both_shown word (44 ∷ join_with_byte 44 (next ∷ more)) x y

words_shown : (cs : List Condition) (words : List (List ℕ)) → AreWordsOf cs words → list_all is_shown (join_with_byte 44 words) ≡ true
words_shown [] words is = ap (λ l. list_all is_shown (join_with_byte 44 l)) is
words_shown (c ∷ cs) words is =
    ap (λ l. list_all is_shown (join_with_byte 44 l)) is.4 ∙ joined_shown is.0 is.1 (word_shown c is.0 is.2) (words_shown cs is.1 is.3)

-- each byte of a text that names a class shows
pub named_shown : (text : List ℕ) (class : Class) → NamesClass text class → list_all is_shown text ≡ true
named_shown text class (inl x) = ap (list_all is_shown) x.0
named_shown text class (inr x) = ap (list_all is_shown) (sym (join_with_byte-slice_split 44 text)) ∙ words_shown x.conditions (class_words text) x.words

bound_with : (class : Class) (c : Condition) (word : List ℕ) → HasNumbersInRange class → IsWordOf c word → HasNumbersInRange (with_condition class c)
bound_with class Pure word given is = record { bound = given.bound; marking = given.marking }
bound_with class Plain word given is = record { bound = given.bound; marking = given.marking }
bound_with class (Bounded k) word given (inl (one, safe)) = record { bound = (omega arith, omega arith); marking = given.marking }
bound_with class (Bounded k) word given (inr (some, few, spelled)) = record { bound = (some, few); marking = given.marking }
bound_with class (Multiple n) word given (some, few, spelled) = record { bound = given.bound; marking = (some, few) }
bound_with class Nonbranching word given is = record { bound = given.bound; marking = given.marking }

pub no_numbers : HasNumbersInRange no_condition
no_numbers = record { bound = tt; marking = tt }

bound_with_all : (class : Class) (cs : List Condition) (words : List (List ℕ)) → HasNumbersInRange class → AreWordsOf cs words → HasNumbersInRange (with_conditions class cs)
bound_with_all class [] words given is = given
bound_with_all class (c ∷ cs) words given is = bound_with_all (with_condition class c) cs is.1 (bound_with class c is.0 given is.2) is.3

-- a class that a text names has a bound from 1 to 255, or none, and a marking from 1 to 255, or none
pub named_bound : (text : List ℕ) (class : Class) → NamesClass text class → HasNumbersInRange class
named_bound text class (inl x) = subst HasNumbersInRange (sym x.1) no_numbers
named_bound text class (inr x) = subst HasNumbersInRange (sym x.made) (bound_with_all no_condition x.conditions (class_words text) no_numbers x.words)
