-- Classes as words: `none`, or the words of its conditions, separated by commas in any order.
use Rattle.std.specs.Prelude.{◌≡◌, ◌≢◌, ◌⊎◌, ℕ, ◌<◌, ◌≤◌, ◌==◌, Bool, true, false, List, [], ◌∷◌, ◌++◌, length, AllPairs, Any, Option, None, Some, is_some, IfSome, map, if◌then◌else◌, codes, decimal}
use Rattle.std.specs.Bool.{then_some}
use Rattle.std.specs.List.{slice_split, list_all, filter_map}
use Rattle.std.specs.Option.{option_map}
use Rattle.std.specs.Char.{is_ascii_digit}
use Rattle.rg_theory.specs.declared.Class.{Class}
use Rattle.rg_theory.specs.declared.class_words.Condition.{Condition}
use Rattle.rg_theory.specs.declared.class_words.Condition.TheVariants.{Pure, Plain, Bounded, Multiple, Nonbranching}
use Rattle.rg_theory.specs.declared.class_words.ClassFault.{ClassFault}
use Rattle.rg_theory.specs.declared.class_words.ClassFault.TheVariants.{UnknownWord, BadNumber, Repeated}

-- a number and `-bounded`, or `-marking`
abbrev pub bounded_word : ℕ → List ℕ
bounded_word k = decimal k ++ codes "-bounded"

abbrev pub marking_word : ℕ → List ℕ
marking_word n = decimal n ++ codes "-marking"

-- the word gives the condition; `safe` is the bound 1
abbrev pub IsWordOf : Condition → List ℕ → Type 0
IsWordOf Pure word = word ≡ codes "pure"
IsWordOf Plain word = word ≡ codes "plain"
IsWordOf (Bounded k) word = ((k ≡ 1) × (word ≡ codes "safe")) ⊎ ((0 < k) × (k ≤ 255) × (word ≡ bounded_word k))
IsWordOf (Multiple n) word = (0 < n) × (n ≤ 255) × (word ≡ marking_word n)
IsWordOf Nonbranching word = word ≡ codes "output-nonbranching"

-- the words give the conditions, one each
abbrev pub AreWordsOf : List Condition → List (List ℕ) → Type 0
AreWordsOf [] words = words ≡ []
AreWordsOf (c ∷ conditions) words = (word : List ℕ) × (more : List (List ℕ)) × IsWordOf c word × AreWordsOf conditions more × (words ≡ word ∷ more)

-- the same condition; two bounds are the same, whatever their numbers, and so are two markings
abbrev pub is_like : Condition → Condition → Bool
is_like Pure Pure = true
is_like Plain Plain = true
is_like (Bounded j) (Bounded k) = true
is_like (Multiple m) (Multiple n) = true
is_like Nonbranching Nonbranching = true
is_like _ _ = false

-- no condition is given twice
abbrev pub AreUnlike : List Condition → Type 0
AreUnlike conditions = AllPairs (λ a b. is_like a b ≡ false) conditions

-- the class of all nets
abbrev pub no_condition : Class
no_condition = record { pure = false; plain = false; bound = None; marking = None; nonbranching = false }

-- the class with one more condition
abbrev pub with_condition : Class → Condition → Class
with_condition class Pure = record class { pure = true }
with_condition class Plain = record class { plain = true }
with_condition class (Bounded k) = record class { bound = Some k }
with_condition class (Multiple n) = record class { marking = Some n }
with_condition class Nonbranching = record class { nonbranching = true }

abbrev pub with_conditions : Class → List Condition → Class
with_conditions class [] = class
with_conditions class (c ∷ conditions) = with_conditions (with_condition class c) conditions

-- the parts between the commas
abbrev pub class_words : List ℕ → List (List ℕ)
class_words text = slice_split (λ b. b == 44) text

-- whether the class asks for a like condition
abbrev pub asks_for : Class → Condition → Bool
asks_for class Pure = class.pure
asks_for class Plain = class.plain
asks_for class (Bounded k) = is_some class.bound
asks_for class (Multiple n) = is_some class.marking
asks_for class Nonbranching = class.nonbranching

-- the words of conditions, none given twice, and the class that they make
pub record IsMadeOf (text : List ℕ) (class : Class) : Type 0 where
  pub conditions : List Condition
  pub words : AreWordsOf conditions (class_words text)
  pub unlike : AreUnlike conditions
  pub made : class ≡ with_conditions no_condition conditions

-- the text names the class
abbrev pub NamesClass : List ℕ → Class → Type 0
NamesClass text class = ((text ≡ codes "none") × (class ≡ no_condition)) ⊎ IsMadeOf text class

-- digits, but no number from 1 to 255 without a leading 0
pub record IsBadNumeral (digits : List ℕ) : Type 0 where
  pub some : 0 < length digits
  pub all : list_all is_ascii_digit digits ≡ true
  pub none : (k : ℕ) → 0 < k → k ≤ 255 → digits ≢ decimal k

-- what follows the number of a word
abbrev pub IsTail : List ℕ → Type 0
IsTail tail = (tail ≡ codes "-bounded") ⊎ (tail ≡ codes "-marking")

-- digits and `-bounded` or `-marking`, but no number from 1 to 255 without a leading 0
pub record IsBadNumber (word : List ℕ) : Type 0 where
  pub digits : List ℕ
  pub tail : List ℕ
  pub numeral : IsBadNumeral digits
  pub ends : IsTail tail
  pub spelled : word ≡ digits ++ tail

-- a word that gives a condition which one of those before gave
pub record IsRepeated (before : List Condition) (word : List ℕ) : Type 0 where
  pub condition : Condition
  pub gives : IsWordOf condition word
  pub again : Any (λ b. is_like b condition ≡ true) before

-- word number i, after those that gave these conditions, is refused
abbrev pub IsRefusedWord : List Condition → List ℕ → ℕ → ClassFault → Type 0
IsRefusedWord before word i (UnknownWord at) = (at ≡ i) × (¬ IsBadNumber word) × ((c : Condition) → ¬ IsWordOf c word)
IsRefusedWord before word i (BadNumber at) = (at ≡ i) × IsBadNumber word
IsRefusedWord before word i (Repeated at) = (at ≡ i) × IsRepeated before word

-- the first word that is refused; `none` is refused with another word
pub record FirstRefusedWord (text : List ℕ) (fault : ClassFault) : Type 0 where
  pub other : text ≢ codes "none"
  pub conditions : List Condition
  pub before : List (List ℕ)
  pub word : List ℕ
  pub rest : List (List ℕ)
  pub all : class_words text ≡ before ++ word ∷ rest
  pub words : AreWordsOf conditions before
  pub unlike : AreUnlike conditions
  pub refused : IsRefusedWord conditions word (length before) fault

-- a class that the text names, or its first refused word
abbrev pub IsClassTold : List ℕ → Type 0
IsClassTold text = ((class : Class) × NamesClass text class) ⊎ ((fault : ClassFault) × FirstRefusedWord text fault)

-- what the class asks, in the order in which its text names it
abbrev pub asked : Class → List (Option Condition)
asked class =
    then_some class.pure Pure
    ∷ then_some class.plain Plain
    ∷ option_map Bounded class.bound
    ∷ option_map Multiple class.marking
    ∷ then_some class.nonbranching Nonbranching
    ∷ []

-- the conditions of a class, in that order
abbrev pub conditions_of : Class → List Condition
conditions_of class = filter_map (λ condition. condition) (asked class)

-- the word of a condition; the bound 1 is `safe`
abbrev pub word_of : Condition → List ℕ
word_of Pure = codes "pure"
word_of Plain = codes "plain"
word_of (Bounded k) = if k == 1 then codes "safe" else bounded_word k
word_of (Multiple n) = marking_word n
word_of Nonbranching = codes "output-nonbranching"

-- words with commas between, and `none` for no word
abbrev pub comma_joined : List (List ℕ) → List ℕ
comma_joined [] = codes "none"
comma_joined (word ∷ []) = word
comma_joined (word ∷ next ∷ more) = word ++ 44 ∷ comma_joined (next ∷ more)

-- the one text with which a class is written
abbrev pub class_text : Class → List ℕ
class_text class = comma_joined (map word_of (conditions_of class))

-- a bound of a class and its marking are from 1 to 255
pub record HasNumbersInRange (class : Class) : Type 0 where
  pub bound : IfSome class.bound (λ k. (0 < k) × (k ≤ 255))
  pub marking : IfSome class.marking (λ n. (0 < n) × (n ≤ 255))
