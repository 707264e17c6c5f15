-- The text of a class grows condition by condition.
use Rattle.std.proofs.Common.{◌≡◌, ℕ, suc, ◌+◌, ◌<◌, ◌≤◌, ◌==◌, Bool, true, false, List, [], ◌∷◌, ◌++◌, length, map, get_or, drop, filter_map, codes, decimal, Option, None, Some, refl, sym, ap, ap₂, ◌∙◌, append_assoc, if◌then◌else◌, subst, arith}
use Rattle.std.proofs.Math.Seq.{drop-cons}
use Rattle.std.proofs.lemmas.Bool.Decides.{nat_tests}
use Rattle.std.proofs.lemmas.List.{drop_all}
use Rattle.rg_theory.specs.declared.Class.{Class}
use Rattle.rg_theory.specs.declared.class_words.Condition.{Condition}
use Rattle.rg_theory.specs.declared.class_words.Condition.TheVariants.{Pure, Plain, Bounded, Multiple, Nonbranching}
use Rattle.rg_theory.specs.ClassWords.{asked, conditions_of, word_of, comma_joined, class_text}
use Rattle.rg_theory.specs.ClassParts.{with_word, with_words}

-- the words of what is asked
abbrev words_asked : List (Option Condition) → List (List ℕ)
words_asked conditions = map word_of (filter_map (λ condition. condition) conditions)

-- the text and what is left make the text of the class
abbrev pub IsLeft : Class → List ℕ → List (Option Condition) → Type 0
IsLeft class text left = with_words text (words_asked left) ≡ with_words [] (words_asked (asked class))

-- the next of what is left, by its index in all that is asked
next_left : (class : Class) (text : List ℕ) (all : List (Option Condition)) (i : ℕ) (next : Option Condition) → all ≡ asked class → i < length (asked class) → get_or all i None ≡ next
    → IsLeft class text (drop i all) → IsLeft class text (next ∷ drop (i + 1) all)
next_left class text all i next same lt at left =
    let step : suc i ≡ i + 1 = omega arith in
    subst (IsLeft class text) (drop-cons all i None (subst (λ l. i < length l) (sym same) lt) ∙ ap₂ (λ o k. o ∷ drop k all) at step) left

pub some_left : (class : Class) (text longer : List ℕ) (all : List (Option Condition)) (i : ℕ) (c : Condition) → all ≡ asked class → i < length (asked class) → get_or all i None ≡ Some c
    → longer ≡ with_word text (word_of c) → IsLeft class text (drop i all) → IsLeft class longer (drop (i + 1) all)
some_left class text longer all i c same lt at word left =
    ap (λ t. with_words t (words_asked (drop (i + 1) all))) word ∙ next_left class text all i (Some c) same lt at left

pub none_left : (class : Class) (text : List ℕ) (all : List (Option Condition)) (i : ℕ) → all ≡ asked class → i < length (asked class) → get_or all i None ≡ None
    → IsLeft class text (drop i all) → IsLeft class text (drop (i + 1) all)
none_left class text all i same lt at left = next_left class text all i None same lt at left

-- a text after a word is joined by commas
joined : (b : ℕ) (word : List ℕ) (more : List (List ℕ)) → with_words (b ∷ word) more ≡ comma_joined ((b ∷ word) ∷ more)
joined b word [] = refl
joined b word (next ∷ []) = refl
joined b word (next ∷ last ∷ more) =
    joined b (word ++ 44 ∷ next) (last ∷ more) ∙ append_assoc (b ∷ word) (44 ∷ next) (44 ∷ comma_joined (last ∷ more))

-- a text with a byte
abbrev Begins : List ℕ → Type 0
Begins text = (b : ℕ) × (rest : List ℕ) × (text ≡ b ∷ rest)

number_begins : (digits : List ℕ) (c : ℕ) (tail : List ℕ) → Begins (digits ++ c ∷ tail)
number_begins [] c tail = (c, tail, refl)
number_begins (d ∷ digits) c tail = (d, digits ++ c ∷ tail, refl)

word_begins : (c : Condition) → Begins (word_of c)
word_begins Pure = (_, _, refl)
word_begins Plain = (_, _, refl)
word_begins (Bounded k) = by (k == 1)
  where
    by : (one : Bool) → Begins (if one then codes "safe" else decimal k ++ codes "-bounded")
    by true = (_, _, refl)
    by false = number_begins (decimal k) _ _
word_begins (Multiple n) = number_begins (decimal n) _ _
word_begins Nonbranching = (_, _, refl)

grows : (b : ℕ) (word : List ℕ) (more : List (List ℕ)) → Begins (with_words (b ∷ word) more)
grows b word [] = (b, word, refl)
grows b word (next ∷ more) = grows b (word ++ 44 ∷ next) more

-- what is written of a text of words: `none` where there is no byte
abbrev IsWritten : List (List ℕ) → List ℕ → Type 0
IsWritten words text = (true ≡ (length text == 0) → text ++ codes "none" ≡ comma_joined words) × (false ≡ (length text == 0) → text ≡ comma_joined words)

not_zero : (n : ℕ) → 0 < n → (n == 0) ≡ false
not_zero n more = grind (arith, nat_tests)

written_some : (words : List (List ℕ)) (text : List ℕ) → Begins text → text ≡ comma_joined words → IsWritten words text
written_some words text (b, rest, begins) is =
    ((λ e. let off : true ≡ false = e ∙ not_zero (length text) (omega (arith, ap length begins)) in absurd cc), (λ e. is))

written : (cs : List Condition) → IsWritten (map word_of cs) (with_words [] (map word_of cs))
written [] = ((λ e. refl), (λ e. absurd cc))
written (c ∷ cs) =
    let (b, rest, begins) = word_begins c in
    subst (λ w. IsWritten (w ∷ map word_of cs) (with_words w (map word_of cs))) (sym begins)
    (written_some ((b ∷ rest) ∷ map word_of cs) (with_words (b ∷ rest) (map word_of cs)) (grows b rest (map word_of cs)) (joined b rest (map word_of cs)))

-- where nothing is left, the text is that of the class, or empty for `none`
pub all_written : (class : Class) (text : List ℕ) (all : List (Option Condition)) (i n : ℕ) → all ≡ asked class → length (asked class) ≤ i → n ≡ length text → IsLeft class text (drop i all)
    → (true ≡ (n == 0) → text ++ codes "none" ≡ class_text class) × (false ≡ (n == 0) → text ≡ class_text class)
all_written class text all i n same past long left =
    let whole : IsLeft class text [] = subst (IsLeft class text) (drop_all i all (subst (λ l. length l ≤ i) (sym same) past)) left in
    subst (λ m. (true ≡ (m == 0) → text ++ codes "none" ≡ class_text class) × (false ≡ (m == 0) → text ≡ class_text class)) (sym long)
    (subst (IsWritten (map word_of (conditions_of class))) (sym whole) (written (conditions_of class)))
