-- The text with which a class is written names it.
use Rattle.std.proofs.Common.{◌≡◌, inl, inr, ℕ, ◌<◌, ◌≤◌, ◌==◌, Bool, true, false, cond, List, [], ◌∷◌, All, map, Option, None, Some, IfSome, option_map, codes, refl, sym, ap, subst, ◌∙◌, arith}
use Rattle.std.specs.Bool.{then_some}
use Rattle.std.specs.List.{cons_option}
use Rattle.std.proofs.lemmas.Bool.{eqb-true}
use Rattle.std.proofs.lemmas.List.Kept.{AllPairs-cons}
use Rattle.std.proofs.lemmas.List.Elements.{All-nil, All-cons, All-head, All-tail, All-weaker}
use Rattle.std.proofs.lemmas.List.Splits.{slice_split_none, slice_split_at}
use Rattle.rg_theory.proofs.ClassAsked.{unasked_with}
use Rattle.rg_theory.proofs.ClassBytes.{LacksComma, word_lacks}
use Rattle.rg_theory.specs.declared.Class.{Class}
use Rattle.rg_theory.specs.declared.class_words.Condition.{Condition}
use Rattle.rg_theory.specs.declared.class_words.Condition.TheVariants.{Pure, Plain, Bounded, Multiple, Nonbranching}
use Rattle.rg_theory.specs.ClassWords.{bounded_word, IsWordOf, AreWordsOf, is_like, AreUnlike, no_condition, with_condition, with_conditions, asks_for, class_words, NamesClass, conditions_of, word_of, comma_joined, class_text, HasNumbersInRange}

joined_words : (word : List ℕ) (more : List (List ℕ)) → All LacksComma (word ∷ more) → class_words (comma_joined (word ∷ more)) ≡ word ∷ more
joined_words word [] lacks = slice_split_none (λ b. b == 44) word (All-head LacksComma word [] lacks)
joined_words word (next ∷ more) lacks =
    slice_split_at (λ b. b == 44) word 44 (comma_joined (next ∷ more)) (All-head LacksComma word (next ∷ more) lacks) refl
    ∙ ap (λ l. word ∷ l) (joined_words next more (All-tail LacksComma word (next ∷ more) lacks))

-- the numbers of conditions are in range
abbrev InRange : Condition → Type 0
InRange (Bounded k) = (0 < k) × (k ≤ 255)
InRange (Multiple n) = (0 < n) × (n ≤ 255)
InRange _ = Unit {0}

word_gives : (c : Condition) → InRange c → IsWordOf c (word_of c)
word_gives Pure h = refl
word_gives Plain h = refl
word_gives (Bounded k) h = by (k == 1) refl
  where
    by : (b : Bool) → (k == 1) ≡ b → IsWordOf (Bounded k) (cond b (codes "safe") (bounded_word k))
    by true e = inl (eqb-true k 1 e, refl)
    by false e = inr (h.0, h.1, refl)
word_gives (Multiple n) h = (h.0, h.1, refl)
word_gives Nonbranching h = refl

words_give : (cs : List Condition) → All InRange cs → AreWordsOf cs (map word_of cs)
words_give [] h = refl
words_give (c ∷ cs) h = (word_of c, map word_of cs, word_gives c (All-head InRange c cs h), words_give cs (All-tail InRange c cs h), refl)

words_lack : (cs : List Condition) → All InRange cs → All LacksComma (map word_of cs)
words_lack [] h = All-nil LacksComma
words_lack (c ∷ cs) h =
    All-cons LacksComma (word_of c) (map word_of cs) (word_lacks c (word_of c) (word_gives c (All-head InRange c cs h))) (words_lack cs (All-tail InRange c cs h))

-- conditions that a class doesn't ask for, in range and no two of them like, and the class that they make of it
record Adds (class : Class) (cs : List Condition) (whole : Class) : Type 0 where
  in_range : All InRange cs
  unasked : All (λ c. asks_for class c ≡ false) cs
  unlike : AreUnlike cs
  made : whole ≡ with_conditions class cs

adds_none : (class : Class) → Adds class [] class
adds_none class = record {
  in_range = All-nil InRange;
  unasked = All-nil (λ c. asks_for class c ≡ false);
  unlike = λ i j d less within. absurd (omega arith);
  made = refl;
}

adds_one : (class : Class) (c : Condition) (cs : List Condition) (whole : Class) → InRange c → asks_for class c ≡ false → Adds (with_condition class c) cs whole → Adds class (c ∷ cs) whole
adds_one class c cs whole here fresh rest = record {
  in_range = All-cons InRange c cs here rest.in_range;
  unasked = All-cons (λ d. asks_for class d ≡ false) c cs fresh
      (All-weaker (λ d. asks_for (with_condition class c) d ≡ false) (λ d. asks_for class d ≡ false) (λ d e. (unasked_with class c d e).1) cs rest.unasked);
  unlike = AllPairs-cons (λ a b. is_like a b ≡ false) c cs
      (All-weaker (λ d. asks_for (with_condition class c) d ≡ false) (λ d. is_like c d ≡ false) (λ d e. (unasked_with class c d e).0) cs rest.unasked) rest.unlike;
  made = rest.made;
}

-- what a class asks is added one by one, and each field of the class is set in its turn
adds_flag : (set : Bool → Class) (t : Bool) (c : Condition) {cs : List Condition} (whole : Class) → InRange c → asks_for (set false) c ≡ false → with_condition (set false) c ≡ set true
    → Adds (set t) cs whole → Adds (set false) (cons_option (then_some t c) cs) whole
adds_flag set true c {cs} whole here fresh is rest = adds_one (set false) c cs whole here fresh (subst (λ a. Adds a cs whole) (sym is) rest)
adds_flag set false c whole here fresh is rest = rest

adds_number : (set : Option ℕ → Class) (o : Option ℕ) (f : ℕ → Condition) {cs : List Condition} (whole : Class) → IfSome o (λ k. InRange (f k)) → ((k : ℕ) → asks_for (set None) (f k) ≡ false)
    → ((k : ℕ) → with_condition (set None) (f k) ≡ set (Some k)) → Adds (set o) cs whole → Adds (set None) (cons_option (option_map f o) cs) whole
adds_number set (Some k) f {cs} whole here fresh is rest = adds_one (set None) (f k) cs whole here (fresh k) (subst (λ a. Adds a cs whole) (sym (is k)) rest)
adds_number set None f whole here fresh is rest = rest

adds_conditions : (class : Class) → HasNumbersInRange class → Adds no_condition (conditions_of class) class
adds_conditions class h =
    let pure : Bool → Class = λ t. record no_condition { pure = t } in
    let plain : Bool → Class = λ t. record (pure class.pure) { plain = t } in
    let bound : Option ℕ → Class = λ o. record (plain class.plain) { bound = o } in
    let marking : Option ℕ → Class = λ o. record (bound class.bound) { marking = o } in
    let nonbranching : Bool → Class = λ t. record (marking class.marking) { nonbranching = t } in
    adds_flag pure class.pure Pure class tt refl refl
    (adds_flag plain class.plain Plain class tt refl refl
    (adds_number bound class.bound Bounded class h.bound (λ k. refl) (λ k. refl)
    (adds_number marking class.marking Multiple class h.marking (λ n. refl) (λ n. refl)
    (adds_flag nonbranching class.nonbranching Nonbranching class tt refl refl (adds_none class)))))

-- words, or none of them
named : (class : Class) (cs : List Condition) → Adds no_condition cs class → NamesClass (comma_joined (map word_of cs)) class
named class [] a = inl (refl, a.made)
named class (c ∷ cs) a = inr (record {
  conditions = c ∷ cs;
  words = subst (AreWordsOf (c ∷ cs)) (sym (joined_words (word_of c) (map word_of cs) (words_lack (c ∷ cs) a.in_range))) (words_give (c ∷ cs) a.in_range);
  unlike = a.unlike;
  made = a.made;
})

pub written : (class : Class) → HasNumbersInRange class → NamesClass (class_text class) class
written class h = named class (conditions_of class) (adds_conditions class h)
