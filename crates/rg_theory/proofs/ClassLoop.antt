-- The words of a class, read one after the other.
use Rattle.std.proofs.Common.{◌≡◌, ◌≢◌, inr, ℕ, ◌+◌, ◌≤◌, Bool, true, false, List, [], ◌∷◌, ◌++◌, length, Option, None, Some, refl, sym, ap, subst, ◌∙◌, arith, codes, append_assoc, append-nil, length-append, is_some}
use Rattle.std.proofs.lemmas.List.Quantifiers.{all_pairs_push}
use Rattle.std.specs.Str.{bytes_eq}
use Rattle.std.proofs.lemmas.Slice.Eq.{bytes_eq-Decides}
use Rattle.std.proofs.lemmas.Iterator.{YieldsList}
use Rattle.rg_theory.specs.declared.Class.{Class}
use Rattle.rg_theory.specs.declared.class_words.Condition.{Condition}
use Rattle.rg_theory.specs.declared.class_words.Condition.TheVariants.{Pure, Plain, Bounded, Multiple, Nonbranching}
use Rattle.rg_theory.specs.declared.class_words.ClassFault.{ClassFault}
use Rattle.rg_theory.specs.ClassWords.{IsWordOf, AreWordsOf, is_like, AreUnlike, no_condition, with_condition, with_conditions, asks_for, class_words, NamesClass, IsRefusedWord, FirstRefusedWord}
use Rattle.rg_theory.proofs.ClassAsked.{unasked_all}

-- how many conditions a class asks for
abbrev one_if : Bool → ℕ
one_if true = 1
one_if false = 0

abbrev pub weight : Class → ℕ
weight class = one_if class.pure + one_if class.plain + one_if (is_some class.bound) + one_if (is_some class.marking) + one_if class.nonbranching

one_at_most : (b : Bool) → one_if b ≤ 1
one_at_most true = omega arith
one_at_most false = omega arith

pub few : (class : Class) → weight class ≤ 5
few class = omega (arith, one_at_most class.pure, one_at_most class.plain, one_at_most (is_some class.bound), one_at_most (is_some class.marking), one_at_most class.nonbranching)

-- one more condition
pub heavier : (class : Class) (c : Condition) → asks_for class c ≡ false → weight (with_condition class c) ≡ weight class + 1
heavier class Pure e = omega (arith, ap one_if e)
heavier class Plain e = omega (arith, ap one_if e)
heavier class (Bounded k) e = omega (arith, ap one_if e)
heavier class (Multiple n) e = omega (arith, ap one_if e)
heavier class Nonbranching e = omega (arith, ap one_if e)

-- words before have been read, and these are left
pub record ReadsTo (text : List ℕ) (class : Class) (number : ℕ) (left : List (List ℕ)) : Type 0 where
  pub done : List (List ℕ)
  pub conditions : List Condition
  pub cut : class_words text ≡ done ++ left
  pub words : AreWordsOf conditions done
  pub unlike : AreUnlike conditions
  pub made : class ≡ with_conditions no_condition conditions
  pub count : number ≡ length done
  pub heavy : number ≡ weight class

pub reads_none : (text : List ℕ) (class : Class) (number : ℕ) → class ≡ no_condition → number ≡ 0 → ReadsTo text class number (class_words text)
reads_none text class number made none = record {
  done = [];
  conditions = [];
  cut = refl;
  words = refl;
  unlike = λ i j d less within. absurd (omega arith);
  made = made;
  count = none;
  heavy = none ∙ ap weight (sym made);
}

pub words_push : (cs : List Condition) (words : List (List ℕ)) (c : Condition) (word : List ℕ) → AreWordsOf cs words → IsWordOf c word → AreWordsOf (cs ++ c ∷ []) (words ++ word ∷ [])
words_push [] words c word are gives = subst (λ l. AreWordsOf (c ∷ []) (l ++ word ∷ [])) (sym are) (word, [], gives, refl, refl)
words_push (b ∷ cs) words c word are gives =
    (are.0, are.1 ++ word ∷ [], are.2, words_push cs are.1 c word are.3 gives, ap (λ l. l ++ word ∷ []) are.4)

made_push : (class : Class) (cs : List Condition) (c : Condition) → with_conditions class (cs ++ c ∷ []) ≡ with_condition (with_conditions class cs) c
made_push class [] c = refl
made_push class (b ∷ cs) c = made_push (with_condition class b) cs c

pub reads_more : (text : List ℕ) (old new : Class) (number : ℕ) (word : List ℕ) (left : List (List ℕ)) (c : Condition) → IsWordOf c word → asks_for old c ≡ false
    → new ≡ with_condition old c → ReadsTo text old number (word ∷ left) → ReadsTo text new (number + 1) left
reads_more text old new number word left c gives unlike made r = record {
  done = r.done ++ word ∷ [];
  conditions = r.conditions ++ c ∷ [];
  cut = r.cut ∙ sym (append_assoc r.done (word ∷ []) left);
  words = words_push r.conditions r.done c word r.words gives;
  unlike = all_pairs_push (λ a b. is_like a b ≡ false) r.conditions c r.unlike
      (unasked_all no_condition r.conditions c (ap (λ d. asks_for d c) (sym r.made) ∙ unlike)).1;
  made = made ∙ ap (λ d. with_condition d c) r.made ∙ sym (made_push no_condition r.conditions c);
  count = omega (arith, r.count, length-append r.done (word ∷ []));
  heavy = omega (arith, r.heavy, heavier old c unlike, ap weight made);
}

pub reads_end : (text : List ℕ) (class : Class) (number : ℕ) → ReadsTo text class number [] → NamesClass text class
reads_end text class number r = inr (record {
  conditions = r.conditions;
  words = subst (AreWordsOf r.conditions) (sym (r.cut ∙ append-nil r.done)) r.words;
  unlike = r.unlike;
  made = r.made;
})

pub reads_refused : (text : List ℕ) (class : Class) (number : ℕ) (word : List ℕ) (left : List (List ℕ)) (fault : ClassFault) → text ≢ codes "none"
    → ((before : List Condition) → class ≡ with_conditions no_condition before → IsRefusedWord before word number fault)
    → ReadsTo text class number (word ∷ left) → FirstRefusedWord text fault
reads_refused text class number word left fault other refused r = record {
  other = other;
  conditions = r.conditions;
  before = r.done;
  word = word;
  rest = left;
  all = r.cut;
  words = r.words;
  unlike = r.unlike;
  refused = subst (λ i. IsRefusedWord r.conditions word i fault) r.count (refused r.conditions r.made);
}

-- what an iterator gives next is the first of what is left
pub next_is : {S A B : Type 0} (steps : S → Option A → S → Type 0) (v : A → B) (s t : S) (x : A) (left : List B) → YieldsList steps v s left → steps s (Some x) t
    → (rest : List B) × (left ≡ v x ∷ rest) × YieldsList steps v t rest
next_is steps v s t x [] yields to = absurd (yields.runs x t to)
next_is steps v s t x (y ∷ ys) yields to = let more = yields.runs.1 x t to in (ys, ap (λ z. z ∷ ys) (sym more.0), record { runs = more.1 })

-- where it gives nothing, nothing is left
pub none_left : {S A B : Type 0} (steps : S → Option A → S → Type 0) (v : A → B) (s t : S) (left : List B) → YieldsList steps v s left → steps s None t → left ≡ []
none_left steps v s t [] yields to = refl
none_left steps v s t (y ∷ ys) yields to = absurd (yields.runs.0 t to)

pub is_other : (text : List ℕ) → false ≡ bytes_eq text (codes "none") → text ≢ codes "none"
is_other text off same = let both : false ≡ true = off ∙ (bytes_eq-Decides text (codes "none")).1 same in absurd cc
