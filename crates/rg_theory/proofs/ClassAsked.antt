-- What a class asks for once it has one more condition.
use Rattle.std.proofs.Common.{◌≡◌, ◌⊎◌, inl, ⊎_elim, inr, ℕ, zero, suc, ◌<◌, ◌||◌, true, false, List, [], ◌∷◌, length, get_or, Any, refl, sym, ◌∙◌, arith}
use Rattle.std.proofs.lemmas.Bool.{or_cases, or_parts}
use Rattle.rg_theory.specs.declared.Class.{Class}
use Rattle.rg_theory.specs.declared.class_words.Condition.{Condition}
use Rattle.rg_theory.specs.declared.class_words.Condition.TheVariants.{Pure, Plain, Bounded, Multiple, Nonbranching}
use Rattle.rg_theory.specs.ClassWords.{is_like, with_condition, with_conditions, asks_for}

-- it asks for conditions like the one added, and for what it asked for before
pub asked_with : (class : Class) (b c : Condition) → asks_for (with_condition class b) c ≡ (is_like b c || asks_for class c)
asked_with class Pure Pure = refl
asked_with class Plain Plain = refl
asked_with class (Bounded j) (Bounded k) = refl
asked_with class (Multiple m) (Multiple n) = refl
asked_with class Nonbranching Nonbranching = refl
asked_with class _ _ = refl

-- a condition that isn't asked after one more was added wasn't asked before, and isn't like that one
pub unasked_with : (class : Class) (b c : Condition) → asks_for (with_condition class b) c ≡ false → (is_like b c ≡ false) × (asks_for class c ≡ false)
unasked_with class b c e = or_parts (is_like b c) (asks_for class c) (sym (asked_with class b c) ∙ e)

-- no condition of a list is like this one
abbrev pub IsNewTo : List Condition → Condition → Type 0
IsNewTo cs c = (k : ℕ) (d : Condition) → k < length cs → is_like (get_or cs k d) c ≡ false

-- a condition that isn't asked after more were added wasn't asked before, and is like none of those
pub unasked_all : (class : Class) (cs : List Condition) (c : Condition) → asks_for (with_conditions class cs) c ≡ false → (asks_for class c ≡ false) × IsNewTo cs c
unasked_all class [] c e = (e, λ k d lt. absurd (omega arith))
unasked_all class (b ∷ cs) c e =
    let rest = unasked_all (with_condition class b) cs c e in
    let first = unasked_with class b c rest.0 in
    (first.1, each first.0 rest.1)
  where
    each : is_like b c ≡ false → IsNewTo cs c → IsNewTo (b ∷ cs) c
    each here later zero d lt = here
    each here later (suc k) d lt = later k d (omega arith)

-- a condition that is asked after more were added was asked before, or is like one of those
pub asked_among : (class : Class) (cs : List Condition) (c : Condition) → asks_for (with_conditions class cs) c ≡ true
    → (asks_for class c ≡ true) ⊎ Any (λ b. is_like b c ≡ true) cs
asked_among class [] c e = inl e
asked_among class (b ∷ cs) c e = ⊎_elim (λ earlier. by (or_cases (is_like b c) (asks_for class c) (sym (asked_with class b c) ∙ earlier)))
    (λ more. inr (there more)) (asked_among (with_condition class b) cs c e)
  where
    there : Any (λ b. is_like b c ≡ true) cs → Any (λ b. is_like b c ≡ true) (b ∷ cs)
    there more = (suc more.0, more.1, omega (arith, more.2), more.3, more.4)

    by : (is_like b c ≡ true) ⊎ (asks_for class c ≡ true) → (asks_for class c ≡ true) ⊎ Any (λ b. is_like b c ≡ true) (b ∷ cs)
    by (inl like) = inr (0, b, omega arith, refl, like)
    by (inr before) = inl before
