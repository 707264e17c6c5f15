-- A text names a class, or it has a first refused word.
use Rattle.std.proofs.Common.{◌≡◌, ◌≢◌, ◌⊎◌, inl, inr, ⊎_elim, ℕ, zero, suc, ◌-◌, ◌<◌, ◌≤◌, Bool, true, false, List, [], ◌∷◌, ◌++◌, length, take, Any, codes, decimal, true≢false, refl, sym, ap, ap₂, subst, ◌∙◌, arith, append_assoc, append-nil, length-append}
use Rattle.std.proofs.Math.Seq.{take-append_seam}
use Rattle.std.proofs.lemmas.Bool.{cases_lt}
use Rattle.std.proofs.lemmas.List.Quantifiers.{all_pairs_push}
use Rattle.std.specs.List.{list_all}
use Rattle.std.specs.Char.{is_ascii_digit}
use Rattle.rg_theory.specs.declared.class_words.Condition.{Condition}
use Rattle.rg_theory.specs.declared.class_words.Condition.TheVariants.{Bounded, Multiple}
use Rattle.rg_theory.specs.declared.class_words.ClassFault.{ClassFault}
use Rattle.rg_theory.specs.declared.class_words.ClassFault.TheVariants.{UnknownWord, BadNumber, Repeated}
use Rattle.rg_theory.specs.ClassWords.{IsWordOf, AreWordsOf, is_like, AreUnlike, no_condition, with_conditions, class_words, IsBadNumeral, IsTail, IsBadNumber, IsRefusedWord, IsClassTold}
use Rattle.rg_theory.proofs.ClassAsked.{IsNewTo}
use Rattle.rg_theory.proofs.ClassLoop.{words_push}
use Rattle.rg_theory.proofs.ClassRead.{Decided, Gives, same_bytes, condition_or_not}
use Rattle.rg_theory.proofs.ClassTexts.{tail_length}

-- a number with a tail gives a condition
gives_numbered : (word tail : List ℕ) (k : ℕ) → 0 < k → k ≤ 255 → IsTail tail → word ≡ decimal k ++ tail → Gives word
gives_numbered word tail k some few (inl e) is = (Bounded k, inr (some, few, is ∙ ap (λ t. decimal k ++ t) e))
gives_numbered word tail k some few (inr e) is = (Multiple k, (some, few, is ∙ ap (λ t. decimal k ++ t) e))

-- a word that gives no condition and ends in a tail is a bad number, or it isn't
bad_before : (word tail : List ℕ) → IsTail tail → (Gives word → ⊥) → Decided ((digits : List ℕ) × IsBadNumeral digits × (word ≡ digits ++ tail))
bad_before word tail ends gives = by (same_bytes word (digits ++ tail)) (list_all is_ascii_digit digits) refl (cases_lt 0 (length digits))
  where
    digits : List ℕ
    digits = take (length word - 8) word

    is_front : (front : List ℕ) → word ≡ front ++ tail → digits ≡ front
    is_front front e =
        let long : length word - 8 ≡ length front = omega (arith, ap length e, length-append front tail, tail_length tail ends) in
        ap₂ take long e ∙ take-append_seam front tail

    by : Decided (word ≡ digits ++ tail) → (b : Bool) → list_all is_ascii_digit digits ≡ b → (0 < length digits) ⊎ (length digits ≤ 0)
        → Decided ((digits : List ℕ) × IsBadNumeral digits × (word ≡ digits ++ tail))
    by (inl is) true all (inl some) = inl (
      digits,
      record {
        some = some;
        all = all;
        none = λ k positive few e. gives (gives_numbered word tail k positive few ends (is ∙ ap (λ d. d ++ tail) e));
      },
      is,
    )
    by (inl is) true all (inr empty) = inr (λ (front, bad, spelled). omega (arith, bad.some, ap length (is_front front spelled), empty))
    by (inl is) false off size = inr (λ (front, bad, spelled). true≢false (sym bad.all ∙ ap (list_all is_ascii_digit) (sym (is_front front spelled)) ∙ off))
    by (inr other) b e size = inr (λ (front, bad, spelled). other (spelled ∙ ap (λ d. d ++ tail) (sym (is_front front spelled))))

-- a word that gives no condition is a bad number, or it isn't
bad_or_not : (word : List ℕ) → (Gives word → ⊥) → Decided (IsBadNumber word)
bad_or_not word gives = by (bad_before word (codes "-bounded") (inl refl) gives) (bad_before word (codes "-marking") (inr refl) gives)
  where
    neither : ((digits : List ℕ) × IsBadNumeral digits × (word ≡ digits ++ codes "-bounded") → ⊥) → ((digits : List ℕ) × IsBadNumeral digits × (word ≡ digits ++ codes "-marking") → ⊥)
        → (digits tail : List ℕ) → IsBadNumeral digits → IsTail tail → word ≡ digits ++ tail → ⊥
    neither bound marking digits tail bad (inl e) is = bound (digits, bad, is ∙ ap (λ t. digits ++ t) e)
    neither bound marking digits tail bad (inr e) is = marking (digits, bad, is ∙ ap (λ t. digits ++ t) e)

    by : Decided ((digits : List ℕ) × IsBadNumeral digits × (word ≡ digits ++ codes "-bounded")) → Decided ((digits : List ℕ) × IsBadNumeral digits × (word ≡ digits ++ codes "-marking"))
        → Decided (IsBadNumber word)
    by (inl (digits, bad, is)) marking = inl (record { digits = digits; tail = codes "-bounded"; numeral = bad; ends = inl refl; spelled = is })
    by (inr bound) (inl (digits, bad, is)) = inl (record { digits = digits; tail = codes "-marking"; numeral = bad; ends = inr refl; spelled = is })
    by (inr bound) (inr marking) = inr (λ b. neither bound marking b.digits b.tail b.numeral b.ends b.spelled)

like_or_new : (before : List Condition) (c : Condition) → Any (λ b. is_like b c ≡ true) before ⊎ IsNewTo before c
like_or_new [] c = inr (λ k d less. absurd (omega arith))
like_or_new (b ∷ before) c = by (is_like b c) refl (like_or_new before c)
  where
    each : is_like b c ≡ false → IsNewTo before c → IsNewTo (b ∷ before) c
    each e new zero d less = e
    each e new (suc k) d less = new k d (omega arith)

    by : (like : Bool) → is_like b c ≡ like → Any (λ b. is_like b c ≡ true) before ⊎ IsNewTo before c → Any (λ b. is_like b c ≡ true) (b ∷ before) ⊎ IsNewTo (b ∷ before) c
    by true e rest = inl (0, b, omega arith, refl, e)
    by false e (inl more) = inl (suc more.0, more.1, omega (arith, more.2), more.3, more.4)
    by false e (inr new) = inr (each e new)

-- a word gives a new condition, or it is refused
abbrev IsTold : List Condition → List ℕ → ℕ → Type 0
IsTold before word i = ((c : Condition) × IsWordOf c word × IsNewTo before c) ⊎ ((fault : ClassFault) × IsRefusedWord before word i fault)

word_told : (before : List Condition) (word : List ℕ) (i : ℕ) → IsTold before word i
word_told before word i = by (condition_or_not word) (bad_or_not word)
  where
    given : (c : Condition) → IsWordOf c word → Any (λ b. is_like b c ≡ true) before ⊎ IsNewTo before c → IsTold before word i
    given c gives (inl again) = inr (Repeated i, (refl, record { condition = c; gives = gives; again = again }))
    given c gives (inr new) = inl (c, gives, new)

    refused : (Gives word → ⊥) → Decided (IsBadNumber word) → IsTold before word i
    refused none (inl bad) = inr (BadNumber i, (refl, bad))
    refused none (inr fine) = inr (UnknownWord i, (refl, fine, λ c gives. none (c, gives)))

    by : Decided (Gives word) → ((Gives word → ⊥) → Decided (IsBadNumber word)) → IsTold before word i
    by (inl (c, gives)) bad = given c gives (like_or_new before c)
    by (inr none) bad = refused none (bad none)

-- the words that are left after those that gave conditions, none twice
read_on : (text : List ℕ) → text ≢ codes "none" → (left done : List (List ℕ)) (cs : List Condition) → class_words text ≡ done ++ left → AreWordsOf cs done → AreUnlike cs
    → IsClassTold text
read_on text other [] done cs cut words unlike = inl (
  with_conditions no_condition cs,
  inr (record {
    conditions = cs;
    words = subst (AreWordsOf cs) (sym (cut ∙ append-nil done)) words;
    unlike = unlike;
    made = refl;
  }),
)
read_on text other (word ∷ left) done cs cut words unlike =
    by (word_told cs word (length done))
    (λ c gives new. read_on text other left (done ++ word ∷ []) (cs ++ c ∷ []) (cut ∙ sym (append_assoc done (word ∷ []) left)) (words_push cs done c word words gives)
    (all_pairs_push (λ a b. is_like a b ≡ false) cs c unlike new))
  where
    by : IsTold cs word (length done) → ((c : Condition) → IsWordOf c word → IsNewTo cs c → IsClassTold text) → IsClassTold text
    by (inl (c, gives, new)) rest = rest c gives new
    by (inr (fault, refused)) rest = inr (
      fault,
      record {
        other = other;
        conditions = cs;
        before = done;
        word = word;
        rest = left;
        all = cut;
        words = words;
        unlike = unlike;
        refused = refused;
      },
    )

pub class_told : (text : List ℕ) → IsClassTold text
class_told text =
    ⊎_elim (λ same. inl (no_condition, inl (same, refl)))
    (λ other. read_on text other (class_words text) [] [] refl refl (λ i j d less within. absurd (omega arith))) (same_bytes text (codes "none"))
