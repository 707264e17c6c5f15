-- A text names one class or has one first refused word, never both.
use Rattle.std.proofs.Common.{◌≡◌, inl, inr, ℕ, ◌<◌, ◌≤◌, Bool, true, false, List, [], ◌∷◌, ◌++◌, length, get_or, Any, codes, decimal, refl, sym, ap, ap₂, subst, ◌∙◌, arith, length-append, ◌&&◌}
use Rattle.std.proofs.Math.Seq.{get_or-append_seam}
use Rattle.std.proofs.lemmas.List.{get_or_append_left}
use Rattle.std.specs.List.{list_all}
use Rattle.std.specs.Char.{is_ascii_digit}
use Rattle.rg_theory.specs.declared.Class.{Class}
use Rattle.rg_theory.proofs.ClassTexts.{same_tails}
use Rattle.rg_theory.proofs.ClassRead.{one_condition, none_gives}
use Rattle.rg_theory.specs.declared.class_words.Condition.{Condition}
use Rattle.rg_theory.specs.declared.class_words.Condition.TheVariants.{Pure, Plain, Bounded, Multiple, Nonbranching}
use Rattle.rg_theory.specs.declared.class_words.ClassFault.{ClassFault}
use Rattle.rg_theory.specs.declared.class_words.ClassFault.TheVariants.{UnknownWord, BadNumber, Repeated}
use Rattle.rg_theory.specs.ClassWords.{IsWordOf, AreWordsOf, is_like, AreUnlike, no_condition, with_conditions, class_words, IsMadeOf, NamesClass, IsTail, IsBadNumber, IsRefusedWord, FirstRefusedWord}

-- words give one list of conditions
pub same_conditions : (cs ds : List Condition) (words : List (List ℕ)) → AreWordsOf cs words → AreWordsOf ds words → cs ≡ ds
same_conditions [] [] words x y = refl
same_conditions [] (b ∷ ds) words x y = absurd (let e = sym x ∙ y.4 in cc)
same_conditions (a ∷ cs) [] words x y = absurd (let e = sym y ∙ x.4 in cc)
same_conditions (a ∷ cs) (b ∷ ds) words x y =
    let e = sym x.4 ∙ y.4 in
    let head : x.0 ≡ y.0 = cc in
    let tail : x.1 ≡ y.1 = cc in
    ap₂ ◌∷◌ (one_condition a b x.0 x.2 (subst (IsWordOf b) (sym head) y.2)) (same_conditions cs ds x.1 x.3 (subst (AreWordsOf ds) (sym tail) y.3))

none_alone : (text : List ℕ) (class : Class) → text ≡ codes "none" → IsMadeOf text class → ⊥
none_alone text class is made = by made.conditions (subst (λ t. AreWordsOf made.conditions (class_words t)) is made.words)
  where
    by : (cs : List Condition) → AreWordsOf cs (class_words (codes "none")) → ⊥
    by [] x = cc
    by (c ∷ cs) x = let e = x.4 in let head : codes "none" ≡ x.0 = cc in none_gives c x.0 (sym head) x.2

pub one_class : (text : List ℕ) (a b : Class) → NamesClass text a → NamesClass text b → a ≡ b
one_class text a b (inl x) (inl y) = x.1 ∙ sym y.1
one_class text a b (inl x) (inr y) = absurd (none_alone text b x.0 y)
one_class text a b (inr x) (inl y) = absurd (none_alone text a y.0 x)
one_class text a b (inr x) (inr y) =
    x.made ∙ ap (with_conditions no_condition) (same_conditions x.conditions y.conditions (class_words text) x.words y.words) ∙ sym y.made

pub and_left : (a b : Bool) → (a && b) ≡ true → a ≡ true
and_left true b e = refl
and_left false b e = absurd cc

-- a bad number begins with a digit
begins_else : (word text : List ℕ) → IsBadNumber word → word ≡ text → is_ascii_digit (get_or text 0 0) ≡ false → ⊥
begins_else word text bad is off = by bad.digits bad.numeral.some bad.numeral.all (sym bad.spelled ∙ is)
  where
    by : (ds : List ℕ) → 0 < length ds → list_all is_ascii_digit ds ≡ true → ds ++ bad.tail ≡ text → ⊥
    by [] some all e = omega arith
    by (d ∷ ds) some all e =
        let head : d ≡ get_or text 0 0 = ap (λ l. get_or l 0 0) e in
        let both : true ≡ false = sym (and_left (is_ascii_digit d) (list_all is_ascii_digit ds) all) ∙ ap is_ascii_digit head ∙ off in cc

-- a bad number with the tail of a good one
bad_number : (word : List ℕ) (k : ℕ) (tail : List ℕ) → IsBadNumber word → 0 < k → k ≤ 255 → IsTail tail → word ≡ decimal k ++ tail → ⊥
bad_number word k tail bad some few ends spelled =
    bad.numeral.none k some few (same_tails bad.digits (decimal k) bad.tail tail bad.ends ends (sym bad.spelled ∙ spelled)).0

bad_gives : (c : Condition) (word : List ℕ) → IsBadNumber word → IsWordOf c word → ⊥
bad_gives Pure word bad x = begins_else word (codes "pure") bad x refl
bad_gives Plain word bad x = begins_else word (codes "plain") bad x refl
bad_gives (Bounded k) word bad (inl x) = begins_else word (codes "safe") bad x.1 refl
bad_gives (Bounded k) word bad (inr x) = bad_number word k (codes "-bounded") bad x.0 x.1 (inl refl) x.2
bad_gives (Multiple n) word bad x = bad_number word n (codes "-marking") bad x.0 x.1 (inr refl) x.2
bad_gives Nonbranching word bad x = begins_else word (codes "output-nonbranching") bad x refl

-- no condition before is like this one
abbrev IsNew : List Condition → Condition → Type 0
IsNew before c = Any (λ b. is_like b c ≡ true) before → ⊥

-- a word that gives a new condition isn't refused
accepted : (before : List Condition) (c : Condition) (word : List ℕ) (i : ℕ) (fault : ClassFault) → IsWordOf c word → IsNew before c → IsRefusedWord before word i fault → ⊥
accepted before c word i (UnknownWord at) gives new r = r.2 c gives
accepted before c word i (BadNumber at) gives new r = bad_gives c word r.1 gives
accepted before c word i (Repeated at) gives new r =
    new (subst (λ d. Any (λ b. is_like b d ≡ true) before) (one_condition r.1.condition c word r.1.gives gives) r.1.again)

-- the conditions of words up to one of them, and that one's
record Split (all : List Condition) (before : List (List ℕ)) (word : List ℕ) : Type 0 where
  first : List Condition
  at : Condition
  rest : List Condition
  is : all ≡ first ++ at ∷ rest
  words : AreWordsOf first before
  gives : IsWordOf at word

split : (cs : List Condition) (before : List (List ℕ)) (word : List ℕ) (rest : List (List ℕ)) → AreWordsOf cs (before ++ word ∷ rest) → Split cs before word
split [] [] word rest x = absurd (let e = x in cc)
split [] (w ∷ before) word rest x = absurd (let e = x in cc)
split (c ∷ cs) [] word rest x = let e = x.4 in let head : word ≡ x.0 = cc in record {
  first = [];
  at = c;
  rest = cs;
  is = refl;
  words = refl;
  gives = subst (IsWordOf c) (sym head) x.2;
}
split (c ∷ cs) (w ∷ before) word rest x =
    let e = x.4 in
    let head : w ≡ x.0 = cc in
    let tail : before ++ word ∷ rest ≡ x.1 = cc in
    let more = split cs before word rest (subst (AreWordsOf cs) (sym tail) x.3) in record {
      first = c ∷ more.first;
      at = more.at;
      rest = more.rest;
      is = ap (λ l. c ∷ l) more.is;
      words = (w, before, subst (IsWordOf c) (sym head) x.2, more.words, refl);
      gives = more.gives;
    }

-- the one after the first is new where no two are like
new_after : (first : List Condition) (c : Condition) (rest : List Condition) → AreUnlike (first ++ c ∷ rest) → IsNew first c
new_after first c rest unlike any =
    let k = any.0 in
    let b = any.1 in
    let apart = unlike k (length first) b any.2 (omega (arith, length-append first (c ∷ rest))) in
    let left : get_or (first ++ c ∷ rest) k b ≡ b = get_or_append_left first (c ∷ rest) b k any.2 ∙ any.3 in
    let right : get_or (first ++ c ∷ rest) (length first) b ≡ c = get_or-append_seam first c rest b in
    let both : true ≡ false = sym any.4 ∙ ap₂ is_like (sym left) (sym right) ∙ apart in cc

-- words whose conditions are all given and new don't hold a refused one
not_refused : (cs : List Condition) (f : List Condition) (before : List (List ℕ)) (word : List ℕ) (rest : List (List ℕ)) (i : ℕ) (fault : ClassFault)
    → AreWordsOf cs (before ++ word ∷ rest) → AreUnlike cs → AreWordsOf f before → IsRefusedWord f word i fault → ⊥
not_refused cs f before word rest i fault words unlike given refused =
    let s = split cs before word rest words in
    accepted s.first s.at word i fault s.gives (new_after s.first s.at s.rest (subst AreUnlike s.is unlike))
    (subst (λ l. IsRefusedWord l word i fault) (same_conditions f s.first before given s.words) refused)

pub not_both : (text : List ℕ) (class : Class) (fault : ClassFault) → NamesClass text class → FirstRefusedWord text fault → ⊥
not_both text class fault (inl x) f = f.other x.0
not_both text class fault (inr x) f =
    not_refused x.conditions f.conditions f.before f.word f.rest (length f.before) fault (subst (AreWordsOf x.conditions) f.all x.words) x.unlike f.words f.refused

-- two cuts of a list
data Cuts {X : Type 0} (xs : List X) (x : X) (ys : List X) (y : X) : Type 0 where
  same : xs ≡ ys → x ≡ y → Cuts xs x ys y
  earlier : (more : List X) → ys ≡ xs ++ x ∷ more → Cuts xs x ys y
  later : (more : List X) → xs ≡ ys ++ y ∷ more → Cuts xs x ys y

longer : {X : Type 0} (z : X) (xs : List X) (x : X) (ys : List X) (y : X) → Cuts xs x ys y → Cuts (z ∷ xs) x (z ∷ ys) y
longer z xs x ys y (same e f) = same (ap (λ l. z ∷ l) e) f
longer z xs x ys y (earlier more e) = earlier more (ap (λ l. z ∷ l) e)
longer z xs x ys y (later more e) = later more (ap (λ l. z ∷ l) e)

cuts : {X : Type 0} (xs : List X) (x : X) (us ys : List X) (y : X) (vs : List X) → xs ++ x ∷ us ≡ ys ++ y ∷ vs → Cuts xs x ys y
cuts [] x us [] y vs e = same refl cc
cuts [] x us (w ∷ ys) y vs e = let head : x ≡ w = cc in earlier ys (ap (λ z. z ∷ ys) (sym head))
cuts (z ∷ xs) x us [] y vs e = let head : z ≡ y = cc in later xs (ap (λ w. w ∷ xs) head)
cuts (z ∷ xs) x us (w ∷ ys) y vs e =
    let head : z ≡ w = cc in
    let tail : xs ++ x ∷ us ≡ ys ++ y ∷ vs = cc in
    subst (λ h. Cuts (z ∷ xs) x (h ∷ ys) y) head (longer z xs x ys y (cuts xs x us ys y vs tail))

-- a word is refused in one way
one_way : (before : List Condition) (word : List ℕ) (i : ℕ) (f g : ClassFault) → IsRefusedWord before word i f → IsRefusedWord before word i g → f ≡ g
one_way before word i (UnknownWord a) (UnknownWord b) r s = ap UnknownWord (r.0 ∙ sym s.0)
one_way before word i (UnknownWord a) (BadNumber b) r s = absurd (r.1 s.1)
one_way before word i (UnknownWord a) (Repeated b) r s = absurd (r.2 s.1.condition s.1.gives)
one_way before word i (BadNumber a) (UnknownWord b) r s = absurd (s.1 r.1)
one_way before word i (BadNumber a) (BadNumber b) r s = ap BadNumber (r.0 ∙ sym s.0)
one_way before word i (BadNumber a) (Repeated b) r s = absurd (bad_gives s.1.condition word r.1 s.1.gives)
one_way before word i (Repeated a) (UnknownWord b) r s = absurd (s.2 r.1.condition r.1.gives)
one_way before word i (Repeated a) (BadNumber b) r s = absurd (bad_gives r.1.condition word s.1 r.1.gives)
one_way before word i (Repeated a) (Repeated b) r s = ap Repeated (r.0 ∙ sym s.0)

pub one_fault : (text : List ℕ) (f g : ClassFault) → FirstRefusedWord text f → FirstRefusedWord text g → f ≡ g
one_fault text f g x y = by (cuts x.before x.word x.rest y.before y.word y.rest (sym x.all ∙ y.all))
  where
    by : Cuts x.before x.word y.before y.word → f ≡ g
    by (same e w) =
        let conditions : y.conditions ≡ x.conditions = same_conditions y.conditions x.conditions x.before (subst (AreWordsOf y.conditions) (sym e) y.words) x.words in
        let moved : IsRefusedWord x.conditions x.word (length x.before) g =
        subst (λ l. IsRefusedWord x.conditions x.word (length l) g) (sym e)
        (subst (λ v. IsRefusedWord x.conditions v (length y.before) g) (sym w) (subst (λ cs. IsRefusedWord cs y.word (length y.before) g) conditions y.refused)) in
        one_way x.conditions x.word (length x.before) f g x.refused moved
    by (earlier more e) =
        absurd (not_refused y.conditions x.conditions x.before x.word more (length x.before) f (subst (AreWordsOf y.conditions) e y.words) y.unlike x.words x.refused)
    by (later more e) =
        absurd (not_refused x.conditions y.conditions y.before y.word more (length y.before) g (subst (AreWordsOf x.conditions) e x.words) x.unlike y.words y.refused)
