-- A line has one form: the key of its fields.
use Rattle.std.proofs.Common.{◌≡◌, inl, inr, ℤ, ℕ, nat_lt, Bool, true, false, List, [], ◌∷◌, Option, None, Some, codes, cond, Contains, refl, sym, ap, ◌∙◌, arith}
use Rattle.std.specs.List.{list_all}
use Rattle.std.specs.Char.{is_ascii_digit}
use Rattle.std.specs.Str.{bytes_eq}
use Rattle.std.proofs.lemmas.Bool.Decides.{nat_tests}
use Rattle.rg_theory.specs.declared.Class.{Class}
use Rattle.rg_theory.specs.ClassWords.{NamesClass}
use Rattle.rg_theory.proofs.ClassTold.{one_class, and_left as both}
use Rattle.rg_theory.proofs.ClassDecided.{Decided, class_of_text}
use Rattle.rg_cert.specs.Text.{version_one, version_two, class_version}
use Rattle.rg_cert.specs.Numerals.{IsPlain, IsNumeral}
use Rattle.rg_cert.proofs.Words.{each_word}
use Rattle.rg_cert.specs.Lines.{HasFieldForm, AreAsked, lone_form, arc_form, state_form, label_form, depth_form, lone_words, state_words, label_words}
use Rattle.rg_cert.specs.Lines.{LineForm, LineForm.heading_line, LineForm.class_line, LineForm.unreachable_line, LineForm.fork_line, LineForm.event_line}
use Rattle.rg_cert.specs.Lines.{LineForm.states_line, LineForm.case_line, LineForm.split_tokens_line, LineForm.split_effect_line, LineForm.split_start_line}
use Rattle.rg_cert.specs.Lines.{LineForm.leaf_line, LineForm.row_line, LineForm.end_line, fields_of}

-- a word begins above the digits
abbrev pub begins_word : List ℕ → Bool
begins_word [] = false
begins_word (c ∷ cs) = nat_lt 64 c

abbrev split_key : List (List ℕ) → Option LineForm
split_key [] = None
split_key (w ∷ more) = cond (bytes_eq w (codes "tokens")) (Some split_tokens_line)
    (cond (bytes_eq w (codes "effect")) (Some split_effect_line) (cond (bytes_eq w (codes "start")) (Some split_start_line) (None)))

abbrev heading_key : List (List ℕ) → Option LineForm
heading_key [] = None
heading_key (w ∷ more) = cond (bytes_eq w (codes "1")) (Some (heading_line version_one)) (cond (bytes_eq w (codes "2")) (Some (heading_line version_two)) (None))

-- the class of a text tells the form of its line
abbrev class_form : (text : List ℕ) → Decided ((class : Class) × NamesClass text class) → Option LineForm
class_form text (inl (class, named)) = Some (class_line (class_version class))
class_form text (inr none) = None

abbrev class_key : List (List ℕ) → Option LineForm
class_key [] = None
class_key (text ∷ more) = class_form text (class_of_text text)

class_formed : (text : List ℕ) (class : Class) (is : Decided ((class : Class) × NamesClass text class)) → NamesClass text class → class_form text is ≡ Some (class_line (class_version class))
class_formed text class (inl (other, named)) is = ap (λ c. Some (class_line (class_version c))) (one_class text other class named is)
class_formed text class (inr none) is = absurd (none (class, is))

abbrev word_key : List ℕ → List (List ℕ) → Option LineForm
word_key w more = cond (bytes_eq w (codes "split")) (split_key more)
    (cond (bytes_eq w (codes "certificate")) (heading_key more)
    (cond (bytes_eq w (codes "class")) (class_key more)
    (cond (bytes_eq w (codes "unreachable")) (Some unreachable_line)
    (cond (bytes_eq w (codes "fork")) (Some fork_line)
    (cond (bytes_eq w (codes "event")) (Some event_line)
    (cond (bytes_eq w (codes "states")) (Some states_line)
    (cond (bytes_eq w (codes "case")) (Some case_line) (cond (bytes_eq w (codes "leaf")) (Some leaf_line) (cond (bytes_eq w (codes "end")) (Some end_line) (None))))))))))

abbrev is_among : List ℕ → List (List ℕ) → Bool
is_among w [] = false
is_among w (v ∷ vs) = cond (bytes_eq w v) true (is_among w vs)

abbrev row_key : List (List ℕ) → Option LineForm
row_key [] = None
row_key (w ∷ more) = cond (bytes_eq w (codes "arc")) (Some (row_line arc_form))
    (cond (bytes_eq w (codes "above")) (Some (row_line depth_form))
    (cond (is_among w lone_words) (Some (row_line lone_form)) (cond (is_among w state_words) (Some (row_line state_form)) (cond (is_among w label_words) (Some (row_line label_form)) (None)))))

-- the one form that fields may have
abbrev pub form_key : List (List ℕ) → Option LineForm
form_key [] = None
form_key (w ∷ more) = cond (begins_word w) (word_key w more) (row_key more)

digit_low : (c : ℕ) → is_ascii_digit c ≡ true → nat_lt 64 c ≡ false
digit_low c is = grind (arith, nat_tests)

plain_low : (digits : List ℕ) → IsPlain digits → begins_word digits ≡ false
plain_low [] is = refl
plain_low (c ∷ cs) is = digit_low c (both (is_ascii_digit c) (list_all is_ascii_digit cs) is.each)

pub numeral_low : (text : List ℕ) (z : ℤ) → IsNumeral text z → begins_word text ≡ false
numeral_low text z (inl (plain, value)) = plain_low text plain
numeral_low text z (inr (ds, is, plain, other, value)) = ap begins_word is

-- a row is told by its word
row_keyed : (m : List ℕ) (more : List (List ℕ)) → ((z : ℤ) × IsNumeral m z) → form_key (m ∷ more) ≡ row_key more
row_keyed m more (z, is) = ap (λ b. cond b (word_key m more) (row_key more)) (numeral_low m z is)

lone_keyed : (w : List ℕ) (more : List (List ℕ)) → Contains lone_words w → row_key (w ∷ more) ≡ Some (row_line lone_form)
lone_keyed w more has = each_word (λ v. row_key (v ∷ more) ≡ Some (row_line lone_form)) lone_words w (refl, (refl, (refl, (refl, tt)))) has

state_keyed : (w : List ℕ) (more : List (List ℕ)) → Contains state_words w → row_key (w ∷ more) ≡ Some (row_line state_form)
state_keyed w more has = each_word (λ v. row_key (v ∷ more) ≡ Some (row_line state_form)) state_words w (refl, (refl, (refl, (refl, tt)))) has

label_keyed : (w : List ℕ) (more : List (List ℕ)) → Contains label_words w → row_key (w ∷ more) ≡ Some (row_line label_form)
label_keyed w more has = each_word (λ v. row_key (v ∷ more) ≡ Some (row_line label_form)) label_words w (refl, (refl, (refl, tt))) has

pub keyed : (form : LineForm) (texts : List (List ℕ)) → AreAsked HasFieldForm (fields_of form) texts → form_key texts ≡ Some form
keyed (heading_line version_one) (w ∷ []) are = absurd are.1
keyed (heading_line version_one) (w ∷ v ∷ more) are = ap (λ t. form_key (t ∷ v ∷ more)) are.0 ∙ ap (λ t. form_key (codes "certificate" ∷ t ∷ more)) are.1.0
keyed (heading_line version_two) (w ∷ []) are = absurd are.1
keyed (heading_line version_two) (w ∷ v ∷ more) are = ap (λ t. form_key (t ∷ v ∷ more)) are.0 ∙ ap (λ t. form_key (codes "certificate" ∷ t ∷ more)) are.1.0
keyed (class_line version) (w ∷ []) are = absurd are.1
keyed (class_line version) (w ∷ text ∷ more) are =
    let (class, named, first) = are.1.0 in
    ap (λ t. form_key (t ∷ text ∷ more)) are.0 ∙ class_formed text class (class_of_text text) named ∙ ap (λ v. Some (class_line v)) first
keyed unreachable_line (w ∷ more) are = ap (λ t. form_key (t ∷ more)) are.0
keyed fork_line (w ∷ more) are = ap (λ t. form_key (t ∷ more)) are.0
keyed event_line (w ∷ more) are = ap (λ t. form_key (t ∷ more)) are.0
keyed states_line (w ∷ more) are = ap (λ t. form_key (t ∷ more)) are.0
keyed case_line (w ∷ more) are = ap (λ t. form_key (t ∷ more)) are.0
keyed leaf_line (w ∷ more) are = ap (λ t. form_key (t ∷ more)) are.0
keyed end_line (w ∷ more) are = ap (λ t. form_key (t ∷ more)) are.0
keyed split_tokens_line (w ∷ []) are = absurd are.1
keyed split_tokens_line (w ∷ v ∷ more) are = ap (λ t. form_key (t ∷ v ∷ more)) are.0 ∙ ap (λ t. form_key (codes "split" ∷ t ∷ more)) are.1.0
keyed split_effect_line (w ∷ []) are = absurd are.1
keyed split_effect_line (w ∷ v ∷ more) are = ap (λ t. form_key (t ∷ v ∷ more)) are.0 ∙ ap (λ t. form_key (codes "split" ∷ t ∷ more)) are.1.0
keyed split_start_line (w ∷ []) are = absurd are.1
keyed split_start_line (w ∷ v ∷ more) are = ap (λ t. form_key (t ∷ v ∷ more)) are.0 ∙ ap (λ t. form_key (codes "split" ∷ t ∷ more)) are.1.0
keyed (row_line lone_form) (m ∷ []) are = absurd are.1
keyed (row_line lone_form) (m ∷ w ∷ more) are = row_keyed m (w ∷ more) are.0 ∙ lone_keyed w more are.1.0
keyed (row_line arc_form) (m ∷ []) are = absurd are.1
keyed (row_line arc_form) (m ∷ w ∷ more) are = row_keyed m (w ∷ more) are.0 ∙ ap (λ v. row_key (v ∷ more)) are.1.0
keyed (row_line state_form) (m ∷ []) are = absurd are.1
keyed (row_line state_form) (m ∷ w ∷ more) are = row_keyed m (w ∷ more) are.0 ∙ state_keyed w more are.1.0
keyed (row_line label_form) (m ∷ []) are = absurd are.1
keyed (row_line label_form) (m ∷ w ∷ more) are = row_keyed m (w ∷ more) are.0 ∙ label_keyed w more are.1.0
keyed (row_line depth_form) (m ∷ []) are = absurd are.1
keyed (row_line depth_form) (m ∷ w ∷ more) are = row_keyed m (w ∷ more) are.0 ∙ ap (λ v. row_key (v ∷ more)) are.1.0
keyed (heading_line version) [] are = absurd are
keyed (class_line version) [] are = absurd are
keyed unreachable_line [] are = absurd are
keyed fork_line [] are = absurd are
keyed event_line [] are = absurd are
keyed states_line [] are = absurd are
keyed case_line [] are = absurd are
keyed split_tokens_line [] are = absurd are
keyed split_effect_line [] are = absurd are
keyed split_start_line [] are = absurd are
keyed leaf_line [] are = absurd are
keyed end_line [] are = absurd are
keyed (row_line lone_form) [] are = absurd are
keyed (row_line arc_form) [] are = absurd are
keyed (row_line state_form) [] are = absurd are
keyed (row_line label_form) [] are = absurd are
keyed (row_line depth_form) [] are = absurd are

-- fields have one form
pub one_form : (f g : LineForm) (texts : List (List ℕ)) → AreAsked HasFieldForm (fields_of f) texts → AreAsked HasFieldForm (fields_of g) texts → f ≡ g
one_form f g texts x y = let same = sym (keyed f texts x) ∙ keyed g texts y in cc
