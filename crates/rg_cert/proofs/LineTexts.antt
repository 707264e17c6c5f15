-- The lines of certificates hold no line feeds, and their fields no spaces.
use Rattle.std.proofs.Common.{◌≡◌, ◌≢◌, ℕ, suc, ◌<◌, ◌≤◌, nat_lt, nat_le, length, take, Bool, true, false, ◌&&◌, List, [], ◌∷◌, All, Contains, ⊎_elim, refl, sym, ap, subst, ◌∙◌, arith}
use Rattle.std.specs.List.{list_all}
use Rattle.std.proofs.lemmas.Bool.Decides.{nat_tests}
use Rattle.std.proofs.lemmas.List.{length-take, take_all}
use Rattle.std.proofs.lemmas.List.Elements.{All-append, All-cons, All-head, All-tail, All-weaker, All-nil}
use Rattle.std.proofs.lemmas.List.Sums.{AllPass-from_list_all}
use Rattle.rg_text.specs.Line.{fields}
use Rattle.rg_theory.proofs.ClassBytes.{is_shown, named_shown}
use Rattle.rg_theory.proofs.Lists.{Contains-cons_cases}
use Rattle.rg_cert.specs.Text.{version_one, version_two, spaced}
use Rattle.rg_cert.specs.Lines.{Field, Field.word, Field.class_words, Field.state, Field.label, Field.number, HasFieldForm, AreAsked, RowForm, lone_form, arc_form, state_form, label_form, depth_form, one_of}
use Rattle.rg_cert.specs.Lines.{LineForm, LineForm.heading_line}
use Rattle.rg_cert.specs.Lines.{LineForm.class_line, LineForm.unreachable_line, LineForm.fork_line, LineForm.event_line, LineForm.states_line, LineForm.case_line}
use Rattle.rg_cert.specs.Lines.{LineForm.split_tokens_line, LineForm.split_effect_line, LineForm.split_start_line, LineForm.leaf_line, LineForm.row_line}
use Rattle.rg_cert.specs.Lines.{LineForm.end_line, fields_of, HasForm}
use Rattle.rg_cert.proofs.Cuts.{Lacks, spaced_fields, fields_spaced, name_above}
use Rattle.rg_cert.proofs.Decimal.{numeral_shown}

-- each byte is above the space
abbrev pub IsAbove : List ℕ → Type 0
IsAbove text = All (λ b. 32 < b) text

pub above_lacks : (c : ℕ) (text : List ℕ) → c ≤ 32 → IsAbove text → Lacks c text
above_lacks c text few above = All-weaker (λ b. 32 < b) (λ b. b ≢ c) (λ b h e. omega arith) text above

abbrev is_above : ℕ → Bool
is_above b = nat_lt 32 b

-- a word is above, and so is what else has the form of a field
abbrev is_fine : Field → Bool
is_fine (word w) = list_all is_above w
is_fine (one_of words) = list_all (λ w. list_all is_above w) words
is_fine _ = true

passes_above : (b : ℕ) → is_above b ≡ true → 32 < b
passes_above b is = grind (arith, nat_tests)

shown_above : (b : ℕ) → is_shown b ≡ true → 32 < b
shown_above b is = grind (arith, nat_tests)

word_above : (w text : List ℕ) → list_all is_above w ≡ true → text ≡ w → IsAbove text
word_above w text fine is = subst IsAbove (sym is) (All-weaker (λ b. is_above b ≡ true) (λ b. 32 < b) passes_above w (AllPass-from_list_all is_above w fine))

both : (a b : Bool) → (a && b) ≡ true → (a ≡ true) × (b ≡ true)
both true b h = (refl, h)
both false b h = absurd cc

words_above : (words : List (List ℕ)) (text : List ℕ) → list_all (λ w. list_all is_above w) words ≡ true → Contains words text → IsAbove text
words_above [] text fine (k, less, is) = absurd (omega arith)
words_above (w ∷ words) text fine has =
    let parts = both (list_all is_above w) (list_all (λ w. list_all is_above w) words) fine in
    ⊎_elim (λ same. word_above w text parts.0 (sym same)) (λ more. words_above words text parts.1 more) (Contains-cons_cases w text words has)

field_above : (field : Field) (text : List ℕ) → is_fine field ≡ true → HasFieldForm field text → IsAbove text
field_above (word w) text fine is = word_above w text fine is
field_above (one_of words) text fine has = words_above words text fine has
field_above (class_words version) text fine (class, named, first) =
    All-weaker (λ b. is_shown b ≡ true) (λ b. 32 < b) shown_above text (AllPass-from_list_all is_shown text (named_shown text class named))
field_above state text fine is = name_above text is
field_above label text fine is = name_above text is
field_above (number range) text fine (z, is) = All-weaker (λ b. (32 < b) × (b < 128)) (λ b. 32 < b) (λ b h. h.0) text (numeral_shown text z is)

texts_above : (fields : List Field) (texts : List (List ℕ)) → list_all is_fine fields ≡ true → AreAsked HasFieldForm fields texts → All IsAbove texts
texts_above [] [] fine are = All-nil IsAbove
texts_above [] (text ∷ texts) fine are = absurd are
texts_above (field ∷ fields) [] fine are = absurd are
texts_above (field ∷ fields) (text ∷ texts) fine are =
    let parts = both (is_fine field) (list_all is_fine fields) fine in
    All-cons IsAbove text texts (field_above field text parts.0 are.0) (texts_above fields texts parts.1 are.1)

row_fine : (row : RowForm) → list_all is_fine (fields_of (row_line row)) ≡ true
row_fine lone_form = refl
row_fine arc_form = refl
row_fine state_form = refl
row_fine label_form = refl
row_fine depth_form = refl

form_fine : (form : LineForm) → list_all is_fine (fields_of form) ≡ true
form_fine (heading_line version_one) = refl
form_fine (heading_line version_two) = refl
form_fine (class_line version) = refl
form_fine unreachable_line = refl
form_fine fork_line = refl
form_fine event_line = refl
form_fine states_line = refl
form_fine case_line = refl
form_fine split_tokens_line = refl
form_fine split_effect_line = refl
form_fine split_start_line = refl
form_fine leaf_line = refl
form_fine (row_line row) = row_fine row
form_fine end_line = refl

pub form_above : (form : LineForm) (texts : List (List ℕ)) → AreAsked HasFieldForm (fields_of form) texts → All IsAbove texts
form_above form texts are = texts_above (fields_of form) texts (form_fine form) are

all_lack : (c : ℕ) (texts : List (List ℕ)) → c ≤ 32 → All IsAbove texts → All (Lacks c) texts
all_lack c texts few above = All-weaker IsAbove (Lacks c) (λ text h. above_lacks c text few h) texts above

-- fields above the space, with spaces between, hold no line feed
pub spaced_lacks : (texts : List (List ℕ)) → All IsAbove texts → Lacks 10 (spaced texts)
spaced_lacks [] above = All-nil (λ b. b ≢ 10)
spaced_lacks (text ∷ []) above = above_lacks 10 text (omega arith) (All-head IsAbove text [] above)
spaced_lacks (text ∷ next ∷ more) above =
    All-append (λ b. b ≢ 10) text (32 ∷ spaced (next ∷ more)) (above_lacks 10 text (omega arith) (All-head IsAbove text (next ∷ more) above))
    (All-cons (λ b. b ≢ 10) 32 (spaced (next ∷ more)) (λ e. omega (arith, e)) (spaced_lacks (next ∷ more) (All-tail IsAbove text (next ∷ more) above)))

-- the fields of a line that has a form are its texts
pub fields_above : (text : List ℕ) (texts : List (List ℕ)) → All IsAbove (text ∷ texts) → fields (spaced (text ∷ texts)) ≡ text ∷ texts
fields_above text texts above = spaced_fields text texts (all_lack 32 (text ∷ texts) (omega arith) above)

some_field : (form : LineForm) → AreAsked HasFieldForm (fields_of form) [] → ⊥
some_field (heading_line version) are = are
some_field (class_line version) are = are
some_field unreachable_line are = are
some_field fork_line are = are
some_field event_line are = are
some_field states_line are = are
some_field case_line are = are
some_field split_tokens_line are = are
some_field split_effect_line are = are
some_field split_start_line are = are
some_field leaf_line are = are
some_field (row_line row) are = are
some_field end_line are = are

pub fields_are : (form : LineForm) (line : List ℕ) (texts : List (List ℕ)) → HasForm form line texts → fields line ≡ texts
fields_are form line [] has = absurd (some_field form has.fields)
fields_are form line (text ∷ texts) has = ap fields has.spelled ∙ fields_above text texts (form_above form (text ∷ texts) has.fields)

pub line_lacks : (form : LineForm) (line : List ℕ) (texts : List (List ℕ)) → HasForm form line texts → Lacks 10 line
line_lacks form line texts has = subst (Lacks 10) (sym has.spelled) (spaced_lacks texts (form_above form texts has.fields))

-- a line is its fields with spaces between
pub from_fields : (line : List ℕ) (texts : List (List ℕ)) → texts ≡ fields line → line ≡ spaced texts
from_fields line texts are = sym (fields_spaced line) ∙ ap spaced (sym are)

-- no line has more than five fields
abbrev is_few : LineForm → Bool
is_few form = nat_le (length (fields_of form)) 5

row_few : (row : RowForm) → is_few (row_line row) ≡ true
row_few lone_form = refl
row_few arc_form = refl
row_few state_form = refl
row_few label_form = refl
row_few depth_form = refl

form_few : (form : LineForm) → is_few form ≡ true
form_few (heading_line version) = refl
form_few (class_line version) = refl
form_few unreachable_line = refl
form_few fork_line = refl
form_few event_line = refl
form_few states_line = refl
form_few case_line = refl
form_few split_tokens_line = refl
form_few split_effect_line = refl
form_few split_start_line = refl
form_few leaf_line = refl
form_few end_line = refl
form_few (row_line row) = row_few row

asked_long : (fields : List Field) (texts : List (List ℕ)) → AreAsked HasFieldForm fields texts → length texts ≡ length fields
asked_long [] [] are = refl
asked_long [] (text ∷ texts) are = absurd are
asked_long (field ∷ fields) [] are = absurd are
asked_long (field ∷ fields) (text ∷ texts) are = ap (λ n. suc n) (asked_long fields texts are.1)

at_most_five : (n : ℕ) → nat_le n 5 ≡ true → n ≤ 5
at_most_five n is = grind (arith, nat_tests)

pub few_texts : (form : LineForm) (texts : List (List ℕ)) → AreAsked HasFieldForm (fields_of form) texts → length texts ≤ 5
few_texts form texts are = let n = asked_long (fields_of form) texts are in let few = at_most_five (length (fields_of form)) (form_few form) in omega arith

-- the first six fields of a line, where they have a form, are all
pub all_fields : (form : LineForm) (line : List ℕ) (texts : List (List ℕ)) → texts ≡ take 6 (fields line) → AreAsked HasFieldForm (fields_of form) texts → texts ≡ fields line
all_fields form line texts first are =
    let few = few_texts form texts are in
    let n = ap length first ∙ length-take 6 (fields line) in
    first ∙ take_all 6 (fields line) (omega arith)

-- and so are those of a line that has a form
pub first_are_all : (form : LineForm) (line : List ℕ) (texts first : List (List ℕ)) → HasForm form line texts → first ≡ take 6 (fields line) → first ≡ texts
first_are_all form line texts first has is =
    let few = few_texts form texts has.fields in
    is ∙ ap (take 6) (fields_are form line texts has) ∙ take_all 6 texts (omega arith)
