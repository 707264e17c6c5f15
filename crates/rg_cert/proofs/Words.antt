-- The words of rows.
use Rattle.std.proofs.Common.{◌≡◌, ℕ, suc, ◌-◌, ◌<◌, ◌≤◌, ◌^◌, ⊎_elim, Bool, false, List, [], ◌∷◌, length, get_or, take, drop, codes, Contains, IsTrue, ◌↔◌, Bor, refl, sym, subst, true≢false, ◌∙◌, arith}
use Rattle.std.specs.Str.{bytes_eq}
use Rattle.std.proofs.lemmas.Slice.Eq.{bytes_eq-Decides}
use Rattle.std.proofs.lemmas.List.{take_all}
use Rattle.rg_theory.specs.System.{System, states, labels}
use Rattle.rg_theory.proofs.Lists.{Contains-cons_cases}
use Rattle.rg_cert_meaning.specs.declared.RowName.{RowName}
use Rattle.rg_cert_meaning.specs.declared.RowName.TheVariants as row_name
use Rattle.rg_cert_data.specs.Certificates.{IsRowNameOf}
use Rattle.rg_cert.specs.Text.{Subject, of_none, of_arc, of_state, of_label, of_depth, word_and_subject}
use Rattle.rg_cert.specs.Lines.{lone_words, state_words, label_words}
use Rattle.rg_cert.specs.View.{texts_in}

-- it holds of each word
abbrev pub Each : (List ℕ → Type 0) → List (List ℕ) → Type 0
Each P [] = Unit {0}
Each P (w ∷ ws) = P w × Each P ws

pub each_word : (P : List ℕ → Type 0) (ws : List (List ℕ)) (w : List ℕ) → Each P ws → Contains ws w → P w
each_word P [] w each (k, less, is) = absurd (omega arith)
each_word P (v ∷ ws) w each has = ⊎_elim (λ same. subst P same each.0) (λ more. each_word P ws w each.1 more) (Contains-cons_cases v w ws has)

-- what isn't the first of words is one of them where it is one of the rest
pub among_rest : (words : List (Bor (List ℕ))) (d : Bor (List ℕ)) (text : List ℕ) (first b : Bool) → 1 ≤ length words → first ≡ bytes_eq text (get_or words 0 d).now → first ≡ false
    → (IsTrue b ↔ Contains (texts_in (take (length words - 1) (drop 1 words))) text) → (IsTrue b ↔ Contains (texts_in words) text)
among_rest [] d text first b some is other told = absurd (omega arith)
among_rest (w ∷ words) d text first b some is other told = (
  (λ t. more (subst (λ l. Contains (texts_in l) text) rest (told.0 t))),
  (λ has. ⊎_elim (λ same. absurd (true≢false (sym ((bytes_eq-Decides text w.now).1 (sym same)) ∙ sym is ∙ other)))
      (λ there. told.1 (subst (λ l. Contains (texts_in l) text) (sym rest) there)) (Contains-cons_cases w.now text (texts_in words) has)),
)
  where
    rest : take (length (w ∷ words) - 1) (drop 1 (w ∷ words)) ≡ words
    rest = take_all (length (w ∷ words) - 1) words (omega arith)

    more : Contains (texts_in words) text → Contains (texts_in (w ∷ words)) text
    more (k, less, at) = (suc k, omega arith, at)

-- the state, label or depth is the system's
abbrev pub IsSubjectOf : System → Subject → Type 0
IsSubjectOf lts of_none = Unit {0}
IsSubjectOf lts (of_arc a) = (a.from < states lts) × (a.label < labels lts) × (a.to < states lts)
IsSubjectOf lts (of_state q) = q < states lts
IsSubjectOf lts (of_label t) = t < labels lts
IsSubjectOf lts (of_depth d) = d < 2 ^ 32

-- the word is one of those that speak of the subject
abbrev pub IsWordOf : Subject → List ℕ → Type 0
IsWordOf of_none w = Contains lone_words w
IsWordOf (of_arc a) w = w ≡ codes "arc"
IsWordOf (of_state q) w = Contains state_words w
IsWordOf (of_label t) w = Contains label_words w
IsWordOf (of_depth d) w = w ≡ codes "above"

pub word_of : (name : RowName) → IsWordOf (word_and_subject name).1 (word_and_subject name).0
word_of (row_name.Arc a) = refl
word_of (row_name.Tokens q) = (0, omega arith, refl)
word_of (row_name.Cap q) = (1, omega arith, refl)
word_of (row_name.Up t) = (0, omega arith, refl)
word_of (row_name.Down t) = (1, omega arith, refl)
word_of (row_name.Makes t) = (2, omega arith, refl)
word_of (row_name.Stop q) = (2, omega arith, refl)
word_of row_name.Block = (0, omega arith, refl)
word_of row_name.Empty = (1, omega arith, refl)
word_of (row_name.Full q) = (3, omega arith, refl)
word_of row_name.Keep = (2, omega arith, refl)
word_of row_name.Apart = (3, omega arith, refl)
word_of (row_name.Above d) = refl

pub subject_is : (lts : System) (name : RowName) → IsRowNameOf lts name → IsSubjectOf lts (word_and_subject name).1
subject_is lts row_name.Block is = tt
subject_is lts row_name.Empty is = tt
subject_is lts row_name.Keep is = tt
subject_is lts row_name.Apart is = tt
subject_is lts name is = is

pub name_is : (lts : System) (name : RowName) → IsSubjectOf lts (word_and_subject name).1 → IsRowNameOf lts name
name_is lts row_name.Block is = tt
name_is lts row_name.Empty is = tt
name_is lts row_name.Keep is = tt
name_is lts row_name.Apart is = tt
name_is lts name is = is

-- a name has the word and the subject
abbrev pub IsNamed : List ℕ → Subject → Type 0
IsNamed w subject = (name : RowName) × (word_and_subject name ≡ (w, subject))

pub lone_named : (w : List ℕ) → Contains lone_words w → IsNamed w of_none
lone_named w has = each_word (λ v. IsNamed v of_none) lone_words w ((row_name.Block, refl), ((row_name.Empty, refl), ((row_name.Keep, refl), ((row_name.Apart, refl), tt)))) has

pub state_named : (w : List ℕ) (q : ℕ) → Contains state_words w → IsNamed w (of_state q)
state_named w q has = each_word (λ v. IsNamed v (of_state q)) state_words w ((row_name.Tokens q, refl), ((row_name.Cap q, refl), ((row_name.Stop q, refl), ((row_name.Full q, refl), tt)))) has

pub label_named : (w : List ℕ) (t : ℕ) → Contains label_words w → IsNamed w (of_label t)
label_named w t has = each_word (λ v. IsNamed v (of_label t)) label_words w ((row_name.Up t, refl), ((row_name.Down t, refl), ((row_name.Makes t, refl), tt))) has
