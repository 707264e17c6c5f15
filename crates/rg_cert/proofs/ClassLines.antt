-- The second line.
use Rattle.std.proofs.Common.{◌≡◌, ◌≢◌, ℕ, ◌<◌, true, arith, List, [], ◌∷◌, ◌++◌, codes, All, Option, Some, None, IfNone, refl, sym, ap, subst, ◌∙◌}
use Rattle.std.proofs.lemmas.Bool.Decides.{nat_tests}
use Rattle.std.proofs.lemmas.List.{append_cancel_left}
use Rattle.std.proofs.lemmas.List.Elements.{All-weaker}
use Rattle.std.proofs.lemmas.List.Sums.{AllPass-from_list_all}
use Rattle.rg_theory.specs.declared.Class.{Class}
use Rattle.rg_theory.specs.ClassWords.{NamesClass}
use Rattle.rg_theory.proofs.ClassBytes.{is_shown, named_shown}
use Rattle.rg_theory.proofs.ClassTold.{one_class}
use Rattle.rg_cert.specs.Text.{Version, version_one, version_two, class_version}
use Rattle.rg_cert.specs.Lines.{LineForm, heading_line, class_line, unreachable_line, fork_line, event_line, states_line, case_line, split_tokens_line, split_effect_line, split_start_line, leaf_line, row_line, end_line, HasForm, at_class, refused, follows}
use Rattle.rg_cert.specs.Faults.{BreaksAt}
use Rattle.rg_cert.specs.Drafts.{IsClassIn}
use Rattle.rg_cert.proofs.Cuts.{Lacks}
use Rattle.rg_cert.proofs.NextLines.{same_line}

shown_ascii : (b : ℕ) → is_shown b ≡ true → b < 128
shown_ascii b is = grind (arith, nat_tests)

-- a text that names a class is ASCII
pub class_ascii : (text : List ℕ) (class : Class) → NamesClass text class → All (λ b. b < 128) text
class_ascii text class named =
    All-weaker (λ b. is_shown b ≡ true) (λ b. b < 128) shown_ascii text (AllPass-from_list_all is_shown text (named_shown text class named))

pub none_weaker : {T : Type 0} (r : Option T) (P Q : Type 0) → (P → Q) → IfNone r P → IfNone r Q
none_weaker (Some x) P Q more h = tt
none_weaker None P Q more h = more h

-- a line with another text after `class `
pub other_class : (line name : List ℕ) → line ≡ codes "class " ++ name → ((class : Class) → ¬ NamesClass name class)
    → (text : List ℕ) (class : Class) → NamesClass text class → line ≢ codes "class " ++ text
other_class line name is none text class named is' = none class (subst (λ t. NamesClass t class) (append_cancel_left (codes "class ") text name (sym is' ∙ is)) named)

-- the form of a class line that a text of the version may have
abbrev IsClassForm : Version → LineForm → Type 0
IsClassForm version form = (first : Version) × (form ≡ class_line first) × (version ≡ version_one → first ≡ version_one)

class_form : (version : Version) (form : LineForm) → follows (at_class version) form ≢ refused → IsClassForm version form
class_form version (heading_line v) due = absurd (due refl)
class_form version (class_line version_one) due = (version_one, refl, λ e. refl)
class_form version_one (class_line version_two) due = absurd (due refl)
class_form version_two (class_line version_two) due = (version_two, refl, λ e. absurd cc)
class_form version unreachable_line due = absurd (due refl)
class_form version fork_line due = absurd (due refl)
class_form version event_line due = absurd (due refl)
class_form version states_line due = absurd (due refl)
class_form version case_line due = absurd (due refl)
class_form version split_tokens_line due = absurd (due refl)
class_form version split_effect_line due = absurd (due refl)
class_form version split_start_line due = absurd (due refl)
class_form version leaf_line due = absurd (due refl)
class_form version (row_line row) due = absurd (due refl)
class_form version end_line due = absurd (due refl)

pub class_texts : (first : Version) (line : List ℕ) (texts : List (List ℕ)) → HasForm (class_line first) line texts
    → (name : List ℕ) × (class : Class) × NamesClass name class × (class_version class ≡ first) × (line ≡ codes "class " ++ name)
class_texts first line [] has = absurd has.fields
class_texts first line (w ∷ []) has = absurd has.fields.1
class_texts first line (w ∷ name ∷ []) has =
    let (class, named, is) = has.fields.1.0 in
    (name, class, named, is, has.spelled ∙ ap (λ t. t ++ 32 ∷ name) has.fields.0)
class_texts first line (w ∷ name ∷ t ∷ more) has = absurd has.fields.1.1

-- a line that names no class which the text may have
pub class_breaks : (version : Version) (text line rest : List ℕ) → text ≡ line ++ 10 ∷ rest → Lacks 10 line
    → ((name : List ℕ) (class : Class) → NamesClass name class → IsClassIn version class → line ≢ codes "class " ++ name) → BreaksAt (at_class version) text
class_breaks version text line rest is lacks none form texts b =
    let (first, same, fits) = class_form version form b.due in
    let has = subst (λ f. HasForm f line texts) same (same_line (at_class version) text line rest is lacks form texts b) in
    let (name, class, named, of_class, spelled) = class_texts first line texts has in
    none name class named (λ e. of_class ∙ fits e) spelled

-- a line with a class that a text of the version may not have
pub class_passes : (version : Version) (line name : List ℕ) (class : Class) → NamesClass name class → line ≡ codes "class " ++ name → ¬ IsClassIn version class
    → (text : List ℕ) (other : Class) → NamesClass text other → IsClassIn version other → line ≢ codes "class " ++ text
class_passes version line name class named is none text other named' fits is' =
    none (subst (IsClassIn version) (one_class name other class (subst (λ t. NamesClass t other) (append_cancel_left (codes "class ") text name (sym is' ∙ is)) named') named) fits)
