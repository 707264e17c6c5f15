-- What a text goes on with at a position.
use Rattle.std.proofs.Common.{◌≡◌, ◌≢◌, ◌⊎◌, inl, inr, ℕ, zero, suc, List, ◌∷◌, ◌++◌, take, refl, sym, subst, ◌∙◌}
use Rattle.rg_text.specs.Line.{fields}
use Rattle.rg_theory.specs.System.{System}
use Rattle.rg_cert.specs.declared.fault.CertFault.{CertFault}
use Rattle.rg_cert.specs.declared.fault.CertFault.TheVariants.{Expected, UnknownName, NumberPasses, TreeShort, TreeLong, NoMemory}
use Rattle.rg_cert.specs.declared.table.LineForm.{LineForm as FormOfCode}
use Rattle.rg_cert.specs.declared.table.LineForm.TheVariants as of_line
use Rattle.rg_cert.specs.declared.table.RowForm.{RowForm as RowOfCode}
use Rattle.rg_cert.specs.declared.table.RowForm.TheVariants as of_row
use Rattle.rg_cert.specs.declared.position.Count.TheVariants as count
use Rattle.rg_cert.specs.declared.position.Position.{Position as PositionOfCode}
use Rattle.rg_cert.specs.declared.position.Position.TheVariants as of_position
use Rattle.rg_cert.specs.declared.position.Next.{Next as NextOfCode}
use Rattle.rg_cert.specs.declared.position.Next.TheVariants as of_next
use Rattle.rg_cert.specs.Text.{Version}
use Rattle.rg_cert.specs.Lines.{HasFieldForm, AreAsked, LineForm, heading_line, class_line, unreachable_line, fork_line, event_line, states_line, case_line}
use Rattle.rg_cert.specs.Lines.{split_tokens_line, split_effect_line, split_start_line, leaf_line, row_line, end_line, RowForm, lone_form, arc_form, state_form, label_form, depth_form}
use Rattle.rg_cert.specs.Lines.{fields_of, HasForm, Position}
use Rattle.rg_cert.specs.Lines.{at_heading, at_class, at_reason, at_last, at_one_case, at_cases, at_node, at_row, at_end, refused, follows}
use Rattle.rg_cert.specs.Faults.{BeginsWith, BreaksAt, IsFaultAt}
use Rattle.rg_cert.specs.Drafts.{IsWrong}
use Rattle.rg_cert.specs.View.{row_form_in, line_form_in, position_in, next_in}
use Rattle.rg_cert.proofs.Cuts.{Lacks, one_cut, no_cut}
use Rattle.rg_cert.proofs.LineTexts.{line_lacks, fields_are, first_are_all, from_fields}
use Rattle.rg_cert.proofs.FormKeys.{one_form}

-- each row is one of the code's
row_image : (row : RowForm) → (r : RowOfCode) × (row_form_in r ≡ row)
row_image lone_form = (of_row.Lone, refl)
row_image arc_form = (of_row.Arc, refl)
row_image state_form = (of_row.State, refl)
row_image label_form = (of_row.Label, refl)
row_image depth_form = (of_row.Depth, refl)

-- the form is one of the code's, or that of the first or second line
abbrev IsImage : LineForm → Type 0
IsImage form = ((f : FormOfCode) × (line_form_in f ≡ form)) ⊎ (((version : Version) × (form ≡ heading_line version)) ⊎ ((version : Version) × (form ≡ class_line version)))

image : (form : LineForm) → IsImage form
image (heading_line version) = inr (inl (version, refl))
image (class_line version) = inr (inr (version, refl))
image unreachable_line = inl (of_line.Unreachable, refl)
image fork_line = inl (of_line.Fork, refl)
image event_line = inl (of_line.Event, refl)
image states_line = inl (of_line.States, refl)
image case_line = inl (of_line.Case, refl)
image split_tokens_line = inl (of_line.SplitTokens, refl)
image split_effect_line = inl (of_line.SplitEffect, refl)
image split_start_line = inl (of_line.SplitStart, refl)
image leaf_line = inl (of_line.Leaf, refl)
image (row_line row) = let of_code = row_image row in inl (of_line.Row of_code.0, (λ i. row_line (of_code.1 i)))
image end_line = inl (of_line.End, refl)

-- the first two lines are refused at the later positions
refused_heading : (position : PositionOfCode) (version : Version) → follows (position_in position) (heading_line version) ≡ refused
refused_heading (of_position.Reason v) version = refl
refused_heading of_position.Last version = refl
refused_heading (of_position.OneCase v) version = refl
refused_heading (of_position.Cases v) version = refl
refused_heading (of_position.Node v c due) version = refl
refused_heading (of_position.Row v count.One zero) version = refl
refused_heading (of_position.Row v count.Several zero) version = refl
refused_heading (of_position.Row v c (suc due)) version = refl
refused_heading of_position.End version = refl

refused_class : (position : PositionOfCode) (version : Version) → follows (position_in position) (class_line version) ≡ refused
refused_class (of_position.Reason v) version = refl
refused_class of_position.Last version = refl
refused_class (of_position.OneCase v) version = refl
refused_class (of_position.Cases v) version = refl
refused_class (of_position.Node v c due) version = refl
refused_class (of_position.Row v count.One zero) version = refl
refused_class (of_position.Row v count.Several zero) version = refl
refused_class (of_position.Row v c (suc due)) version = refl
refused_class of_position.End version = refl

-- what begins with no line that is due breaks off
pub breaks : (position : Position) (rest : List ℕ) → (position ≡ at_end → ⊥) → ((form : LineForm) (texts : List (List ℕ)) → ¬ BeginsWith position rest form texts) → BreaksAt position rest
breaks at_heading rest going none = none
breaks (at_class v) rest going none = none
breaks (at_reason v) rest going none = none
breaks at_last rest going none = none
breaks (at_one_case v) rest going none = none
breaks (at_cases v) rest going none = none
breaks (at_node v c due) rest going none = none
breaks (at_row v c due) rest going none = none
breaks at_end rest going none = absurd (going refl)

pub goes : (position : PositionOfCode) → position ≢ of_position.End → position_in position ≡ at_end → ⊥
goes (of_position.Reason v) other e = absurd cc
goes of_position.Last other e = absurd cc
goes (of_position.OneCase v) other e = absurd cc
goes (of_position.Cases v) other e = absurd cc
goes (of_position.Node v c due) other e = absurd cc
goes (of_position.Row v c due) other e = absurd cc
goes of_position.End other e = other refl

-- a text without a line feed begins with no line
pub no_line : (position : Position) (rest : List ℕ) → Lacks 10 rest → (form : LineForm) (texts : List (List ℕ)) → ¬ BeginsWith position rest form texts
no_line position rest none form texts b = no_cut 10 rest b.line b.more none b.text

-- the line with which a text begins is its first one
pub same_line : (position : Position) (rest line more : List ℕ) → rest ≡ line ++ 10 ∷ more → Lacks 10 line → (form : LineForm) (texts : List (List ℕ))
    → BeginsWith position rest form texts → HasForm form line texts
same_line position rest line more is lacks form texts b =
    subst (λ l. HasForm form l texts) (one_cut 10 b.line line b.more more (line_lacks form b.line texts b.has) lacks (sym b.text ∙ is)).0 b.has

-- a line of no form
pub no_form : (position : PositionOfCode) (rest line more : List ℕ) (texts : List (List ℕ)) → rest ≡ line ++ 10 ∷ more → Lacks 10 line → texts ≡ take 6 (fields line)
    → ((f : FormOfCode) → ¬ AreAsked HasFieldForm (fields_of (line_form_in f)) texts) → (form : LineForm) (ts : List (List ℕ)) → ¬ BeginsWith (position_in position) rest form ts
no_form position rest line more texts is lacks are none form ts b = by (image form)
  where
    has : HasForm form line ts
    has = same_line (position_in position) rest line more is lacks form ts b

    asked : AreAsked HasFieldForm (fields_of form) texts
    asked = subst (AreAsked HasFieldForm (fields_of form)) (sym (first_are_all form line ts texts has are)) has.fields

    by : IsImage form → ⊥
    by (inl (f, e)) = none f (subst (λ g. AreAsked HasFieldForm (fields_of g) texts) (sym e) asked)
    by (inr (inl (v, e))) = b.due (subst (λ g. follows (position_in position) g ≡ refused) (sym e) (refused_heading position v))
    by (inr (inr (v, e))) = b.due (subst (λ g. follows (position_in position) g ≡ refused) (sym e) (refused_class position v))

-- the line has this form alone
pub its_form : (position : Position) (rest line more : List ℕ) (f : LineForm) (texts : List (List ℕ)) → rest ≡ line ++ 10 ∷ more → Lacks 10 line → texts ≡ fields line
    → AreAsked HasFieldForm (fields_of f) texts → (form : LineForm) (ts : List (List ℕ)) → BeginsWith position rest form ts → form ≡ f
its_form position rest line more f texts is lacks are asked form ts b =
    let has = same_line position rest line more is lacks form ts b in
    one_form form f texts (subst (AreAsked HasFieldForm (fields_of form)) (sym (fields_are form line ts has) ∙ sym are) has.fields) asked

pub refused_form : (position : Position) (rest line more : List ℕ) (f : LineForm) (texts : List (List ℕ)) → rest ≡ line ++ 10 ∷ more → Lacks 10 line → texts ≡ fields line
    → AreAsked HasFieldForm (fields_of f) texts → follows position f ≡ refused → (form : LineForm) (ts : List (List ℕ)) → ¬ BeginsWith position rest form ts
refused_form position rest line more f texts is lacks are asked out form ts b =
    b.due (subst (λ g. follows position g ≡ refused) (sym (its_form position rest line more f texts is lacks are asked form ts b)) out)

-- a wrong line is at fault
pub wrong_line : (lts : System) (position : Position) (rest : List ℕ) (f : LineForm) (texts : List (List ℕ)) (n : ℕ) (fault : CertFault) → BeginsWith position rest f texts
    → IsWrong lts f texts n fault → IsFaultAt lts position rest n fault
wrong_line lts position rest f texts n (NumberPasses line) b wrong = (wrong.0, (f, texts, b, wrong.1))
wrong_line lts position rest f texts n (UnknownName line) b wrong = (wrong.0, (f, texts, b, wrong.1))
wrong_line lts position rest f texts n (Expected line) b wrong = absurd wrong
wrong_line lts position rest f texts n TreeShort b wrong = absurd wrong
wrong_line lts position rest f texts n TreeLong b wrong = absurd wrong
wrong_line lts position rest f texts n NoMemory b wrong = absurd wrong

-- a text that begins with a line of a form that isn't refused
pub begins_with : (position : Position) (rest line more : List ℕ) (f : LineForm) (texts : List (List ℕ)) → rest ≡ line ++ 10 ∷ more → texts ≡ fields line
    → AreAsked HasFieldForm (fields_of f) texts → follows position f ≢ refused → BeginsWith position rest f texts
begins_with position rest line more f texts is are asked due =
    record { line = line; more = more; text = is; has = record { fields = asked; spelled = from_fields line texts are }; due = due }

pub not_refused : (n : NextOfCode) → n ≢ of_next.Refused → next_in n ≢ refused
not_refused (of_next.To position) other e = absurd cc
not_refused of_next.Short other e = absurd cc
not_refused of_next.Long other e = absurd cc
not_refused of_next.Refused other e = other refl
