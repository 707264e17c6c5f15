-- A text without a fault has one marking.
use Rattle.std.proofs.Common.{◌≡◌, ℕ, List, [], ◌∷◌, ◌++◌, Option, None, Some, refl, sym, ap, ◌∙◌, append_assoc, append-nil}
use Rattle.rg_text.specs.Faults.{faults_after, AreNone}
use Rattle.rg_line_formats.specs.Numbered.{Line}
use Rattle.rg_genet.specs.Form.{Form, blank, arc_line, marking_line, closing, other}
use Rattle.rg_genet.specs.Contents.{says, markings, markings_by, fault_by, line_fault}

none_head : {F : Type 0} (o : Option F) (more : List (Option F)) → AreNone (o ∷ more) → (o ≡ None) × AreNone more
none_head None more none = (refl, none)
none_head (Some f) more none = absurd none

markings-append : (xs ys : List Line) → markings (xs ++ ys) ≡ markings xs ++ markings ys
markings-append [] ys = refl
markings-append (x ∷ xs) ys = ap (λ l. markings_by x.0 (says x) ++ l) (markings-append xs ys) ∙ sym (append_assoc (markings_by x.0 (says x)) (markings xs) (markings ys))

-- after a marking no other one is right
no_more_by : (before : List Line) (m : Line) (more : List Line) (n : ℕ) (form : Form) → markings before ≡ m ∷ more → fault_by before n form ≡ None → markings_by n form ≡ []
no_more_by before m more n blank e none = refl
no_more_by before m more n (arc_line from label to) e none = refl
no_more_by before m more n (marking_line name) e none = let wrong = rw e at none in absurd cc
no_more_by before m more n closing e none = refl
no_more_by before m more n other e none = refl

still : (before : List Line) (m : Line) (more : List Line) (x : Line) → markings before ≡ m ∷ more → markings_by x.0 (says x) ≡ [] → markings (before ++ x ∷ []) ≡ m ∷ more
still before m more x e none =
    markings-append before (x ∷ []) ∙ ap (λ l. markings before ++ (l ++ [])) none ∙ append-nil (markings before) ∙ e

no_more : (before : List Line) (m : Line) (more xs : List Line) → markings before ≡ m ∷ more → AreNone (faults_after line_fault before xs) → markings xs ≡ []
no_more before m more [] e none = refl
no_more before m more (x ∷ xs) e none =
    let head = none_head (line_fault before x) (faults_after line_fault (before ++ x ∷ []) xs) none in
    let here = no_more_by before m more x.0 (says x) e head.0 in
    let later = no_more (before ++ x ∷ []) m more xs (still before m more x e here) head.1 in
    rw (here, later) refl

one_by : (n : ℕ) (form : Form) (first second : Line) (others : List Line) → markings_by n form ≡ first ∷ second ∷ others → ⊥
one_by n blank first second others h = absurd cc
one_by n (arc_line from label to) first second others h = absurd cc
one_by n (marking_line name) first second others h = absurd cc
one_by n closing first second others h = absurd cc
one_by n other first second others h = absurd cc

pub one_marking : (before : List Line) (m : Line) (more xs : List Line) → markings before ≡ [] → AreNone (faults_after line_fault before xs)
    → markings xs ≡ m ∷ more → more ≡ []
one_marking before m more [] e none is = absurd cc
one_marking before m more (x ∷ xs) e none is = by (markings_by x.0 (says x)) refl (one_marking (before ++ x ∷ []) m more xs)
  where
    rest : AreNone (faults_after line_fault (before ++ x ∷ []) xs)
    rest = (none_head (line_fault before x) (faults_after line_fault (before ++ x ∷ []) xs) none).1

    now : (here : List Line) → markings_by x.0 (says x) ≡ here → markings (before ++ x ∷ []) ≡ here
    now here h =
        markings-append before (x ∷ []) ∙ ap (λ l. l ++ markings (x ∷ [])) e ∙ append-nil (markings_by x.0 (says x)) ∙ h

    by : (here : List Line) → markings_by x.0 (says x) ≡ here
        → (markings (before ++ x ∷ []) ≡ [] → AreNone (faults_after line_fault (before ++ x ∷ []) xs) → markings xs ≡ m ∷ more → more ≡ []) → more ≡ []
    by [] h go = go (now [] h) rest (sym (ap (λ l. l ++ markings xs) h) ∙ is)
    by (first ∷ []) h go =
        let later = no_more (before ++ x ∷ []) first [] xs (now (first ∷ []) h) rest in
        let whole : m ∷ more ≡ first ∷ [] = sym is ∙ ap (λ l. l ++ markings xs) h ∙ ap (λ l. first ∷ l) later in
        cc
    by (first ∷ second ∷ others) h go = absurd (one_by x.0 (says x) first second others h)
