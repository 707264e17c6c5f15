-- The lines of a text without a fault: their names are names, and there are not too many of them.
use Rattle.std.proofs.Common.{◌≡◌, ℕ, ◌<◌, ◌==◌, nat_lt, Bool, true, false, cond, not, ◌&&◌, ◌||◌, List, [], ◌∷◌, ◌++◌, length, codes}
use Rattle.std.proofs.Common.{Option, None, Some, refl, sym, subst, append_assoc, append-nil, arith}
use Rattle.std.specs.List.{AllByRecursion, list_all}
use Rattle.std.specs.Str.{bytes_eq}
use Rattle.std.proofs.lemmas.Bool.{and_parts, ltb-false}
use Rattle.std.proofs.lemmas.Bool.Decides.{nat_tests}
use Rattle.std.proofs.lemmas.List.Sums.{AllPass-from_list_all}
use Rattle.rg_text.specs.Byte.{is_name_byte, IsName}
use Rattle.rg_text.specs.Faults.{faults_after, AreNone}
use Rattle.rg_text.specs.Limits.{most_name_bytes}
use Rattle.rg_theory.specs.Limits.{most_states, most_labels, most_arcs}
use Rattle.rg_line_formats.specs.First.{firsts, same_arc}
use Rattle.rg_line_formats.specs.Numbered.{Line}
use Rattle.rg_genet.specs.declared.fault.GraphFault.{GraphFault}
use Rattle.rg_genet.specs.declared.fault.GraphFault.TheVariants.{TooManyStates, TooManyLabels, TooManyArcs, LongName}
use Rattle.rg_genet.specs.Form.{Form, blank, arc_line, marking_line, closing, other, form_of, is_named, tokens}
use Rattle.rg_genet.specs.Contents.{Triple, triple, says, triples, triples_by, markings, markings_by, state_names, label_names, arcs_of, is_long}
use Rattle.rg_genet.specs.Contents.{arc_fault, marking_fault, fault_by, line_fault}
use Rattle.rg_genet.specs.Reading.{AreFew}
use Rattle.rg_genet.proofs.LineSteps.{triples_more}

-- lists
both : {X : Type 0} (P : X → Type 0) (xs ys : List X) → AllByRecursion P xs → AllByRecursion P ys → AllByRecursion P (xs ++ ys)
both P [] ys a b = b
both P (x ∷ xs) ys a b = (a.0, both P xs ys a.1 b)

none_head : (o : Option GraphFault) (more : List (Option GraphFault)) → AreNone (o ∷ more) → (o ≡ None) × AreNone more
none_head None more none = (refl, none)
none_head (Some f) more none = absurd none

-- the words that a form holds have name bytes alone
abbrev IsNamedForm : Form → Type 0
IsNamedForm (arc_line from label to) = (is_named from ≡ true) × (is_named label ≡ true) × (is_named to ≡ true)
IsNamedForm (marking_line name) = is_named name ≡ true
IsNamedForm _ = Unit {0}

named_form : (words : List (List ℕ)) → IsNamedForm (form_of words)
named_form [] = tt
named_form (word ∷ []) = by (bytes_eq word (codes ".end"))
  where
    by : (b : Bool) → IsNamedForm (cond b closing other)
    by true = tt
    by false = tt
named_form (first ∷ second ∷ []) = tt
named_form (from ∷ label ∷ to ∷ []) = by (is_named from) (is_named label) (is_named to) refl refl refl
  where
    by : (p q r : Bool) → is_named from ≡ p → is_named label ≡ q → is_named to ≡ r → IsNamedForm (cond (p && (q && r)) (arc_line from label to) other)
    by true true true a b c = (a, b, c)
    by true true false a b c = tt
    by true false r a b c = tt
    by false q r a b c = tt
named_form (word ∷ left ∷ name ∷ right ∷ []) = by (bytes_eq word (codes ".marking")) (bytes_eq left (codes "{")) (is_named name) (bytes_eq right (codes "}")) refl
  where
    by : (p q r s : Bool) → is_named name ≡ r → IsNamedForm (cond (p && (q && (r && s))) (marking_line name) other)
    by true true true true a = a
    by true true true false a = tt
    by true true false s a = tt
    by true false r s a = tt
    by false q r s a = tt
named_form (first ∷ second ∷ third ∷ fourth ∷ fifth ∷ more) = tt

-- such a word is a name, unless it is long
some_length : (n : ℕ) → not (n == 0) ≡ true → 0 < n
some_length n e = grind (arith, nat_tests)

name_of : (word : List ℕ) → is_named word ≡ true → is_long word ≡ false → IsName word
name_of word named short =
    let parts = and_parts (not (length word == 0)) (list_all is_name_byte word) named in
    record {
      some = some_length (length word) parts.0;
      short = ltb-false most_name_bytes (length word) short;
      bytes = AllPass-from_list_all is_name_byte word parts.1;
    }

-- an arc without a fault
pub record IsRight (t : Triple) (arcs : List Triple) : Type 0 where
  pub from : is_long t.from ≡ false
  pub label : is_long t.label ≡ false
  pub to : is_long t.to ≡ false
  pub few : AreFew arcs

right_of : (n : ℕ) (t : Triple) (arcs : List Triple) → arc_fault n t arcs ≡ None → IsRight t arcs
right_of n t arcs none =
    by (is_long t.from) (is_long t.label) (is_long t.to) (nat_lt most_states (length (state_names arcs))) (nat_lt most_labels (length (label_names arcs)))
    (nat_lt most_arcs (length (firsts same_arc (arcs_of arcs)))) refl refl refl refl refl refl none
  where
    by : (p q r u v w : Bool) → is_long t.from ≡ p → is_long t.label ≡ q → is_long t.to ≡ r → nat_lt most_states (length (state_names arcs)) ≡ u
        → nat_lt most_labels (length (label_names arcs)) ≡ v → nat_lt most_arcs (length (firsts same_arc (arcs_of arcs))) ≡ w
        → cond (p || (q || r)) (Some (LongName n)) (cond u (Some (TooManyStates n)) (cond v (Some (TooManyLabels n)) (cond w (Some (TooManyArcs n)) None))) ≡ None
        → IsRight t arcs
    by true q r u v w a b c d e f none = absurd cc
    by false true r u v w a b c d e f none = absurd cc
    by false false true u v w a b c d e f none = absurd cc
    by false false false true v w a b c d e f none = absurd cc
    by false false false false true w a b c d e f none = absurd cc
    by false false false false false true a b c d e f none = absurd cc
    by false false false false false false a b c d e f none = record {
      from = a;
      label = b;
      to = c;
      few = record {
        states = ltb-false most_states (length (state_names arcs)) d;
        labels = ltb-false most_labels (length (label_names arcs)) e;
        arcs = ltb-false most_arcs (length (firsts same_arc (arcs_of arcs))) f;
      };
    }

-- the names of arcs
pub record IsNamedTriple (t : Triple) : Type 0 where
  pub from : IsName t.from
  pub label : IsName t.label
  pub to : IsName t.to

triples_named_by : (before : List Line) (n : ℕ) (form : Form) → IsNamedForm form → fault_by before n form ≡ None → AllByRecursion IsNamedTriple (triples_by form)
triples_named_by before n blank named none = tt
triples_named_by before n (arc_line from label to) named none =
    let t = triple from label to in
    let right = right_of n t (triples before ++ t ∷ []) none in
    (record { from = name_of from named.0 right.from; label = name_of label named.1 right.label; to = name_of to named.2 right.to }, tt)
triples_named_by before n (marking_line name) named none = tt
triples_named_by before n closing named none = tt
triples_named_by before n other named none = tt

pub triples_named : (before lines : List Line) → AreNone (faults_after line_fault before lines) → AllByRecursion IsNamedTriple (triples lines)
triples_named before [] none = tt
triples_named before (x ∷ lines) none =
    let head = none_head (line_fault before x) (faults_after line_fault (before ++ x ∷ []) lines) none in
    both IsNamedTriple (triples_by (says x)) (triples lines)
    (triples_named_by before x.0 (says x) (named_form (tokens x.1)) head.0) (triples_named (before ++ x ∷ []) lines head.1)

-- the names of markings
abbrev pub IsNamedLine : Line → Type 0
IsNamedLine m = IsName m.1

short_mark : (n : ℕ) (name : List ℕ) (earlier : List Line) → marking_fault n name earlier ≡ None → is_long name ≡ false
short_mark n name [] none = by (is_long name) refl none
  where
    by : (b : Bool) → is_long name ≡ b → cond b (Some (LongName n)) None ≡ None → is_long name ≡ false
    by true e none = absurd cc
    by false e none = e
short_mark n name (m ∷ more) none = absurd cc

markings_named_by : (before : List Line) (n : ℕ) (form : Form) → IsNamedForm form → fault_by before n form ≡ None → AllByRecursion IsNamedLine (markings_by n form)
markings_named_by before n blank named none = tt
markings_named_by before n (arc_line from label to) named none = tt
markings_named_by before n (marking_line name) named none = (name_of name named (short_mark n name (markings before) none), tt)
markings_named_by before n closing named none = tt
markings_named_by before n other named none = tt

pub markings_named : (before lines : List Line) → AreNone (faults_after line_fault before lines) → AllByRecursion IsNamedLine (markings lines)
markings_named before [] none = tt
markings_named before (x ∷ lines) none =
    let head = none_head (line_fault before x) (faults_after line_fault (before ++ x ∷ []) lines) none in
    both IsNamedLine (markings_by x.0 (says x)) (markings lines)
    (markings_named_by before x.0 (says x) (named_form (tokens x.1)) head.0) (markings_named (before ++ x ∷ []) lines head.1)

-- no limit is passed
few_by : (before : List Line) (n : ℕ) (form : Form) → AreFew (triples before) → fault_by before n form ≡ None → AreFew (triples before ++ triples_by form)
few_by before n blank few none = subst AreFew (sym (append-nil (triples before))) few
few_by before n (arc_line from label to) few none =
    let t = triple from label to in (right_of n t (triples before ++ t ∷ []) none).few
few_by before n (marking_line name) few none = subst AreFew (sym (append-nil (triples before))) few
few_by before n closing few none = subst AreFew (sym (append-nil (triples before))) few
few_by before n other few none = subst AreFew (sym (append-nil (triples before))) few

pub few_lines : (before lines : List Line) → AreFew (triples before) → AreNone (faults_after line_fault before lines) → AreFew (triples (before ++ lines))
few_lines before [] few none = subst (λ l. AreFew (triples l)) (sym (append-nil before)) few
few_lines before (x ∷ lines) few none =
    let head = none_head (line_fault before x) (faults_after line_fault (before ++ x ∷ []) lines) none in
    let more = subst AreFew (sym (triples_more before x (says x) refl)) (few_by before x.0 (says x) few head.0) in
    subst (λ l. AreFew (triples l)) (append_assoc before (x ∷ []) lines) (few_lines (before ++ x ∷ []) lines more head.1)
