-- No text has want of memory as its first fault.
use Rattle.std.proofs.Common.{◌≡◌, ℕ, nat_lt, Bool, true, false, cond, ◌||◌, List, [], ◌∷◌, ◌++◌, length, map, Option, None, Some, refl, sym, ap, ◌∙◌}
use Rattle.std.specs.List.{list_any}
use Rattle.std.specs.Str.{bytes_eq}
use Rattle.rg_text.specs.Faults.{faults_after, if_not, IsFirst}
use Rattle.rg_theory.specs.Limits.{most_states, most_labels, most_arcs}
use Rattle.rg_line_formats.specs.First.{firsts, same_arc}
use Rattle.rg_line_formats.specs.Numbered.{Line}
use Rattle.rg_genet.specs.declared.fault.GraphFault.{GraphFault}
use Rattle.rg_genet.specs.declared.fault.GraphFault.TheVariants.{Expected, UnknownState, NoEnd, TooManyStates, TooManyLabels, TooManyArcs, LongName, NoMemory}
use Rattle.rg_genet.specs.Form.{Form, blank, arc_line, marking_line, closing, other, tokens, passes_by}
use Rattle.rg_genet.specs.Contents.{Triple, triple, says, heading, body, is_closed, triples, markings, state_names, label_names, arcs_of, is_long, heading_fault}
use Rattle.rg_genet.specs.Contents.{arc_fault, marking_fault, fault_by, line_fault, last_faults}
use Rattle.rg_genet.specs.Spells.{FirstFault}

-- none of a list of faults is that of memory
abbrev HasNone : List (Option GraphFault) → Type 0
HasNone fs = IsFirst fs NoMemory → ⊥

both : (xs ys : List (Option GraphFault)) → HasNone xs → HasNone ys → HasNone (xs ++ ys)
both [] ys a b is = b is
both (None ∷ xs) ys a b is = both xs ys a b is
both (Some f ∷ xs) ys a b is = a is

if_not_other : (test : Bool) (f : GraphFault) → (f ≡ NoMemory → ⊥) → HasNone (if_not test f)
if_not_other true f differs is = is
if_not_other false f differs is = differs (sym is)

heading_other : (lines : List Line) → HasNone (map heading_fault lines)
heading_other [] is = is
heading_other (x ∷ lines) is = by (passes_by (tokens x.1)) is (heading_other lines)
  where
    by : (b : Bool) → IsFirst (cond b None (Some (Expected x.0)) ∷ map heading_fault lines) NoMemory → HasNone (map heading_fault lines) → ⊥
    by true is more = more is
    by false is more = absurd cc

arc_other : (n : ℕ) (t : Triple) (arcs : List Triple) → arc_fault n t arcs ≡ Some NoMemory → ⊥
arc_other n t arcs e =
    by (is_long t.from || (is_long t.label || is_long t.to)) (nat_lt most_states (length (state_names arcs))) (nat_lt most_labels (length (label_names arcs)))
    (nat_lt most_arcs (length (firsts same_arc (arcs_of arcs)))) e
  where
    by : (p q r s : Bool)
        → cond p (Some (LongName n)) (cond q (Some (TooManyStates n)) (cond r (Some (TooManyLabels n)) (cond s (Some (TooManyArcs n)) None))) ≡ Some NoMemory → ⊥
    by true q r s e = absurd cc
    by false true r s e = absurd cc
    by false false true s e = absurd cc
    by false false false true e = absurd cc
    by false false false false e = absurd cc

marking_other : (n : ℕ) (name : List ℕ) (earlier : List Line) → marking_fault n name earlier ≡ Some NoMemory → ⊥
marking_other n name [] e = by (is_long name) e
  where
    by : (b : Bool) → cond b (Some (LongName n)) None ≡ Some NoMemory → ⊥
    by true e = absurd cc
    by false e = absurd cc
marking_other n name (m ∷ more) e = absurd cc

form_other : (before : List Line) (n : ℕ) (form : Form) → fault_by before n form ≡ Some NoMemory → ⊥
form_other before n blank e = absurd cc
form_other before n (arc_line from label to) e = let t = triple from label to in arc_other n t (triples before ++ t ∷ []) e
form_other before n (marking_line name) e = marking_other n name (markings before) e
form_other before n closing e = absurd cc
form_other before n other e = absurd cc

lines_other : (before lines : List Line) → HasNone (faults_after line_fault before lines)
lines_other before [] is = is
lines_other before (x ∷ lines) is = by (line_fault before x) refl is (lines_other (before ++ x ∷ []) lines)
  where
    by : (o : Option GraphFault) → line_fault before x ≡ o → IsFirst (o ∷ faults_after line_fault (before ++ x ∷ []) lines) NoMemory
        → HasNone (faults_after line_fault (before ++ x ∷ []) lines) → ⊥
    by None e is more = more is
    by (Some f) e is more = form_other before x.0 (says x) (e ∙ ap Some (sym is))

last_other : (states : List (List ℕ)) (found : List Line) → HasNone (last_faults states found)
last_other states [] is = absurd cc
last_other [] (m ∷ more) is = is
last_other (s ∷ states) (m ∷ more) is = if_not_other (list_any (bytes_eq m.1) (s ∷ states)) (UnknownState m.0) (λ e. absurd cc) is

pub memory_is_no_fault : (bytes : List ℕ) → FirstFault bytes NoMemory → ⊥
memory_is_no_fault bytes is =
    let lines = body bytes in
    let first = map heading_fault (heading bytes) in
    let second = faults_after line_fault [] lines in
    let third = if_not (is_closed bytes) NoEnd in
    let last = last_faults (state_names (triples lines)) (markings lines) in
    both (first ++ second ++ third) last
    (both (first ++ second) third (both first second (heading_other (heading bytes)) (lines_other [] lines)) (if_not_other (is_closed bytes) NoEnd (λ e. absurd cc)))
    (last_other (state_names (triples lines)) (markings lines)) is
