-- The lines of a text that is printed, and what they say.
use Rattle.std.proofs.Common.{◌≡◌, ℕ, ◌+◌, true, false, ◌&&◌, List, [], ◌∷◌, ◌++◌, map, codes, None, refl, sym, ap, subst, ◌∙◌, append_assoc, append-nil}
use Rattle.std.specs.List.{after_first, before_first, enumerate_from, list_any}
use Rattle.std.specs.Cmp.Derive.{both_true}
use Rattle.std.specs.Str.{bytes_eq}
use Rattle.std.proofs.lemmas.Bool.{cond-true, cond-false}
use Rattle.std.proofs.lemmas.Simd.{map-map}
use Rattle.rg_text.specs.Faults.{faults_after, AreNone}
use Rattle.rg_text.specs.Line.{fed, lines}
use Rattle.rg_theory.specs.System.{System}
use Rattle.rg_line_formats.specs.Numbered.{Line}
use Rattle.rg_genet.specs.Form.{arc_line, marking_line, form_of, is_closing, is_named, opens_by, tokens}
use Rattle.rg_genet.specs.Contents.{Triple, opens, says, closes, heading_fault, triples, triples_by, markings, markings_by, fault_by, marking_fault, line_fault, is_long}
use Rattle.rg_genet.specs.Text.{name_at, names_of, triple_text, labels_text, graph_text}
use Rattle.rg_genet.specs.Reading.{AreFew}
use Rattle.rg_genet.proofs.ArcFaults.{long_test, arc_right}
use Rattle.rg_genet.proofs.BodySteps.{first_no, first_yes, any_no, any_yes}
use Rattle.rg_genet.proofs.HeadSteps.{after_no, after_yes}
use Rattle.rg_genet.proofs.LineSteps.{triples_more, markings_more}
use Rattle.rg_genet.proofs.Tokens.{IsNamed, AreNamed, AllNamed, triple_tokens, triple_feed, mark_text, mark_tokens, mark_feed, outputs_tokens, labels_feed, joined_none, first_line}

-- arcs whose names are names
abbrev pub AllArcsNamed : List Triple → Type 0
AllArcsNamed [] = Unit {0}
AllArcsNamed (t ∷ arcs) = AreNamed t × AllArcsNamed arcs

-- the lines behind `.state graph`
abbrev pub tail_lines : List ℕ → List Triple → List (List ℕ)
tail_lines name [] = mark_text name ∷ codes ".end" ∷ [] ∷ []
tail_lines name (t ∷ arcs) = triple_text t ∷ tail_lines name arcs

-- those before `.end`, from line n on
abbrev pub body_lines : ℕ → List ℕ → List Triple → List Line
body_lines n name [] = (n, mark_text name) ∷ []
body_lines n name (t ∷ arcs) = (n, triple_text t) ∷ body_lines (n + 1) name arcs

says_arc : (n : ℕ) (t : Triple) → AreNamed t → says (n, triple_text t) ≡ arc_line t.from t.label t.to
says_arc n t are =
    ap form_of (triple_tokens t are)
    ∙ cond-true (is_named t.from && (is_named t.label && is_named t.to)) _ _ (both_true are.from.named (both_true are.label.named are.to.named))

says_mark : (n : ℕ) (name : List ℕ) → IsNamed name → says (n, mark_text name) ≡ marking_line name
says_mark n name is =
    ap form_of (mark_tokens name is)
    ∙ cond-true (bytes_eq (codes ".marking") (codes ".marking") && (bytes_eq (codes "{") (codes "{") && (is_named name && bytes_eq (codes "}") (codes "}")))) _ _
    (both_true refl (both_true refl (both_true is.named refl)))

arc_stays : (n : ℕ) (t : Triple) → AreNamed t → closes (n, triple_text t) ≡ false
arc_stays n t are = ap is_closing (says_arc n t are)

mark_stays : (n : ℕ) (name : List ℕ) → IsNamed name → closes (n, mark_text name) ≡ false
mark_stays n name is = ap is_closing (says_mark n name is)

pub body_is : (n : ℕ) (name : List ℕ) (arcs : List Triple) → IsNamed name → AllArcsNamed arcs → before_first closes (enumerate_from n (tail_lines name arcs)) ≡ body_lines n name arcs
body_is n name [] is are =
    first_no closes (n, mark_text name) ((n + 1, codes ".end") ∷ ((n + 1) + 1, []) ∷ []) (mark_stays n name is)
    ∙ ap (λ l. (n, mark_text name) ∷ l) (first_yes closes (n + 1, codes ".end") (((n + 1) + 1, []) ∷ []) refl)
body_is n name (t ∷ arcs) is are =
    first_no closes (n, triple_text t) (enumerate_from (n + 1) (tail_lines name arcs)) (arc_stays n t are.0)
    ∙ ap (λ l. (n, triple_text t) ∷ l) (body_is (n + 1) name arcs is are.1)

pub closed_is : (n : ℕ) (name : List ℕ) (arcs : List Triple) → IsNamed name → AllArcsNamed arcs → list_any closes (enumerate_from n (tail_lines name arcs)) ≡ true
closed_is n name [] is are =
    any_no closes (n, mark_text name) ((n + 1, codes ".end") ∷ ((n + 1) + 1, []) ∷ []) (mark_stays n name is)
    ∙ any_yes closes (n + 1, codes ".end") (((n + 1) + 1, []) ∷ []) refl
closed_is n name (t ∷ arcs) is are =
    any_no closes (n, triple_text t) (enumerate_from (n + 1) (tail_lines name arcs)) (arc_stays n t are.0) ∙ closed_is (n + 1) name arcs is are.1

pub triples_is : (n : ℕ) (name : List ℕ) (arcs : List Triple) → IsNamed name → AllArcsNamed arcs → triples (body_lines n name arcs) ≡ arcs
triples_is n name [] is are = ap (λ f. triples_by f ++ []) (says_mark n name is)
triples_is n name (t ∷ arcs) is are =
    ap (λ f. triples_by f ++ triples (body_lines (n + 1) name arcs)) (says_arc n t are.0) ∙ ap (λ l. t ∷ l) (triples_is (n + 1) name arcs is are.1)

pub markings_is : (n : ℕ) (name : List ℕ) (arcs : List Triple) → IsNamed name → AllArcsNamed arcs → (k : ℕ) × (markings (body_lines n name arcs) ≡ (k, name) ∷ [])
markings_is n name [] is are = (n, ap (λ f. markings_by n f ++ []) (says_mark n name is))
markings_is n name (t ∷ arcs) is are =
    let r = markings_is (n + 1) name arcs is are.1 in
    (r.0, ap (λ f. markings_by n f ++ markings (body_lines (n + 1) name arcs)) (says_arc n t are.0) ∙ r.1)

short_arc : (t : Triple) → AreNamed t → long_test t ≡ false
short_arc t are = rw (are.from.short, are.label.short, are.to.short) refl

pub right_lines : (before : List Line) (n : ℕ) (name : List ℕ) (arcs : List Triple) → IsNamed name → AllArcsNamed arcs → markings before ≡ []
    → ((front rest : List Triple) → front ++ rest ≡ triples before ++ arcs → AreFew front) → AreNone (faults_after line_fault before (body_lines n name arcs))
right_lines before n name [] is are unmarked few =
    let right : line_fault before (n, mark_text name) ≡ None =
    ap (fault_by before n) (says_mark n name is) ∙ ap (marking_fault n name) unmarked ∙ cond-false (is_long name) _ _ is.short in
    subst AreNone (sym (ap (λ o. o ∷ []) right)) tt
right_lines before n name (t ∷ arcs) is are unmarked few =
    let x : Line = (n, triple_text t) in
    let said = says_arc n t are.0 in
    let right : line_fault before x ≡ None =
    ap (fault_by before n) said ∙ arc_right n t (triples before ++ t ∷ []) (short_arc t are.0) (few (triples before ++ t ∷ []) arcs (append_assoc (triples before) (t ∷ []) arcs)) in
    let grown : triples (before ++ x ∷ []) ++ arcs ≡ triples before ++ t ∷ arcs =
    ap (λ l. l ++ arcs) (triples_more before x (arc_line t.from t.label t.to) said) ∙ append_assoc (triples before) (t ∷ []) arcs in
    let later = right_lines (before ++ x ∷ []) (n + 1) name arcs is are.1
    (markings_more before x (arc_line t.from t.label t.to) said ∙ append-nil (markings before) ∙ unmarked)
    (λ front rest e. few front rest (e ∙ grown)) in
    subst AreNone (sym (ap (λ o. o ∷ faults_after line_fault (before ++ x ∷ []) (body_lines (n + 1) name arcs)) right)) later

lines_tail : (name : List ℕ) (arcs : List Triple) → IsNamed name → AllArcsNamed arcs → lines (fed (map triple_text arcs) ++ (mark_text name ++ codes "\n.end\n")) ≡ tail_lines name arcs
lines_tail name [] is are = first_line (mark_text name) (codes ".end\n") (mark_feed name is)
lines_tail name (t ∷ arcs) is are =
    let rest = mark_text name ++ codes "\n.end\n" in
    ap lines (append_assoc (triple_text t) (10 ∷ fed (map triple_text arcs)) rest)
    ∙ first_line (triple_text t) (fed (map triple_text arcs) ++ rest) (triple_feed t are.0) ∙ ap (λ l. triple_text t ∷ l) (lines_tail name arcs is are.1)

-- the names of the arcs, and that of the initial state
abbrev pub arcs_named : System → List Triple
arcs_named lts = map (names_of lts) lts.arcs

abbrev pub initial_name : System → List ℕ
initial_name lts = name_at lts.state_names lts.initial

pub lines_is : (lts : System) → IsNamed (initial_name lts) → AllNamed lts.label_names → AllArcsNamed (arcs_named lts)
    → lines (graph_text lts) ≡ codes ".model lts" ∷ (codes ".outputs" ++ labels_text lts.label_names) ∷ codes ".state graph" ∷ tail_lines (initial_name lts) (arcs_named lts)
lines_is lts is labels are =
    let name = initial_name lts in
    let outputs = codes ".outputs" ++ labels_text lts.label_names in
    let arcs = fed (map triple_text (arcs_named lts)) in
    let rest = arcs ++ (mark_text name ++ codes "\n.end\n") in
    let end : codes ".marking {" ++ (name ++ codes "}\n.end\n") ≡ mark_text name ++ codes "\n.end\n" =
    ap (λ l. codes ".marking {" ++ l) (sym (append_assoc name (codes "}") (codes "\n.end\n"))) ∙ sym (append_assoc (codes ".marking {") (name ++ codes "}") (codes "\n.end\n")) in
    let text : graph_text lts ≡ codes ".model lts\n" ++ (codes ".outputs" ++ (labels_text lts.label_names ++ (codes "\n.state graph\n" ++ rest))) =
    λ i. codes ".model lts\n.outputs" ++ (labels_text lts.label_names ++ (codes "\n.state graph\n" ++ (fed (sym (map-map triple_text (names_of lts) lts.arcs) i) ++ end i))) in
    ap lines (text ∙ ap (λ l. codes ".model lts\n" ++ l) (sym (append_assoc (codes ".outputs") (labels_text lts.label_names) (codes "\n.state graph\n" ++ rest))))
    ∙ ap (λ l. codes ".model lts" ∷ l)
    (first_line outputs (codes ".state graph\n" ++ rest) (joined_none _ (codes ".outputs") (labels_text lts.label_names) refl (labels_feed lts.label_names labels))
    ∙ ap (λ l. outputs ∷ codes ".state graph" ∷ l) (lines_tail name (arcs_named lts) is are))

opens_not : (first : List ℕ) (more : List (List ℕ)) → bytes_eq first (codes ".state") ≡ false → opens_by (first ∷ more) ≡ false
opens_not first [] e = refl
opens_not first (second ∷ []) e = rw e refl
opens_not first (second ∷ third ∷ more) e = refl

-- the heading has no fault, and what follows it is the rest
pub head_is : (all : List Line) (labels : List (List ℕ)) (rest : List Line) → AllNamed labels
    → all ≡ (1, codes ".model lts") ∷ (2, codes ".outputs" ++ labels_text labels) ∷ (3, codes ".state graph") ∷ rest
    → AreNone (map heading_fault (before_first opens all)) × (after_first opens all ≡ rest)
head_is all labels rest are e =
    let one : Line = (1, codes ".model lts") in
    let two : Line = (2, codes ".outputs" ++ labels_text labels) in
    let three : Line = (3, codes ".state graph") in
    let said = outputs_tokens labels are in
    let shut : opens two ≡ false = ap opens_by said.1 ∙ opens_not (codes ".outputs") said.0 refl in
    let passed : heading_fault two ≡ None = passes_on said.0 said.1 in
    let before : before_first opens all ≡ one ∷ two ∷ [] =
    ap (before_first opens) e ∙ first_no opens one (two ∷ three ∷ rest) refl
    ∙ ap (λ l. one ∷ l) (first_no opens two (three ∷ rest) shut ∙ ap (λ l. two ∷ l) (first_yes opens three rest refl)) in
    let after : after_first opens all ≡ rest =
    ap (after_first opens) e ∙ after_no opens one (two ∷ three ∷ rest) refl ∙ after_no opens two (three ∷ rest) shut ∙ after_yes opens three rest refl in
    (subst AreNone (sym (ap (map heading_fault) before ∙ ap (λ o. None ∷ o ∷ []) passed)) tt, after)
  where
    passes_on : (more : List (List ℕ)) → tokens (codes ".outputs" ++ labels_text labels) ≡ codes ".outputs" ∷ more
        → heading_fault (2, codes ".outputs" ++ labels_text labels) ≡ None
    passes_on more said = rw said refl
