-- What right lines say, and the claim that they make.
use Rattle.std.proofs.Common.{◌≡◌, ◌≢◌, ◌⊎◌, inl, inr, Bool, true, false, ◌||◌, if◌then◌else◌, is_some, ℕ, zero, suc, ◌+◌, ◌<◌, ◌^◌, List, [], ◌∷◌, ◌++◌, length, get_or}
use Rattle.std.proofs.Common.{codes, map, decimal, All, Contains, Option, None, Some, ℤ, nat_abs, append-nil, append_assoc, refl, sym, ap, ap₂, subst, ◌∙◌, arith}
use Rattle.std.proofs.Common.{length-append}
use Rattle.std.specs.List.{flat_map, list_any}
use Rattle.std.proofs.lemmas.List.Folds.{list_any-append, list_any_none}
use Rattle.std.specs.Fmt.{signed_decimal}
use Rattle.std.proofs.lemmas.List.Elements.{All-head, All-tail, All-nil, All-cons, All-weaker}
use Rattle.rg_text.specs.Line.{fed, fields}
use Rattle.rg_theory.specs.System.{arc, System}
use Rattle.rg_theory.specs.declared.Class.{Class}
use Rattle.rg_theory.specs.declared.Problem.TheVariants.{Event, States}
use Rattle.rg_theory.specs.ClassWords.{NamesClass}
use Rattle.rg_theory.proofs.ClassBytes.{named_bound}
use Rattle.rg_theory.proofs.ClassDecided.{Decided}
use Rattle.rg_cert_meaning.specs.declared.Form.{Form}
use Rattle.rg_cert_meaning.specs.Refutes as refutes
use Rattle.rg_cert_meaning.specs.Refutes.{NamedRow, Tree}
use Rattle.rg_cert.specs.declared.fault.CertFault.{CertFault}
use Rattle.rg_cert.specs.declared.fault.CertFault.TheVariants.{Expected, UnknownName, NumberPasses, TreeShort, TreeLong}
use Rattle.rg_branch_trees.specs.Trees.{preorder}
use Rattle.rg_cert_data.specs.Trees.{TreeNode}
use Rattle.rg_cert_data.specs.Certificates.{Claim, IsMultiplierInRange, IsSplitInRange, IsRowOf, IsNodeOf, IsTreeOf, IsReasonOf}
use Rattle.rg_cert.specs.Text.{Version, version_one, version_two, heading, splits_start, reason_nodes, asks_two, Subject, of_none, of_arc, of_state, of_label, of_depth, subject_fields, named_fields, node_lines, case_lines, reason_lines, spaced, cert_lines, text_with}
use Rattle.rg_cert.specs.Spells.{Spells}
use Rattle.rg_cert.specs.Lines.{multiplier, split_value, depth, word, state, label, number, HasFieldForm, IsFieldInRange, IsFieldKnown, AreAsked, RowForm, lone_form, arc_form, state_form, label_form, depth_form, one_of, lone_words, state_words, label_words}
use Rattle.rg_cert.specs.Lines.{LineForm, heading_line, class_line, unreachable_line, fork_line, event_line, states_line, case_line, split_tokens_line, split_effect_line}
use Rattle.rg_cert.specs.Lines.{split_start_line, leaf_line, row_line, end_line, fields_of, HasForm, Position, at_heading, at_class, at_reason, at_last, at_one_case}
use Rattle.rg_cert.specs.Lines.{at_cases, at_node, at_row, at_end, Next, to, short, long, refused, follows}
use Rattle.rg_cert.specs.Faults.{LineLeads, LinesLead, BeginsWith, IsFaultAt, FaultFrom}
use Rattle.rg_cert.specs.Drafts.{Head, of_unreachable, of_fork, of_event, of_states, head_fields, IsHeadOf, after_head, Draft, blank, leaf_closed, case_closed, with_split, IsSplitLine, Adds, nodes_lines, draft_lines, IsClassIn, IsNodeIn, IsCase, HasCases, IsDraftAt, IsGood}
use Rattle.rg_cert.proofs.Decimal.{numeral_text}
use Rattle.rg_cert.proofs.LineTexts.{fields_are, from_fields}
use Rattle.rg_cert.proofs.FormKeys.{form_key, keyed}
use Rattle.rg_cert.proofs.Words.{IsSubjectOf, name_is, IsNamed, lone_named, state_named, label_named}
use Rattle.rg_cert.proofs.NextLines.{breaks, no_line, same_line, refused_form, begins_with}
use Rattle.rg_cert.proofs.Good.{good_at, two_texts, three_texts, four_texts, five_texts}
use Rattle.rg_cert.proofs.ClassLines.{class_texts}
use Rattle.rg_cert.proofs.Walks.{start, fault_before}
use Rattle.rg_cert.proofs.DraftSteps.{drafted}
use Rattle.rg_cert.proofs.Deciding.{forms_decided, ranges_decided, names_decided, IsCut, cut_or_not}
use Rattle.rg_cert_meaning.specs.declared.RowName.TheVariants as row_name
use Rattle.rg_cert_meaning.specs.declared.Form.TheVariants as split_form

other_default : (xs : List (List ℕ)) (k : ℕ) (d e : List ℕ) → k < length xs → get_or xs k d ≡ get_or xs k e
other_default [] k d e less = absurd (omega arith)
other_default (x ∷ xs) zero d e less = refl
other_default (x ∷ xs) (suc k) d e less = other_default xs k d e (omega arith)

-- the number of a name
name_there : (names : List (List ℕ)) (text : List ℕ) → Contains names text → (s : ℕ) × (s < length names) × (text ≡ get_or names s [])
name_there names text (k, less, is) = (k, less, sym is ∙ other_default names k text [] less)

multiplier_there : (text : List ℕ) → IsFieldInRange (number multiplier) text → (z : ℤ) × IsMultiplierInRange z × (text ≡ signed_decimal z)
multiplier_there text (z, is, within) = (z, within, numeral_text text z is (omega (arith, within)))

split_there : (text : List ℕ) → IsFieldInRange (number split_value) text → (z : ℤ) × IsSplitInRange z × (text ≡ signed_decimal z)
split_there text (z, is, within) = (z, within, numeral_text text z is (omega (arith, within)))

depth_there : (text : List ℕ) → IsFieldInRange (number depth) text → (d : ℕ) × (d < 2 ^ 32) × (text ≡ decimal d)
depth_there text (z, is, within) =
    let size = ap nat_abs within.1 in
    (within.0, within.2, numeral_text text z is (omega (arith, size, within.2)) ∙ ap signed_decimal within.1)

-- a row whose name has the word and the subject
row_made : (lts : System) (z : ℤ) (w : List ℕ) (subject : Subject) (texts : List (List ℕ)) → IsNamed w subject → IsMultiplierInRange z → IsSubjectOf lts subject
    → texts ≡ signed_decimal z ∷ w ∷ subject_fields lts subject → (r : NamedRow) × IsRowOf lts r × (texts ≡ named_fields lts r)
row_made lts z w subject texts (name, is) small of_system are = (
  record { multiplier = z; name = name },
  record { multiplier = small; name = name_is lts name (subst (λ (p : List ℕ × Subject). IsSubjectOf lts p.1) (sym is) of_system) },
  are ∙ ap (λ (p : List ℕ × Subject). signed_decimal z ∷ p.0 ∷ subject_fields lts p.1) (sym is),
)

-- the row of a right line
row_there : (lts : System) (row : RowForm) (texts : List (List ℕ)) → IsGood lts (row_line row) texts → (r : NamedRow) × IsRowOf lts r × (texts ≡ named_fields lts r)
row_there lts lone_form texts good =
    let m = multiplier_there (get_or texts 0 []) (good_at lts (row_line lone_form) texts 0 (number multiplier) good refl).in_range in
    let v = (good_at lts (row_line lone_form) texts 1 (one_of lone_words) good refl).form in
    row_made lts m.0 (get_or texts 1 []) of_none texts (lone_named (get_or texts 1 []) v) m.1 tt
    (two_texts HasFieldForm (number multiplier) (one_of lone_words) texts good.fields ∙ (λ i. m.2 i ∷ get_or texts 1 [] ∷ []))
row_there lts arc_form texts good =
    let m = multiplier_there (get_or texts 0 []) (good_at lts (row_line arc_form) texts 0 (number multiplier) good refl).in_range in
    let v = (good_at lts (row_line arc_form) texts 1 (word (codes "arc")) good refl).form in
    let a = name_there lts.state_names (get_or texts 2 []) (good_at lts (row_line arc_form) texts 2 state good refl).known in
    let b = name_there lts.label_names (get_or texts 3 []) (good_at lts (row_line arc_form) texts 3 label good refl).known in
    let c = name_there lts.state_names (get_or texts 4 []) (good_at lts (row_line arc_form) texts 4 state good refl).known in
    row_made lts m.0 (codes "arc") (of_arc (arc a.0 b.0 c.0)) texts (row_name.Arc (arc a.0 b.0 c.0), refl) m.1 (a.1, b.1, c.1)
    (five_texts HasFieldForm (number multiplier) (word (codes "arc")) state label state texts good.fields ∙ (λ i. m.2 i ∷ v i ∷ a.2 i ∷ b.2 i ∷ c.2 i ∷ []))
row_there lts state_form texts good =
    let m = multiplier_there (get_or texts 0 []) (good_at lts (row_line state_form) texts 0 (number multiplier) good refl).in_range in
    let v = (good_at lts (row_line state_form) texts 1 (one_of state_words) good refl).form in
    let n = name_there lts.state_names (get_or texts 2 []) (good_at lts (row_line state_form) texts 2 state good refl).known in
    row_made lts m.0 (get_or texts 1 []) (of_state n.0) texts (state_named (get_or texts 1 []) n.0 v) m.1 n.1
    (three_texts HasFieldForm (number multiplier) (one_of state_words) state texts good.fields ∙ (λ i. m.2 i ∷ get_or texts 1 [] ∷ n.2 i ∷ []))
row_there lts label_form texts good =
    let m = multiplier_there (get_or texts 0 []) (good_at lts (row_line label_form) texts 0 (number multiplier) good refl).in_range in
    let v = (good_at lts (row_line label_form) texts 1 (one_of label_words) good refl).form in
    let n = name_there lts.label_names (get_or texts 2 []) (good_at lts (row_line label_form) texts 2 label good refl).known in
    row_made lts m.0 (get_or texts 1 []) (of_label n.0) texts (label_named (get_or texts 1 []) n.0 v) m.1 n.1
    (three_texts HasFieldForm (number multiplier) (one_of label_words) label texts good.fields ∙ (λ i. m.2 i ∷ get_or texts 1 [] ∷ n.2 i ∷ []))
row_there lts depth_form texts good =
    let m = multiplier_there (get_or texts 0 []) (good_at lts (row_line depth_form) texts 0 (number multiplier) good refl).in_range in
    let v = (good_at lts (row_line depth_form) texts 1 (word (codes "above")) good refl).form in
    let d = depth_there (get_or texts 2 []) (good_at lts (row_line depth_form) texts 2 (number depth) good refl).in_range in
    row_made lts m.0 (codes "above") (of_depth d.0) texts (row_name.Above d.0, refl) m.1 d.1
    (three_texts HasFieldForm (number multiplier) (word (codes "above")) (number depth) texts good.fields ∙ (λ i. m.2 i ∷ v i ∷ d.2 i ∷ []))

split_tokens_there : (lts : System) (texts : List (List ℕ)) → IsGood lts split_tokens_line texts → (form : Form) × (at : ℤ) × IsSplitLine lts texts form at
split_tokens_there lts texts good =
    let u = (good_at lts split_tokens_line texts 0 (word (codes "split")) good refl).form in
    let v = (good_at lts split_tokens_line texts 1 (word (codes "tokens")) good refl).form in
    let n = name_there lts.state_names (get_or texts 2 []) (good_at lts split_tokens_line texts 2 state good refl).known in
    let z = split_there (get_or texts 3 []) (good_at lts split_tokens_line texts 3 (number split_value) good refl).in_range in (
      split_form.Tokens n.0,
      z.0,
      record {
        variable = n.1;
        in_range = z.1;
        are = four_texts HasFieldForm (word (codes "split")) (word (codes "tokens")) state (number split_value) texts good.fields ∙ (λ i. u i ∷ v i ∷ n.2 i ∷ z.2 i ∷ []);
      },
    )

split_effect_there : (lts : System) (texts : List (List ℕ)) → IsGood lts split_effect_line texts → (form : Form) × (at : ℤ) × IsSplitLine lts texts form at
split_effect_there lts texts good =
    let u = (good_at lts split_effect_line texts 0 (word (codes "split")) good refl).form in
    let v = (good_at lts split_effect_line texts 1 (word (codes "effect")) good refl).form in
    let n = name_there lts.label_names (get_or texts 2 []) (good_at lts split_effect_line texts 2 label good refl).known in
    let z = split_there (get_or texts 3 []) (good_at lts split_effect_line texts 3 (number split_value) good refl).in_range in (
      split_form.Effect n.0,
      z.0,
      record {
        variable = n.1;
        in_range = z.1;
        are = four_texts HasFieldForm (word (codes "split")) (word (codes "effect")) label (number split_value) texts good.fields ∙ (λ i. u i ∷ v i ∷ n.2 i ∷ z.2 i ∷ []);
      },
    )

split_start_there : (lts : System) (texts : List (List ℕ)) → IsGood lts split_start_line texts → (form : Form) × (at : ℤ) × IsSplitLine lts texts form at
split_start_there lts texts good =
    let u = (good_at lts split_start_line texts 0 (word (codes "split")) good refl).form in
    let v = (good_at lts split_start_line texts 1 (word (codes "start")) good refl).form in
    let z = split_there (get_or texts 2 []) (good_at lts split_start_line texts 2 (number split_value) good refl).in_range in (
      split_form.Start,
      z.0,
      record {
        variable = tt;
        in_range = z.1;
        are = three_texts HasFieldForm (word (codes "split")) (word (codes "start")) (number split_value) texts good.fields ∙ (λ i. u i ∷ v i ∷ z.2 i ∷ []);
      },
    )

-- the head of a right line
head_there : (lts : System) (version : Version) (form : LineForm) (texts : List (List ℕ)) (next : Position) → IsGood lts form texts → follows (at_reason version) form ≡ to next
    → (head : Head) × IsHeadOf lts head × (texts ≡ head_fields lts head) × (next ≡ after_head version head)
head_there lts version unreachable_line texts next good leads =
    let v = (good_at lts unreachable_line texts 0 (word (codes "unreachable")) good refl).form in
    let a = name_there lts.state_names (get_or texts 1 []) (good_at lts unreachable_line texts 1 state good refl).known in
    (of_unreachable a.0, a.1, two_texts HasFieldForm (word (codes "unreachable")) state texts good.fields ∙ (λ i. v i ∷ a.2 i ∷ []), cc)
head_there lts version fork_line texts next good leads =
    let v = (good_at lts fork_line texts 0 (word (codes "fork")) good refl).form in
    let a = name_there lts.state_names (get_or texts 1 []) (good_at lts fork_line texts 1 state good refl).known in
    let b = name_there lts.label_names (get_or texts 2 []) (good_at lts fork_line texts 2 label good refl).known in
    let c = name_there lts.state_names (get_or texts 3 []) (good_at lts fork_line texts 3 state good refl).known in
    let d = name_there lts.state_names (get_or texts 4 []) (good_at lts fork_line texts 4 state good refl).known in
    (of_fork a.0 b.0 c.0 d.0, (a.1, b.1, c.1, d.1), five_texts HasFieldForm (word (codes "fork")) state label state state texts good.fields ∙ (λ i. v i ∷ a.2 i ∷ b.2 i ∷ c.2 i ∷ d.2 i ∷ []), cc)
head_there lts version event_line texts next good leads =
    let v = (good_at lts event_line texts 0 (word (codes "event")) good refl).form in
    let a = name_there lts.state_names (get_or texts 1 []) (good_at lts event_line texts 1 state good refl).known in
    let b = name_there lts.label_names (get_or texts 2 []) (good_at lts event_line texts 2 label good refl).known in
    (of_event a.0 b.0, (a.1, b.1), three_texts HasFieldForm (word (codes "event")) state label texts good.fields ∙ (λ i. v i ∷ a.2 i ∷ b.2 i ∷ []), cc)
head_there lts version states_line texts next good leads =
    let v = (good_at lts states_line texts 0 (word (codes "states")) good refl).form in
    let a = name_there lts.state_names (get_or texts 1 []) (good_at lts states_line texts 1 state good refl).known in
    let b = name_there lts.state_names (get_or texts 2 []) (good_at lts states_line texts 2 state good refl).known in
    (of_states a.0 b.0, (a.1, b.1), three_texts HasFieldForm (word (codes "states")) state state texts good.fields ∙ (λ i. v i ∷ a.2 i ∷ b.2 i ∷ []), cc)
head_there lts version (heading_line v) texts next good leads = absurd cc
head_there lts version (class_line v) texts next good leads = absurd cc
head_there lts version case_line texts next good leads = absurd cc
head_there lts version split_tokens_line texts next good leads = absurd cc
head_there lts version split_effect_line texts next good leads = absurd cc
head_there lts version split_start_line texts next good leads = absurd cc
head_there lts version leaf_line texts next good leads = absurd cc
head_there lts version (row_line row) texts next good leads = absurd cc
head_there lts version end_line texts next good leads = absurd cc

-- each right line adds something
adds_there : (lts : System) (position : Position) (form : LineForm) (texts : List (List ℕ)) (d : Draft) → IsGood lts form texts → (new : Draft) × Adds lts position form texts d new
adds_there lts position split_tokens_line texts d good =
    let is = split_tokens_there lts texts good in (with_split (leaf_closed position d) is.0 is.1, (is.0, is.1, is.2, refl))
adds_there lts position split_effect_line texts d good =
    let is = split_effect_there lts texts good in (with_split (leaf_closed position d) is.0 is.1, (is.0, is.1, is.2, refl))
adds_there lts position split_start_line texts d good =
    let is = split_start_there lts texts good in (with_split (leaf_closed position d) is.0 is.1, (is.0, is.1, is.2, refl))
adds_there lts position leaf_line texts d good = (leaf_closed position d, refl)
adds_there lts position (row_line row) texts d good =
    let is = row_there lts row texts good in (record { cases = d.cases; nodes = d.nodes; rows = d.rows ++ is.0 ∷ [] }, (is.0, is.1, is.2, refl))
adds_there lts position case_line texts d good = (case_closed position d, refl)
adds_there lts position end_line texts d good = (case_closed position d, refl)
adds_there lts position (heading_line v) texts d good = (d, refl)
adds_there lts position (class_line v) texts d good = (d, refl)
adds_there lts position unreachable_line texts d good = (d, refl)
adds_there lts position fork_line texts d good = (d, refl)
adds_there lts position event_line texts d good = (d, refl)
adds_there lts position states_line texts d good = (d, refl)

-- the draft of lines
record IsRead (lts : System) (version : Version) (head : Head) (position : Position) (d : Draft) (lines : List (List ℕ)) : Type 0 where
  pub last : Draft
  pub texts : List (List (List ℕ))
  pub ended : IsDraftAt lts version head at_end last
  pub grown : draft_lines lts at_end last ≡ draft_lines lts position d ++ texts
  pub are : lines ≡ map spaced texts

lines_read : (lts : System) (version : Version) (head : Head) (position : Position) (d : Draft) (lines : List (List ℕ))
    → IsDraftAt lts version head position d → LinesLead lts position lines at_end → IsRead lts version head position d lines
lines_read lts version head position d [] is same = record {
  last = d;
  texts = [];
  ended = subst (λ p. IsDraftAt lts version head p d) same is;
  grown = ap (λ p. draft_lines lts p d) (sym same) ∙ sym (append-nil (draft_lines lts position d));
  are = refl;
}
lines_read lts version head position d (line ∷ lines) is (next, leads, more) =
    let adds = adds_there lts position leads.form leads.texts d (record { fields = leads.has.fields; right = leads.right }) in
    let one = drafted lts version head position leads.form leads.texts next d adds.0 is leads.has.fields leads.leads adds.1 in
    let rest = lines_read lts version head next adds.0 lines one.0 more in
    record {
      last = rest.last;
      texts = leads.texts ∷ rest.texts;
      ended = rest.ended;
      grown = rest.grown ∙ ap (λ l. l ++ rest.texts) one.1 ∙ append_assoc (draft_lines lts position d) (leads.texts ∷ []) rest.texts;
      are = ap₂ ◌∷◌ leads.has.spelled rest.are;
    }

-- the trees of whole cases
record AreTrees (lts : System) (version : Version) (cases : List (List TreeNode)) : Type 0 where
  pub trees : List Tree
  pub count : length trees ≡ length cases
  pub each : All (IsTreeOf lts) trees
  pub fits : version ≡ version_one → list_any splits_start (flat_map preorder trees) ≡ false
  pub lines : flat_map (case_lines lts) trees ≡ flat_map (nodes_lines lts) cases

trees_there : (lts : System) (version : Version) (cases : List (List TreeNode)) → All (IsCase lts version) cases → AreTrees lts version cases
trees_there lts version [] each = record { trees = []; count = refl; each = All-nil (IsTreeOf lts); fits = λ one. refl; lines = refl }
trees_there lts version (nodes ∷ cases) each =
    let first = All-head (IsCase lts version) nodes cases each in
    let more = trees_there lts version cases (All-tail (IsCase lts version) nodes cases each) in
    let nodes_in : All (IsNodeIn lts version) (preorder first.tree) = subst (All (IsNodeIn lts version)) first.whole first.each in
    record {
      trees = first.tree ∷ more.trees;
      count = ap suc more.count;
      each = All-cons (IsTreeOf lts) first.tree more.trees (All-weaker (IsNodeIn lts version) (IsNodeOf lts) (λ n h. h.of_system) (preorder first.tree) nodes_in) more.each;
      fits = λ one. list_any-append splits_start (preorder first.tree) (flat_map preorder more.trees)
          ∙ ap₂ ◌||◌ (list_any_none splits_start (preorder first.tree)
          (All-weaker (IsNodeIn lts version) (λ n. splits_start n ≡ false) (λ n h. h.fits one) (preorder first.tree) nodes_in)) (more.fits one);
      lines = ap₂ ◌++◌ (ap (λ l. (codes "case" ∷ []) ∷ flat_map (node_lines lts) l) (sym first.whole)) more.lines;
    }

-- the reason of a head and cases
record IsReasonThere (lts : System) (version : Version) (head : Head) (cases : List (List TreeNode)) : Type 0 where
  pub reason : refutes.Reason
  pub of_system : IsReasonOf lts reason
  pub fits : version ≡ version_one → list_any splits_start (reason_nodes reason) ≡ false
  pub lines : reason_lines lts reason ≡ head_fields lts head ∷ flat_map (nodes_lines lts) cases

reason_there : (lts : System) (version : Version) (head : Head) (cases : List (List TreeNode)) → IsHeadOf lts head → All (IsCase lts version) cases
    → HasCases head cases → IsReasonThere lts version head cases
reason_there lts version (of_unreachable s) cases is each none = record {
  reason = refutes.unreachable s;
  of_system = is;
  fits = λ one. refl;
  lines = ap (λ l. head_fields lts (of_unreachable s) ∷ flat_map (nodes_lines lts) l) (sym none);
}
reason_there lts version (of_fork s t s₁ s₂) cases is each none = record {
  reason = refutes.fork s t s₁ s₂;
  of_system = is;
  fits = λ one. refl;
  lines = ap (λ l. head_fields lts (of_fork s t s₁ s₂) ∷ flat_map (nodes_lines lts) l) (sym none);
}
reason_there lts version (of_event s t) cases is each one =
    let trees = trees_there lts version cases each in
    record {
      reason = refutes.refuted (Event s t) trees.trees;
      of_system = (is.0, is.1, trees.count ∙ one, trees.each);
      fits = trees.fits;
      lines = ap (λ l. head_fields lts (of_event s t) ∷ l) trees.lines;
    }
reason_there lts version (of_states s s') cases is each any =
    let trees = trees_there lts version cases each in
    record {
      reason = refutes.refuted (States s s') trees.trees;
      of_system = (is.0, is.1, trees.each);
      fits = trees.fits;
      lines = ap (λ l. head_fields lts (of_states s s') ∷ l) trees.lines;
    }

heading_there : (form : LineForm) (line : List ℕ) (texts : List (List ℕ)) (next : Position) → HasForm form line texts → follows at_heading form ≡ to next
    → (version : Version) × (line ≡ spaced (heading version)) × (next ≡ at_class version)
heading_there (heading_line version) line [] next has leads = absurd has.fields
heading_there (heading_line version) line (v ∷ []) next has leads = absurd has.fields.1
heading_there (heading_line version) line (v ∷ w ∷ []) next has leads = (version, has.spelled ∙ ap₂ (λ a b. a ++ 32 ∷ b) has.fields.0 has.fields.1.0, cc)
heading_there (heading_line version) line (v ∷ w ∷ t ∷ more) next has leads = absurd has.fields.1.1
heading_there (class_line version) line texts next has leads = absurd cc
heading_there unreachable_line line texts next has leads = absurd cc
heading_there fork_line line texts next has leads = absurd cc
heading_there event_line line texts next has leads = absurd cc
heading_there states_line line texts next has leads = absurd cc
heading_there case_line line texts next has leads = absurd cc
heading_there split_tokens_line line texts next has leads = absurd cc
heading_there split_effect_line line texts next has leads = absurd cc
heading_there split_start_line line texts next has leads = absurd cc
heading_there leaf_line line texts next has leads = absurd cc
heading_there (row_line row) line texts next has leads = absurd cc
heading_there end_line line texts next has leads = absurd cc

-- a class line of a version at which it may stand
record IsClassThere (version : Version) (line : List ℕ) (next : Position) : Type 0 where
  pub name : List ℕ
  pub class : Class
  pub named : NamesClass name class
  pub fits : IsClassIn version class
  pub spelled : line ≡ codes "class " ++ name
  pub leads : next ≡ at_reason version

class_by : (version first : Version) (line : List ℕ) (texts : List (List ℕ)) (next : Position) → HasForm (class_line first) line texts
    → (version ≡ version_one → first ≡ version_one) → next ≡ at_reason version
    → IsClassThere version line next
class_by version first line texts next has fits leads =
    let (name, class, named, is, spelled) = class_texts first line texts has in
    record { name = name; class = class; named = named; fits = λ one. is ∙ fits one; spelled = spelled; leads = leads }

class_there : (version : Version) (form : LineForm) (line : List ℕ) (texts : List (List ℕ)) (next : Position) → HasForm form line texts
    → follows (at_class version) form ≡ to next → IsClassThere version line next
class_there version (class_line version_one) line texts next has leads = class_by version version_one line texts next has (λ e. refl) cc
class_there version_one (class_line version_two) line texts next has leads = absurd cc
class_there version_two (class_line version_two) line texts next has leads = class_by version_two version_two line texts next has (λ e. let both : version_two ≡ version_one = e in absurd cc) cc
class_there version (heading_line v) line texts next has leads = absurd cc
class_there version unreachable_line line texts next has leads = absurd cc
class_there version fork_line line texts next has leads = absurd cc
class_there version event_line line texts next has leads = absurd cc
class_there version states_line line texts next has leads = absurd cc
class_there version case_line line texts next has leads = absurd cc
class_there version split_tokens_line line texts next has leads = absurd cc
class_there version split_effect_line line texts next has leads = absurd cc
class_there version split_start_line line texts next has leads = absurd cc
class_there version leaf_line line texts next has leads = absurd cc
class_there version (row_line row) line texts next has leads = absurd cc
class_there version end_line line texts next has leads = absurd cc

blank_at : (lts : System) (version : Version) (head : Head) → IsDraftAt lts version head (after_head version head) blank × (draft_lines lts (after_head version head) blank ≡ [])
blank_at lts version (of_unreachable s) = ((refl, refl), refl)
blank_at lts version (of_fork s t s₁ s₂) = ((refl, refl), refl)
blank_at lts version (of_event s t) = ((refl, refl), refl)
blank_at lts version (of_states s s') = ((refl, refl), refl)

no_marking : (b : Bool) → (if b then version_two else version_one) ≡ version_one → b ≡ false
no_marking true first = let both : version_two ≡ version_one = first in absurd cc
no_marking false first = refl

-- the version of a text has what its claim asks
pub claim_fits : (version : Version) (claim : Claim) → IsClassIn version claim.class
    → (version ≡ version_one → list_any splits_start (reason_nodes claim.reason) ≡ false) → version ≡ version_one → asks_two claim ≡ false
claim_fits version claim class reason one = ap₂ ◌||◌ (no_marking (is_some claim.class.marking) (class one)) (reason one)

-- the claim of a whole text
from_head : (lts : System) (version : Version) (name : List ℕ) (class : Class) (line : List ℕ) (lines : List (List ℕ)) (bytes : List ℕ) → NamesClass name class → IsClassIn version class
    → bytes ≡ fed (spaced (heading version) ∷ (codes "class " ++ name) ∷ line ∷ lines) → LinesLead lts (at_reason version) (line ∷ lines) at_end → (claim : Claim) × Spells bytes lts claim
unfolding text_with cert_lines
from_head lts version name class line lines bytes named fits is (next, leads, more) =
    let head = head_there lts version leads.form leads.texts next (record { fields = leads.has.fields; right = leads.right }) leads.leads in
    let start = blank_at lts version head.0 in
    let read = lines_read lts version head.0 (after_head version head.0) blank lines start.0 (subst (λ p. LinesLead lts p lines at_end) head.3 more) in
    let reason = reason_there lts version head.0 read.last.cases head.1 read.ended.0 read.ended.1 in
    let ends : flat_map (nodes_lines lts) read.last.cases ++ (codes "end" ∷ []) ∷ [] ≡ read.texts = read.grown ∙ ap (λ l. l ++ read.texts) start.1 in
    let whole : line ∷ lines ≡ map spaced (reason_lines lts reason.reason ++ (codes "end" ∷ []) ∷ []) =
    ap₂ ◌∷◌ (leads.has.spelled ∙ ap spaced head.2) (read.are ∙ ap (map spaced) (sym ends))
    ∙ ap (λ l. map spaced (l ++ (codes "end" ∷ []) ∷ [])) (sym reason.lines) in (
      record { class = class; reason = reason.reason },
      record {
        in_range = record { reason = reason.of_system; numbers = named_bound name class named };
        version = version;
        fits = claim_fits version (record { class = class; reason = reason.reason }) fits reason.fits;
        class = name;
        named = named;
        text = is ∙ ap (λ l. fed (spaced (heading version) ∷ (codes "class " ++ name) ∷ l)) whole;
      },
    )

from_class : (lts : System) (version : Version) (line : List ℕ) (lines : List (List ℕ)) (bytes : List ℕ)
    → bytes ≡ fed (spaced (heading version) ∷ line ∷ lines) → LinesLead lts (at_class version) (line ∷ lines) at_end
    → (claim : Claim) × Spells bytes lts claim
from_class lts version line [] bytes is (next, leads, same) =
    let class = class_there version leads.form line leads.texts next leads.has leads.leads in
    let both : at_reason version ≡ at_end = sym class.leads ∙ same in
    absurd cc
from_class lts version line (third ∷ lines) bytes is (next, leads, more) =
    let class = class_there version leads.form line leads.texts next leads.has leads.leads in
    from_head lts version class.name class.class third lines bytes class.named class.fits (is ∙ ap (λ l. fed (spaced (heading version) ∷ l ∷ third ∷ lines)) class.spelled)
    (subst (λ p. LinesLead lts p (third ∷ lines) at_end) class.leads more)

-- lines that lead to the end spell a claim
pub from_lines : (lts : System) (lines : List (List ℕ)) (bytes : List ℕ) → bytes ≡ fed lines → LinesLead lts at_heading lines at_end → (claim : Claim) × Spells bytes lts claim
from_lines lts [] bytes is same = absurd cc
from_lines lts (line ∷ []) bytes is (next, leads, same) =
    let heading = heading_there leads.form line leads.texts next leads.has leads.leads in
    let both : at_class heading.0 ≡ at_end = sym heading.2 ∙ same in
    absurd cc
from_lines lts (line ∷ second ∷ lines) bytes is (next, leads, more) =
    let heading = heading_there leads.form line leads.texts next leads.has leads.leads in
    from_class lts heading.0 second lines bytes (is ∙ ap (λ l. fed (l ∷ second ∷ lines)) heading.1) (subst (λ p. LinesLead lts p (second ∷ lines) at_end) heading.2 more)

-- the text goes on with a right line, or with a fault
abbrev GoesOnOrFails : System → Position → List ℕ → ℕ → Type 0
GoesOnOrFails lts position text n =
    ((line : List ℕ) × (next : Position) × (rest : List ℕ) × (text ≡ line ++ 10 ∷ rest) × LineLeads lts position line next) ⊎ ((fault : CertFault) × IsFaultAt lts position text n fault)

next_or_fault : (lts : System) (position : Position) (text : List ℕ) (n : ℕ) → (position ≡ at_end → ⊥) → GoesOnOrFails lts position text n
next_or_fault lts position text n going = by (cut_or_not 10 text)
  where
    none_fits : (cut : IsCut 10 text) → ((form : LineForm) → form_key (fields cut.line) ≡ Some form → AreAsked HasFieldForm (fields_of form) (fields cut.line) → ⊥)
        → (form : LineForm) (texts : List (List ℕ)) → ¬ BeginsWith position text form texts
    none_fits cut none form texts b =
        let has = same_line position text cut.line cut.rest cut.cut cut.lacks form texts b in
        let are = fields_are form cut.line texts has in
        none form (ap form_key are ∙ keyed form texts has.fields) (subst (AreAsked HasFieldForm (fields_of form)) (sym are) has.fields)

    unexpected : ((form : LineForm) (texts : List (List ℕ)) → ¬ BeginsWith position text form texts) → GoesOnOrFails lts position text n
    unexpected none = inr (Expected n, (refl, breaks position text going none))

    leads_on : (cut : IsCut 10 text) (f : LineForm) → AreAsked HasFieldForm (fields_of f) (fields cut.line) → (next : Next) → follows position f ≡ next
        → Decided (AreAsked IsFieldInRange (fields_of f) (fields cut.line)) → Decided (AreAsked (IsFieldKnown lts) (fields_of f) (fields cut.line)) → GoesOnOrFails lts position text n
    leads_on cut f asked refused leads ranges names =
        unexpected (refused_form position text cut.line cut.rest f (fields cut.line) cut.cut cut.lacks refl asked leads)
    leads_on cut f asked (to next) leads (inr out) names =
        inr (NumberPasses n, (refl, (f, fields cut.line, begins_with position text cut.line cut.rest f (fields cut.line) cut.cut refl asked (λ e. let both = sym leads ∙ e in absurd cc), out)))
    leads_on cut f asked (to next) leads (inl within) (inr unknown) =
        inr (
          UnknownName n,
          (
            refl,
            (
              f,
              fields cut.line,
              begins_with position text cut.line cut.rest f (fields cut.line) cut.cut refl asked
                  (λ e. let both = sym leads ∙ e in absurd cc),
              (within, unknown),
            ),
          ),
        )
    leads_on cut f asked (to next) leads (inl within) (inl known) =
        inl (
          cut.line,
          next,
          cut.rest,
          cut.cut,
          record {
            form = f;
            texts = fields cut.line;
            has = record { fields = asked; spelled = from_fields cut.line (fields cut.line) refl };
            right = (within, known);
            leads = leads;
          },
        )
    leads_on cut f asked short leads (inr out) names =
        inr (NumberPasses n, (refl, (f, fields cut.line, begins_with position text cut.line cut.rest f (fields cut.line) cut.cut refl asked (λ e. let both = sym leads ∙ e in absurd cc), out)))
    leads_on cut f asked short leads (inl within) (inr unknown) =
        inr (
          UnknownName n,
          (
            refl,
            (
              f,
              fields cut.line,
              begins_with position text cut.line cut.rest f (fields cut.line) cut.cut refl asked
                  (λ e. let both = sym leads ∙ e in absurd cc),
              (within, unknown),
            ),
          ),
        )
    leads_on cut f asked short leads (inl within) (inl known) =
        inr (TreeShort, (f, fields cut.line, begins_with position text cut.line cut.rest f (fields cut.line) cut.cut refl asked (λ e. let both = sym leads ∙ e in absurd cc), ((within, known), leads)))
    leads_on cut f asked long leads (inr out) names =
        inr (NumberPasses n, (refl, (f, fields cut.line, begins_with position text cut.line cut.rest f (fields cut.line) cut.cut refl asked (λ e. let both = sym leads ∙ e in absurd cc), out)))
    leads_on cut f asked long leads (inl within) (inr unknown) =
        inr (
          UnknownName n,
          (
            refl,
            (
              f,
              fields cut.line,
              begins_with position text cut.line cut.rest f (fields cut.line) cut.cut refl asked
                  (λ e. let both = sym leads ∙ e in absurd cc),
              (within, unknown),
            ),
          ),
        )
    leads_on cut f asked long leads (inl within) (inl known) =
        inr (TreeLong, (f, fields cut.line, begins_with position text cut.line cut.rest f (fields cut.line) cut.cut refl asked (λ e. let both = sym leads ∙ e in absurd cc), ((within, known), leads)))

    of_form : (cut : IsCut 10 text) (f : LineForm) → form_key (fields cut.line) ≡ Some f → Decided (AreAsked HasFieldForm (fields_of f) (fields cut.line)) → GoesOnOrFails lts position text n
    of_form cut f key (inl asked) =
        leads_on cut f asked (follows position f) refl (ranges_decided (fields_of f) (fields cut.line)) (names_decided lts (fields_of f) (fields cut.line))
    of_form cut f key (inr none) =
        unexpected (none_fits cut (λ form k are. let same : f ≡ form = let both = sym key ∙ k in cc in none (subst (λ g. AreAsked HasFieldForm (fields_of g) (fields cut.line)) (sym same) are)))

    by_key : (cut : IsCut 10 text) (key : Option LineForm) → form_key (fields cut.line) ≡ key → GoesOnOrFails lts position text n
    by_key cut None key = unexpected (none_fits cut (λ form k are. let both = sym key ∙ k in absurd cc))
    by_key cut (Some f) key = of_form cut f key (forms_decided (fields_of f) (fields cut.line))

    by : IsCut 10 text ⊎ ((k : ℕ) (d : ℕ) → k < length text → get_or text k d ≢ 10) → GoesOnOrFails lts position text n
    by (inl cut) = by_key cut (form_key (fields cut.line)) refl
    by (inr none) = unexpected (no_line position text none)

end_or_not : (position : Position) → (position ≡ at_end) ⊎ (position ≡ at_end → ⊥)
end_or_not at_heading = inr (λ e. absurd cc)
end_or_not (at_class v) = inr (λ e. absurd cc)
end_or_not (at_reason v) = inr (λ e. absurd cc)
end_or_not at_last = inr (λ e. absurd cc)
end_or_not (at_one_case v) = inr (λ e. absurd cc)
end_or_not (at_cases v) = inr (λ e. absurd cc)
end_or_not (at_node v c due) = inr (λ e. absurd cc)
end_or_not (at_row v c due) = inr (λ e. absurd cc)
end_or_not at_end = inl refl

-- the text is whole from a position on, or has a first fault
abbrev EndsOrFails : System → Position → List ℕ → ℕ → Type 0
EndsOrFails lts position text n = ((lines : List (List ℕ)) × LinesLead lts position lines at_end × (text ≡ fed lines)) ⊎ ((fault : CertFault) × FaultFrom lts position text n fault)

fails_here : (lts : System) (position : Position) (text : List ℕ) (n : ℕ) (fault : CertFault) → IsFaultAt lts position text (0 + n) fault → FaultFrom lts position text n fault
fails_here lts position text n fault is = record { before = []; position = position; rest = text; goes_on = start lts position text; is = is }

at_the_end : (lts : System) (position : Position) (text : List ℕ) (n : ℕ) → position ≡ at_end → EndsOrFails lts position text n
at_the_end lts position [] n same = inl ([], same, refl)
at_the_end lts position (b ∷ text) n same =
    inr (Expected (0 + n), fails_here lts position (b ∷ text) n (Expected (0 + n)) (subst (λ p. IsFaultAt lts p (b ∷ text) (0 + n) (Expected (0 + n))) (sym same) (refl, (λ e. absurd cc))))

walk : (fuel : ℕ) (lts : System) (position : Position) (text : List ℕ) (n : ℕ) → length text < fuel → EndsOrFails lts position text n
walk zero lts position text n few = absurd (omega arith)
walk (suc fuel) lts position text n few = by (end_or_not position) (λ next rest short. walk fuel lts next rest (n + 1) short)
  where
    on : (line : List ℕ) (next : Position) (rest : List ℕ) → text ≡ line ++ 10 ∷ rest → LineLeads lts position line next → EndsOrFails lts next rest (n + 1) → EndsOrFails lts position text n
    on line next rest cut leads (inl (lines, more, is)) = inl (line ∷ lines, (next, leads, more), cut ∙ ap (λ l. line ++ 10 ∷ l) is)
    on line next rest cut leads (inr (fault, f)) = inr (fault, fault_before lts position line next text rest n fault cut leads f)

    goes : GoesOnOrFails lts position text (0 + n) → ((next : Position) (rest : List ℕ) → length rest < fuel → EndsOrFails lts next rest (n + 1)) → EndsOrFails lts position text n
    goes (inl (line, next, rest, cut, leads)) more =
        let long = ap length cut ∙ length-append line (10 ∷ rest) in
        on line next rest cut leads (more next rest (omega arith))
    goes (inr (fault, is)) more = inr (fault, fails_here lts position text n fault is)

    by : (position ≡ at_end) ⊎ (position ≡ at_end → ⊥) → ((next : Position) (rest : List ℕ) → length rest < fuel → EndsOrFails lts next rest (n + 1)) → EndsOrFails lts position text n
    by (inl same) more = at_the_end lts position text n same
    by (inr going) more = goes (next_or_fault lts position text (0 + n) going) more

-- a text spells a claim or has a first fault
pub some_answer : (bytes : List ℕ) (lts : System) → ((claim : Claim) × Spells bytes lts claim) ⊎ ((fault : CertFault) × FaultFrom lts at_heading bytes 1 fault)
some_answer bytes lts = by (walk (suc (length bytes)) lts at_heading bytes 1 (omega arith))
  where
    by : EndsOrFails lts at_heading bytes 1 → ((claim : Claim) × Spells bytes lts claim) ⊎ ((fault : CertFault) × FaultFrom lts at_heading bytes 1 fault)
    by (inl (lines, leads, is)) = inl (from_lines lts lines bytes is leads)
    by (inr (fault, f)) = inr (fault, f)
