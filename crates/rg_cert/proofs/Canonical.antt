-- The lines of a claim lead on, one after the other.
use Rattle.std.proofs.Common.{◌≡◌, true, false, Bool, ◌||◌, ℕ, suc, ◌-◌, ◌<◌, ◌≤◌, ◌^◌, List, [], ◌∷◌, ◌++◌, length, get_or, codes, map, All, Contains, ℤ, pos, nat_abs, append-nil, append_assoc, is_some, if◌then◌else◌, refl, sym, ap, ◌∙◌, subst, arith}
use Rattle.std.specs.List.{flat_map, list_any}
use Rattle.std.specs.Fmt.{signed_decimal}
use Rattle.std.proofs.lemmas.Grind.{flat_map-append}
use Rattle.std.proofs.lemmas.List.Folds.{list_any-append}
use Rattle.std.proofs.lemmas.List.Elements.{All-get_or, All-contains_itself, All-head, All-tail, All-nil, All-cons}
use Rattle.rg_text.specs.Byte.{IsName}
use Rattle.rg_text.specs.Line.{fields}
use Rattle.rg_theory.specs.System.{System, states, labels}
use Rattle.rg_theory.specs.declared.Class.{Class}
use Rattle.rg_theory.specs.declared.Problem.TheVariants.{Event, States}
use Rattle.rg_theory.specs.ClassWords.{NamesClass}
use Rattle.rg_lts.specs.WellFormed.{AreNames, IsWellFormed}
use Rattle.rg_cert_meaning.specs.declared.Form.{Form}
use Rattle.rg_cert_meaning.specs.Refutes as refutes
use Rattle.rg_branch_trees.specs.Trees.{Tree.leaf, Tree.split, TreeNode.leaf_node, TreeNode.split_node, preorder}
use Rattle.rg_cert_meaning.specs.Refutes.{NamedRow, Tree}
use Rattle.rg_cert_data.specs.Trees.{TreeNode}
use Rattle.rg_cert_data.specs.Certificates.{Claim, IsMultiplierInRange, IsRowOf, IsNodeOf, IsTreeOf, IsReasonOf}
use Rattle.rg_cert.specs.Text.{Version, version_one, version_two, heading, class_version, splits_start, reason_nodes, asks_two, state_name, label_name}
use Rattle.rg_cert.specs.Text.{Subject, of_none, of_arc, of_state, of_label, of_depth, word_and_subject, subject_fields, named_fields, form_fields, node_lines, case_lines, reason_lines, spaced, cert_lines}
use Rattle.rg_cert.specs.Lines.{HasFieldForm, AreAsked, LineForm, heading_line, class_line, unreachable_line, fork_line, event_line, states_line, case_line}
use Rattle.rg_cert.specs.Lines.{split_tokens_line, split_effect_line, split_start_line, leaf_line, row_line, end_line, lone_form, arc_form, state_form, label_form, depth_form}
use Rattle.rg_cert.specs.Lines.{fields_of, Count, one, several}
use Rattle.rg_cert.specs.Lines.{Position, at_heading, at_class, at_reason, at_last, at_one_case, at_cases, at_node, at_row, at_end, Next, to, if_two, follows}
use Rattle.rg_cert.specs.Faults.{IsRight, LineLeads, LinesLead}
use Rattle.rg_cert.specs.Drafts.{Head, of_unreachable, of_fork, of_event, of_states, head_fields, IsHeadOf, after_head, IsClassIn, IsNodeIn}
use Rattle.rg_cert.proofs.Decimal.{written_numeral}
use Rattle.rg_cert.proofs.LineTexts.{fields_are}
use Rattle.rg_cert.proofs.Words.{IsSubjectOf, IsWordOf, word_of, subject_is}
use Rattle.rg_cert_meaning.specs.declared.Form.TheVariants as split_form

-- the line with these texts is right in itself, and leads from a position to the next
pub record TextsLead (lts : System) (position : Position) (texts : List (List ℕ)) (next : Position) : Type 0 where
  pub form : LineForm
  pub fields : AreAsked HasFieldForm (fields_of form) texts
  pub right : IsRight lts form texts
  pub leads : follows position form ≡ to next

pub lead_of : (lts : System) (position : Position) (texts : List (List ℕ)) (next : Position) → TextsLead lts position texts next → LineLeads lts position (spaced texts) next
lead_of lts position texts next is = record { form = is.form; texts = texts; has = record { fields = is.fields; spelled = refl }; right = is.right; leads = is.leads }

-- lines with these texts, one after the other
abbrev pub TextsLeadAll : System → Position → List (List (List ℕ)) → Position → Type 0
TextsLeadAll lts position [] last = position ≡ last
TextsLeadAll lts position (texts ∷ more) last = (next : Position) × TextsLead lts position texts next × TextsLeadAll lts next more last

pub lead_all_of : (lts : System) (position : Position) (lines : List (List (List ℕ))) (last : Position) → TextsLeadAll lts position lines last → LinesLead lts position (map spaced lines) last
lead_all_of lts position [] last same = same
lead_all_of lts position (texts ∷ more) last (next, first, rest) = (next, lead_of lts position texts next first, lead_all_of lts next more last rest)

-- a line tells its texts
abbrev pub IsTold : List (List ℕ) → Type 0
IsTold texts = fields (spaced texts) ≡ texts

pub all_told : (lts : System) (position : Position) (lines : List (List (List ℕ))) (last : Position) → TextsLeadAll lts position lines last → All IsTold lines
all_told lts position [] last same = All-nil IsTold
all_told lts position (texts ∷ more) last (next, first, rest) =
    All-cons IsTold texts more (fields_are first.form (spaced texts) texts (record { fields = first.fields; spelled = refl })) (all_told lts next more last rest)

pub lead_append : (lts : System) (from : Position) (xs : List (List (List ℕ))) (mid : Position) (ys : List (List (List ℕ))) (last : Position)
    → TextsLeadAll lts from xs mid → TextsLeadAll lts mid ys last
    → TextsLeadAll lts from (xs ++ ys) last
lead_append lts from [] mid ys last same more = subst (λ p. TextsLeadAll lts p ys last) (sym same) more
lead_append lts from (texts ∷ xs) mid ys last (next, first, rest) more = (next, first, lead_append lts next xs mid ys last rest more)

-- a name that is read at a number is one, and is among them
pub named_at : (names : List (List ℕ)) (i : ℕ) → AreNames names → i < length names → IsName (get_or names i [])
named_at names i are less = All-get_or IsName names i [] less are.each

pub there_at : (names : List (List ℕ)) (i : ℕ) → i < length names → Contains names (get_or names i [])
there_at names i less = All-get_or (Contains names) names i [] less (All-contains_itself names)

state_is : (lts : System) (s : ℕ) → IsWellFormed lts → s < states lts → IsName (state_name lts s)
state_is lts s fine less = named_at lts.state_names s fine.state_names less

label_is : (lts : System) (t : ℕ) → IsWellFormed lts → t < labels lts → IsName (label_name lts t)
label_is lts t fine less = named_at lts.label_names t fine.label_names less

pub heading_leads : (lts : System) (version : Version) → TextsLead lts at_heading (heading version) (at_class version)
heading_leads lts version = record { form = heading_line version; fields = (refl, (refl, tt)); right = ((tt, (tt, tt)), (tt, (tt, tt))); leads = refl }

class_may : (version first : Version) → (version ≡ version_one → first ≡ version_one) → follows (at_class version) (class_line first) ≡ to (at_reason version)
class_may version version_one fits = refl
class_may version_two version_two fits = refl
class_may version_one version_two fits = let both : version_two ≡ version_one = fits refl in absurd cc

pub class_leads : (lts : System) (version : Version) (name : List ℕ) (class : Class) → NamesClass name class → IsClassIn version class
    → TextsLead lts (at_class version) (codes "class" ∷ name ∷ []) (at_reason version)
class_leads lts version name class named fits =
    record { form = class_line (class_version class); fields = (refl, ((class, named, refl), tt)); right = ((tt, (tt, tt)), (tt, (tt, tt))); leads = class_may version (class_version class) fits }

pub head_leads : (lts : System) (version : Version) (head : Head) → IsWellFormed lts → IsHeadOf lts head → TextsLead lts (at_reason version) (head_fields lts head) (after_head version head)
head_leads lts version (of_unreachable s) fine a = record {
  form = unreachable_line;
  fields = (refl, (state_is lts s fine a, tt));
  right = ((tt, (tt, tt)), (tt, (there_at lts.state_names s a, tt)));
  leads = refl;
}
head_leads lts version (of_fork s t s₁ s₂) fine (a, b, c, d) = record {
  form = fork_line;
  fields = (refl, (state_is lts s fine a, (label_is lts t fine b, (state_is lts s₁ fine c, (state_is lts s₂ fine d, tt)))));
  right = ((tt, (tt, (tt, (tt, (tt, tt))))), (tt, (there_at lts.state_names s a, (there_at lts.label_names t b, (there_at lts.state_names s₁ c, (there_at lts.state_names s₂ d, tt))))));
  leads = refl;
}
head_leads lts version (of_event s t) fine (a, b) = record {
  form = event_line;
  fields = (refl, (state_is lts s fine a, (label_is lts t fine b, tt)));
  right = ((tt, (tt, (tt, tt))), (tt, (there_at lts.state_names s a, (there_at lts.label_names t b, tt))));
  leads = refl;
}
head_leads lts version (of_states s s') fine (a, b) = record {
  form = states_line;
  fields = (refl, (state_is lts s fine a, (state_is lts s' fine b, tt)));
  right = ((tt, (tt, (tt, tt))), (tt, (there_at lts.state_names s a, (there_at lts.state_names s' b, tt))));
  leads = refl;
}

small_multiplier : (m : ℤ) → nat_abs m ≤ 2 ^ 127 - 1 → nat_abs m < 10 ^ 64
small_multiplier m small = omega arith

small_depth : (d : ℕ) → d < 2 ^ 32 → d < 10 ^ 64
small_depth d small = omega arith

small_split : (z : ℤ) → nat_abs z < 2 ^ 63 → nat_abs z < 10 ^ 64
small_split z small = omega arith

-- a row of a leaf, by its word and what it speaks of
subject_leads : (lts : System) (version : Version) (count : Count) (due : ℕ) (m : ℤ) (w : List ℕ) (subject : Subject) → IsWellFormed lts
    → IsMultiplierInRange m → IsWordOf subject w → IsSubjectOf lts subject
    → TextsLead lts (at_row version count due) (signed_decimal m ∷ w ∷ subject_fields lts subject) (at_row version count due)
subject_leads lts version count due m w of_none fine small word is = record {
  form = row_line lone_form;
  fields = ((m, written_numeral m (small_multiplier m small)), (word, tt));
  right = (((m, written_numeral m (small_multiplier m small), small), (tt, tt)), (tt, (tt, tt)));
  leads = refl;
}
subject_leads lts version count due m w (of_arc a) fine small word is = record {
  form = row_line arc_form;
  fields = ((m, written_numeral m (small_multiplier m small)), (word, (state_is lts a.from fine is.0, (label_is lts a.label fine is.1, (state_is lts a.to fine is.2, tt)))));
  right = (
    (
      (
        m,
        written_numeral m (small_multiplier m
            small),
        small,
      ),
      (tt, (tt, (tt, (tt, tt)))),
    ),
    (
      tt,
      (
        tt,
        (
          there_at lts.state_names a.from
              is.0,
          (there_at lts.label_names a.label is.1, (there_at lts.state_names a.to is.2, tt)),
        ),
      ),
    ),
  );
  leads = refl;
}
subject_leads lts version count due m w (of_state q) fine small word is = record {
  form = row_line state_form;
  fields = ((m, written_numeral m (small_multiplier m small)), (word, (state_is lts q fine is, tt)));
  right = (((m, written_numeral m (small_multiplier m small), small), (tt, (tt, tt))), (tt, (tt, (there_at lts.state_names q is, tt))));
  leads = refl;
}
subject_leads lts version count due m w (of_label t) fine small word is = record {
  form = row_line label_form;
  fields = ((m, written_numeral m (small_multiplier m small)), (word, (label_is lts t fine is, tt)));
  right = (((m, written_numeral m (small_multiplier m small), small), (tt, (tt, tt))), (tt, (tt, (there_at lts.label_names t is, tt))));
  leads = refl;
}
subject_leads lts version count due m w (of_depth d) fine small word is = record {
  form = row_line depth_form;
  fields = ((m, written_numeral m (small_multiplier m small)), (word, ((pos d, written_numeral (pos d) (small_depth d is)), tt)));
  right = (((m, written_numeral m (small_multiplier m small), small), (tt, ((pos d, written_numeral (pos d) (small_depth d is), (d, refl, is)), tt))), (tt, (tt, (tt, tt))));
  leads = refl;
}

row_leads : (lts : System) (version : Version) (count : Count) (due : ℕ) (r : NamedRow) → IsWellFormed lts → IsRowOf lts r
    → TextsLead lts (at_row version count due) (named_fields lts r) (at_row version count due)
row_leads lts version count due r fine is =
    subject_leads lts version count due r.multiplier (word_and_subject r.name).0 (word_and_subject r.name).1 fine is.multiplier (word_of r.name) (subject_is lts r.name is.name)

rows_lead : (lts : System) (version : Version) (count : Count) (due : ℕ) (rows : List NamedRow) → IsWellFormed lts → All (IsRowOf lts) rows
    → TextsLeadAll lts (at_row version count due) (map (named_fields lts) rows) (at_row version count due)
rows_lead lts version count due [] fine are = refl
rows_lead lts version count due (r ∷ rows) fine are =
    (at_row version count due, row_leads lts version count due r fine (All-head (IsRowOf lts) r rows are), rows_lead lts version count due rows fine (All-tail (IsRowOf lts) r rows are))

-- a node is due at the position, and so many after it
record IsDue (position : Position) (version : Version) (count : Count) (due : ℕ) : Type 0 where
  pub tokens : follows position split_tokens_line ≡ to (at_node version count (suc due))
  pub effect : follows position split_effect_line ≡ to (at_node version count (suc due))
  pub start : version ≡ version_two → follows position split_start_line ≡ to (at_node version count (suc due))
  pub leaf : follows position leaf_line ≡ to (at_row version count due)

start_may : (version : Version) (next : Next) → version ≡ version_two → if_two version next ≡ next
start_may version_one next two = let both : version_one ≡ version_two = two in absurd cc
start_may version_two next two = refl

due_node : (version : Version) (count : Count) (due : ℕ) → IsDue (at_node version count due) version count due
due_node version count due = record { tokens = refl; effect = refl; start = start_may version (to (at_node version count (suc due))); leaf = refl }

due_row : (version : Version) (count : Count) (due : ℕ) → IsDue (at_row version count (suc due)) version count due
due_row version count due = record { tokens = refl; effect = refl; start = start_may version (to (at_node version count (suc due))); leaf = refl }

must_two : (version : Version) → (version ≡ version_one → true ≡ false) → version ≡ version_two
must_two version_one fits = let both : true ≡ false = fits refl in absurd cc
must_two version_two fits = refl

split_leads : (lts : System) (position : Position) (version : Version) (count : Count) (due : ℕ) (form : Form) (at : ℤ) → IsWellFormed lts
    → IsDue position version count due → IsNodeIn lts version (split_node form at)
    → TextsLead lts position (codes "split" ∷ (form_fields lts form ++ signed_decimal at ∷ [])) (at_node version count (suc due))
split_leads lts position version count due (split_form.Tokens q) at fine is is_in = record {
  form = split_tokens_line;
  fields = (refl, (refl, (state_is lts q fine is_in.of_system.0, ((at, written_numeral at (small_split at is_in.of_system.1)), tt))));
  right = ((tt, (tt, (tt, ((at, written_numeral at (small_split at is_in.of_system.1), is_in.of_system.1), tt)))), (tt, (tt, (there_at lts.state_names q is_in.of_system.0, (tt, tt)))));
  leads = is.tokens;
}
split_leads lts position version count due (split_form.Effect t) at fine is is_in = record {
  form = split_effect_line;
  fields = (refl, (refl, (label_is lts t fine is_in.of_system.0, ((at, written_numeral at (small_split at is_in.of_system.1)), tt))));
  right = ((tt, (tt, (tt, ((at, written_numeral at (small_split at is_in.of_system.1), is_in.of_system.1), tt)))), (tt, (tt, (there_at lts.label_names t is_in.of_system.0, (tt, tt)))));
  leads = is.effect;
}
split_leads lts position version count due split_form.Start at fine is is_in = record {
  form = split_start_line;
  fields = (refl, (refl, ((at, written_numeral at (small_split at is_in.of_system.1)), tt)));
  right = ((tt, (tt, ((at, written_numeral at (small_split at is_in.of_system.1), is_in.of_system.1), tt))), (tt, (tt, (tt, tt))));
  leads = is.start (must_two version is_in.fits);
}

-- the nodes of the two sides
pub sides : (P : TreeNode → Type 0) (xs ys : List TreeNode) → All P (xs ++ ys) → All P xs × All P ys
sides P [] ys are = (All-nil P, are)
sides P (x ∷ xs) ys are =
    let more = sides P xs ys (All-tail P x (xs ++ ys) are) in
    (All-cons P x xs (All-head P x (xs ++ ys) are) more.0, more.1)

-- a text of the version may have the tree
abbrev IsTreeIn : System → Version → Tree → Type 0
IsTreeIn lts version tree = All (IsNodeIn lts version) (preorder tree)

-- a tree takes one of the nodes that are due
tree_leads : (lts : System) (position : Position) (version : Version) (count : Count) (due : ℕ) (tree : Tree) → IsWellFormed lts → IsDue position version count due → IsTreeIn lts version tree
    → TextsLeadAll lts position (flat_map (node_lines lts) (preorder tree)) (at_row version count due)
tree_leads lts position version count due (leaf rows) fine is are =
    subst (λ l. TextsLeadAll lts position l (at_row version count due)) (sym (append-nil (node_lines lts (leaf_node rows)))) (
      at_row version count due,
      record { form = leaf_line; fields = (refl, tt); right = ((tt, tt), (tt, tt)); leads = is.leaf },
      rows_lead lts version
          count due rows fine (All-head (IsNodeIn lts version) (leaf_node rows) [] are).of_system,
    )
tree_leads lts position version count due (split form at low high) fine is are =
    let both = sides (IsNodeIn lts version) (preorder low) (preorder high) (All-tail (IsNodeIn lts version) (split_node form at) (preorder low ++ preorder high) are) in
    let below : TextsLeadAll lts (at_node version count (suc due)) (flat_map (node_lines lts) (preorder low ++ preorder high)) (at_row version count due) =
    subst (λ l. TextsLeadAll lts (at_node version count (suc due)) l (at_row version count due)) (sym (flat_map-append (node_lines lts) (preorder low) (preorder high)))
    (lead_append lts (at_node version count (suc due)) (flat_map (node_lines lts) (preorder low)) (at_row version count (suc due))
    (flat_map (node_lines lts) (preorder high)) (at_row version count due)
    (tree_leads lts (at_node version count (suc due)) version count (suc due) low fine (due_node version count (suc due)) both.0)
    (tree_leads lts (at_row version count (suc due)) version count due high fine (due_row version count due) both.1)) in
    (at_node version count (suc due), split_leads lts position version count due form at fine is (All-head (IsNodeIn lts version) (split_node form at) (preorder low ++ preorder high) are), below)

-- a case
case_leads : (lts : System) (position : Position) (version : Version) (count : Count) (tree : Tree) → IsWellFormed lts
    → follows position case_line ≡ to (at_node version count 0) → IsTreeIn lts version tree
    → TextsLeadAll lts position (case_lines lts tree) (at_row version count 0)
case_leads lts position version count tree fine may are = (
  at_node version count 0,
  record { form = case_line; fields = (refl, tt); right = ((tt, tt), (tt, tt)); leads = may },
  tree_leads lts
      (at_node version count 0) version count 0 tree fine (due_node version count 0) are,
)

pub end_leads : (lts : System) (position : Position) → follows position end_line ≡ to at_end → TextsLeadAll lts position ((codes "end" ∷ []) ∷ []) at_end
end_leads lts position may = (at_end, record { form = end_line; fields = (refl, tt); right = ((tt, tt), (tt, tt)); leads = may }, refl)

-- any number of cases, and the end
cases_lead : (lts : System) (position : Position) (version : Version) (trees : List Tree) → IsWellFormed lts
    → follows position case_line ≡ to (at_node version several 0) → follows position end_line ≡ to at_end → All (IsTreeIn lts version) trees
    → TextsLeadAll lts position (flat_map (case_lines lts) trees ++ (codes "end" ∷ []) ∷ []) at_end
cases_lead lts position version [] fine may ends are = end_leads lts position ends
cases_lead lts position version (tree ∷ trees) fine may ends are =
    subst (λ l. TextsLeadAll lts position l at_end) (sym (append_assoc (case_lines lts tree) (flat_map (case_lines lts) trees) ((codes "end" ∷ []) ∷ [])))
    (lead_append lts position (case_lines lts tree) (at_row version several 0) (flat_map (case_lines lts) trees ++ (codes "end" ∷ []) ∷ []) at_end
    (case_leads lts position version several tree fine may (All-head (IsTreeIn lts version) tree trees are))
    (cases_lead lts (at_row version several 0) version trees fine refl refl (All-tail (IsTreeIn lts version) tree trees are)))

either_false : (a b : Bool) → (a || b) ≡ false → (a ≡ false) × (b ≡ false)
either_false true b h = absurd cc
either_false false b h = (refl, h)

-- nodes of which none splits on the start, where the version is the first
nodes_in : (lts : System) (version : Version) (nodes : List TreeNode) → All (IsNodeOf lts) nodes → (version ≡ version_one → list_any splits_start nodes ≡ false) → All (IsNodeIn lts version) nodes
nodes_in lts version [] are fits = All-nil (IsNodeIn lts version)
nodes_in lts version (n ∷ nodes) are fits =
    All-cons (IsNodeIn lts version) n nodes
    (record { of_system = All-head (IsNodeOf lts) n nodes are; fits = λ first. (either_false (splits_start n) (list_any splits_start nodes) (fits first)).0 })
    (nodes_in lts version nodes (All-tail (IsNodeOf lts) n nodes are) (λ first. (either_false (splits_start n) (list_any splits_start nodes) (fits first)).1))

trees_in : (lts : System) (version : Version) (trees : List Tree) → All (IsTreeOf lts) trees
    → (version ≡ version_one → list_any splits_start (flat_map preorder trees) ≡ false) → All (IsTreeIn lts version) trees
trees_in lts version [] are fits = All-nil (IsTreeIn lts version)
trees_in lts version (tree ∷ trees) are fits =
    let parts : version ≡ version_one → (list_any splits_start (preorder tree) ≡ false) × (list_any splits_start (flat_map preorder trees) ≡ false) =
    λ first. either_false (list_any splits_start (preorder tree)) (list_any splits_start (flat_map preorder trees))
    (sym (list_any-append splits_start (preorder tree) (flat_map preorder trees)) ∙ fits first) in
    All-cons (IsTreeIn lts version) tree trees (nodes_in lts version (preorder tree) (All-head (IsTreeOf lts) tree trees are) (λ first. (parts first).0))
    (trees_in lts version trees (All-tail (IsTreeOf lts) tree trees are) (λ first. (parts first).1))

reason_leads : (lts : System) (version : Version) (reason : refutes.Reason) → IsWellFormed lts → IsReasonOf lts reason → (version ≡ version_one → list_any splits_start (reason_nodes reason) ≡ false)
    → TextsLeadAll lts (at_reason version) (reason_lines lts reason ++ (codes "end" ∷ []) ∷ []) at_end
reason_leads lts version (refutes.unreachable s) fine is fits = (at_last, head_leads lts version (of_unreachable s) fine is, end_leads lts at_last refl)
reason_leads lts version (refutes.fork s t s₁ s₂) fine is fits = (at_last, head_leads lts version (of_fork s t s₁ s₂) fine is, end_leads lts at_last refl)
reason_leads lts version (refutes.refuted (Event s t) []) fine is fits = absurd (omega (arith, is.2))
reason_leads lts version (refutes.refuted (Event s t) (tree ∷ [])) fine is fits = (
  at_one_case version,
  head_leads lts version (of_event s t) fine (is.0, is.1),
  subst (λ l. TextsLeadAll lts (at_one_case version) (l ++ (codes "end" ∷ []) ∷ []) at_end) (sym (append-nil (case_lines lts tree)))
      (lead_append lts (at_one_case version) (case_lines lts tree) (at_row version one 0) ((codes "end" ∷ []) ∷ []) at_end
      (case_leads lts (at_one_case version) version one tree fine refl
      (All-head (IsTreeIn lts version) tree [] (trees_in lts version (tree ∷ []) is.3 fits))) (end_leads lts (at_row version one 0) refl)),
)
reason_leads lts version (refutes.refuted (Event s t) (tree ∷ next ∷ more)) fine is fits = absurd (omega (arith, is.2))
reason_leads lts version (refutes.refuted (States s s') trees) fine is fits =
    (at_cases version, head_leads lts version (of_states s s') fine (is.0, is.1), cases_lead lts (at_cases version) version trees fine refl refl (trees_in lts version trees is.2 fits))

marked : (b : Bool) → b ≡ false → (if b then version_two else version_one) ≡ version_one
marked b none = ap (λ c. if c then version_two else version_one) none

-- the lines of a claim
pub claim_leads : (lts : System) (version : Version) (name : List ℕ) (claim : Claim) → IsWellFormed lts → NamesClass name claim.class
    → IsReasonOf lts claim.reason → (version ≡ version_one → asks_two claim ≡ false)
    → TextsLeadAll lts at_heading (cert_lines version name lts claim.reason) at_end
unfolding cert_lines
claim_leads lts version name claim fine named is fits =
    let parts : version ≡ version_one → (is_some claim.class.marking ≡ false) × (list_any splits_start (reason_nodes claim.reason) ≡ false) =
    λ first. either_false (is_some claim.class.marking) (list_any splits_start (reason_nodes claim.reason)) (fits first) in (
      at_class version,
      heading_leads lts version,
      (
        at_reason version,
        class_leads lts version name claim.class named
            (λ first. marked (is_some claim.class.marking) (parts first).0),
        reason_leads lts version claim.reason fine is (λ first. (parts first).1),
      ),
    )
