-- What one line makes of a draft.
use Rattle.std.proofs.Common.{◌≡◌, ℕ, zero, suc, ◌≤◌, false, true≢false, List, [], ◌∷◌, ◌++◌, length, map, codes, All, append-nil, append_assoc, refl, sym, ap, ap₂, subst, ◌∙◌, arith}
use Rattle.std.specs.List.{flat_map}
use Rattle.std.specs.Prelude.{ℤ}
use Rattle.std.specs.Str.{bytes_eq}
use Rattle.std.proofs.lemmas.Slice.Eq.{bytes_eq-Decides}
use Rattle.std.proofs.lemmas.Grind.{flat_map-append}
use Rattle.std.proofs.lemmas.List.{map-append}
use Rattle.std.proofs.lemmas.List.Elements.{All-push, All-nil}
use Rattle.rg_theory.specs.System.{System}
use Rattle.rg_cert_meaning.specs.declared.Form.{Form}
use Rattle.rg_cert_meaning.specs.Refutes.{NamedRow}
use Rattle.rg_branch_trees.specs.Trees.{TreeNode.leaf_node, TreeNode.split_node}
use Rattle.rg_cert_data.specs.Trees.{TreeNode}
use Rattle.rg_cert_data.specs.Certificates.{IsRowOf}
use Rattle.rg_cert.specs.Text.{Version, version_one, version_two, splits_start, named_fields, node_lines}
use Rattle.rg_cert.specs.Lines.{word, HasFieldForm, AreAsked, LineForm, heading_line, class_line, unreachable_line, fork_line, event_line, states_line, case_line}
use Rattle.rg_cert.specs.Lines.{split_tokens_line, split_effect_line, split_start_line, leaf_line, row_line, end_line, fields_of, Count, one, several, Position}
use Rattle.rg_cert.specs.Lines.{at_heading, at_class, at_reason, at_last, at_one_case, at_cases, at_node, at_row, at_end, Next, to, long, if_two, follows}
use Rattle.rg_cert.specs.Drafts.{Head, of_unreachable, of_fork, of_event, of_states, after_head, Draft, blank, leaf_closed, case_closed, with_split, IsSplitLine, Adds, nodes_lines, draft_lines, IsNodeIn, IsCase, IsCount, IsInTree, HasCases, IsDraftAt, due_at}
use Rattle.rg_cert.proofs.Opened.{open_start, open_leaf, open_split, open_whole}
use Rattle.rg_cert_meaning.specs.declared.Form.TheVariants as split_form

-- the draft is right at the position, and has these lines
abbrev pub IsDrafted : System → Version → Head → Position → Draft → List (List (List ℕ)) → Type 0
IsDrafted lts version head position d lines = IsDraftAt lts version head position d × (draft_lines lts position d ≡ lines)

-- a case that grows by a node
add_node : (lts : System) (cases : List (List TreeNode)) (nodes : List TreeNode) (n : TreeNode)
    → flat_map (nodes_lines lts) cases ++ nodes_lines lts (nodes ++ n ∷ []) ≡ (flat_map (nodes_lines lts) cases ++ nodes_lines lts nodes) ++ node_lines lts n
add_node lts cases nodes n =
    ap (λ l. flat_map (nodes_lines lts) cases ++ (codes "case" ∷ []) ∷ l)
    (flat_map-append (node_lines lts) nodes (n ∷ []) ∙ ap (λ l. flat_map (node_lines lts) nodes ++ l) (append-nil (node_lines lts n)))
    ∙ sym (append_assoc (flat_map (nodes_lines lts) cases) (nodes_lines lts nodes) (node_lines lts n))

-- cases that grow by one
add_case : (lts : System) (cases : List (List TreeNode)) (nodes : List TreeNode)
    → flat_map (nodes_lines lts) (cases ++ nodes ∷ []) ≡ flat_map (nodes_lines lts) cases ++ nodes_lines lts nodes
add_case lts cases nodes = flat_map-append (nodes_lines lts) cases (nodes ∷ []) ∙ ap (λ l. flat_map (nodes_lines lts) cases ++ l) (append-nil (nodes_lines lts nodes))

split_lines : (lts : System) (texts : List (List ℕ)) (form : Form) (at : ℤ) → IsSplitLine lts texts form at → node_lines lts (split_node form at) ≡ texts ∷ []
split_lines lts texts form at is = ap (λ l. l ∷ []) (sym is.are)

-- a line of one word
one_word : (w : List ℕ) (texts : List (List ℕ)) → AreAsked HasFieldForm (word w ∷ []) texts → texts ≡ w ∷ []
one_word w [] are = absurd are
one_word w (t ∷ []) are = ap (λ l. l ∷ []) are.0
one_word w (t ∷ u ∷ more) are = absurd are.1

-- a split in an open tree
in_split : (lts : System) (version : Version) (head : Head) (count : Count) (d : Draft) (due : ℕ) (texts : List (List ℕ)) (form : Form) (at : ℤ)
    → IsInTree lts version head count d (suc due) → IsSplitLine lts texts form at → (version ≡ version_one → splits_start (split_node form at) ≡ false)
    → IsInTree lts version head count (with_split d form at) (suc (suc due))
in_split lts version head count d due texts form at is line fits = record {
  asked = is.asked;
  cases = is.cases;
  one = is.one;
  tree = open_split d.nodes form at due is.tree;
  nodes = All-push (IsNodeIn lts version) d.nodes (split_node form at) is.nodes (record { of_system = (line.variable, line.in_range); fits = fits });
}

-- a leaf that is whole
in_leaf : (lts : System) (version : Version) (head : Head) (count : Count) (d : Draft) (due : ℕ) → IsInTree lts version head count d (suc due) → All (IsRowOf lts) d.rows
    → IsInTree lts version head count (record { cases = d.cases; nodes = d.nodes ++ leaf_node d.rows ∷ []; rows = [] }) due
in_leaf lts version head count d due is rows = record {
  asked = is.asked;
  cases = is.cases;
  one = is.one;
  tree = open_leaf d.nodes d.rows due is.tree;
  nodes = All-push (IsNodeIn lts version) d.nodes (leaf_node d.rows) is.nodes (record { of_system = rows; fits = λ e. refl });
}

-- a case that is whole
whole_case : (lts : System) (version : Version) (head : Head) (count : Count) (d : Draft) → IsInTree lts version head count d 0 → All (IsCase lts version) (d.cases ++ d.nodes ∷ [])
whole_case lts version head count d is =
    let whole = open_whole d.nodes is.tree in
    All-push (IsCase lts version) d.cases d.nodes is.cases (record { tree = whole.0; whole = whole.1; each = is.nodes })

-- a new case
in_case : (lts : System) (version : Version) (head : Head) (count : Count) (cases : List (List TreeNode)) → IsCount count head → All (IsCase lts version) cases → (count ≡ one → cases ≡ [])
    → IsInTree lts version head count (record { cases = cases; nodes = []; rows = [] }) 1
in_case lts version head count cases asked each none = record { asked = asked; cases = each; one = none; tree = open_start; nodes = All-nil (IsNodeIn lts version) }

to_is : (p q : Position) → to p ≡ to q → p ≡ q
to_is p q e = cc

drafted_to : (lts : System) (version : Version) (head : Head) (p next : Position) (d : Draft) (lines : List (List (List ℕ))) → to p ≡ to next
    → IsDrafted lts version head p d lines → IsDrafted lts version head next d lines
drafted_to lts version head p next d lines e is = subst (λ q. IsDrafted lts version head q d lines) (to_is p next e) is

drafted_by : (lts : System) (version : Version) (head : Head) (p : Position) (d new : Draft) (lines : List (List (List ℕ))) → new ≡ d
    → IsDrafted lts version head p d lines → IsDrafted lts version head p new lines
drafted_by lts version head p d new lines e is = subst (λ x. IsDrafted lts version head p x lines) (sym e) is

-- a split where a node is due
node_split : (lts : System) (version : Version) (head : Head) (count : Count) (due : ℕ) (texts : List (List ℕ)) (form : Form) (at : ℤ) (d : Draft)
    → IsInTree lts version head count d (suc due) → d.rows ≡ [] → IsSplitLine lts texts form at → (version ≡ version_one → splits_start (split_node form at) ≡ false)
    → IsDrafted lts version head (at_node version count (suc due)) (with_split d form at) ((flat_map (nodes_lines lts) d.cases ++ nodes_lines lts d.nodes) ++ texts ∷ [])
node_split lts version head count due texts form at d is none line fits = (
  (refl, in_split lts version head count d due texts form at is line fits, none),
  add_node lts d.cases d.nodes (split_node form at)
      ∙ ap (λ l. (flat_map (nodes_lines lts) d.cases ++ nodes_lines lts d.nodes) ++ l) (split_lines lts texts form at line),
)

-- a leaf where a node is due
node_leaf : (lts : System) (version : Version) (head : Head) (count : Count) (due : ℕ) (texts : List (List ℕ)) (d : Draft)
    → IsInTree lts version head count d (suc due) → d.rows ≡ [] → texts ≡ codes "leaf" ∷ []
    → IsDrafted lts version head (at_row version count due) d ((flat_map (nodes_lines lts) d.cases ++ nodes_lines lts d.nodes) ++ texts ∷ [])
node_leaf lts version head count due texts d is none line = (
  (refl, is, subst (All (IsRowOf lts)) (sym none) (All-nil (IsRowOf lts))),
  add_node lts d.cases d.nodes (leaf_node d.rows)
      ∙ ap (λ l. (flat_map (nodes_lines lts) d.cases ++ nodes_lines lts d.nodes) ++ l)
      (ap (λ rows. (codes "leaf" ∷ []) ∷ map (named_fields lts) rows) none ∙ ap (λ l. l ∷ []) (sym line)),
)

-- a row of a leaf
leaf_row : (lts : System) (version : Version) (head : Head) (count : Count) (due : ℕ) (texts : List (List ℕ)) (r : NamedRow) (d : Draft)
    → IsInTree lts version head count d (suc due) → All (IsRowOf lts) d.rows
    → IsRowOf lts r → texts ≡ named_fields lts r
    → IsDrafted lts version head (at_row version count due) (record { cases = d.cases; nodes = d.nodes; rows = d.rows ++ r ∷ [] })
    ((flat_map (nodes_lines lts) d.cases ++ nodes_lines lts (d.nodes ++ leaf_node d.rows ∷ [])) ++ texts ∷ [])
leaf_row lts version head count due texts r d is rows of_system line =
    let before = flat_map (nodes_lines lts) d.cases ++ nodes_lines lts d.nodes in (
      (refl, record { asked = is.asked; cases = is.cases; one = is.one; tree = is.tree; nodes = is.nodes }, All-push (IsRowOf lts) d.rows r rows of_system),
      add_node lts d.cases d.nodes (leaf_node (d.rows ++ r ∷ []))
          ∙ ap (λ l. before ++ (codes "leaf" ∷ []) ∷ l) (map-append (named_fields lts) d.rows (r ∷ []) ∙ ap (λ t. map (named_fields lts) d.rows ++ t ∷ []) (sym line))
          ∙ sym (append_assoc before (node_lines lts (leaf_node d.rows)) (texts ∷ []))
          ∙ ap (λ l. l ++ texts ∷ []) (sym (add_node lts d.cases d.nodes (leaf_node d.rows))),
    )

-- the end after a whole case
last_case : (lts : System) (version : Version) (head : Head) (count : Count) (texts : List (List ℕ)) (d : Draft)
    → IsInTree lts version head count d 1 → All (IsRowOf lts) d.rows → texts ≡ codes "end" ∷ []
    → IsDrafted lts version head at_end (record { cases = d.cases ++ (d.nodes ++ leaf_node d.rows ∷ []) ∷ []; nodes = []; rows = [] })
    ((flat_map (nodes_lines lts) d.cases ++ nodes_lines lts (d.nodes ++ leaf_node d.rows ∷ [])) ++ texts ∷ [])
last_case lts version head count texts d is rows line = (
  (whole_case lts version head count (record { cases = d.cases; nodes = d.nodes ++ leaf_node d.rows ∷ []; rows = [] }) (in_leaf lts version head count d 0 is rows), by head count is.asked is.one),
  ap₂ (λ a b. a ++ b ∷ []) (add_case lts d.cases (d.nodes ++ leaf_node d.rows ∷ [])) (sym line),
)
  where
    by : (h : Head) (c : Count) → IsCount c h → (c ≡ one → d.cases ≡ []) → HasCases h (d.cases ++ (d.nodes ++ leaf_node d.rows ∷ []) ∷ [])
    by (of_event s t) one asked none = ap (λ l. length (l ++ (d.nodes ++ leaf_node d.rows ∷ []) ∷ [])) (none refl)
    by (of_states s s') c asked none = tt
    by (of_event s t) several asked none = absurd asked
    by (of_unreachable s) one asked none = absurd asked
    by (of_unreachable s) several asked none = absurd asked
    by (of_fork s t s₁ s₂) one asked none = absurd asked
    by (of_fork s t s₁ s₂) several asked none = absurd asked

-- another case after a whole one
next_case : (lts : System) (version : Version) (head : Head) (texts : List (List ℕ)) (d : Draft) → IsInTree lts version head several d 1 → All (IsRowOf lts) d.rows → texts ≡ codes "case" ∷ []
    → IsDrafted lts version head (at_node version several 0) (record { cases = d.cases ++ (d.nodes ++ leaf_node d.rows ∷ []) ∷ []; nodes = []; rows = [] })
    ((flat_map (nodes_lines lts) d.cases ++ nodes_lines lts (d.nodes ++ leaf_node d.rows ∷ [])) ++ texts ∷ [])
next_case lts version head texts d is rows line = (
  (
    refl,
    in_case lts version head several (d.cases ++ (d.nodes ++ leaf_node d.rows ∷ []) ∷ []) is.asked
        (whole_case lts version head several (record { cases = d.cases; nodes = d.nodes ++ leaf_node d.rows ∷ []; rows = [] }) (in_leaf lts version head several d 0 is rows)) (λ e. absurd cc),
    refl,
  ),
  ap₂ (λ a b. a ++ b ∷ []) (add_case lts d.cases (d.nodes ++ leaf_node d.rows ∷ [])) (sym line),
)

-- the end where no case may stand
no_cases : (lts : System) (version : Version) (head : Head) (texts : List (List ℕ)) → at_last ≡ after_head version head → texts ≡ codes "end" ∷ []
    → IsDrafted lts version head at_end blank (texts ∷ [])
no_cases lts version (of_unreachable s) texts at line = ((All-nil (IsCase lts version), refl), ap (λ l. l ∷ []) (sym line))
no_cases lts version (of_fork s t s₁ s₂) texts at line = ((All-nil (IsCase lts version), refl), ap (λ l. l ∷ []) (sym line))
no_cases lts version (of_event s t) texts at line = absurd cc
no_cases lts version (of_states s s') texts at line = absurd cc

-- the end where any number of cases may stand
end_of_cases : (lts : System) (version : Version) (head : Head) (texts : List (List ℕ)) → (at_cases version) ≡ after_head version head
    → texts ≡ codes "end" ∷ [] → IsDrafted lts version head at_end blank (texts ∷ [])
end_of_cases lts version (of_unreachable s) texts at line = absurd cc
end_of_cases lts version (of_fork s t s₁ s₂) texts at line = absurd cc
end_of_cases lts version (of_event s t) texts at line = absurd cc
end_of_cases lts version (of_states s s') texts at line = ((All-nil (IsCase lts version), tt), ap (λ l. l ∷ []) (sym line))

-- the first case
first_case : (lts : System) (version : Version) (head : Head) (count : Count) (texts : List (List ℕ)) → IsCount count head
    → texts ≡ codes "case" ∷ [] → IsDrafted lts version head (at_node version count 0) blank (texts ∷ [])
first_case lts version head count texts asked line = ((refl, in_case lts version head count [] asked (All-nil (IsCase lts version)) (λ e. refl), refl), ap (λ l. l ∷ []) (sym line))

one_is : (version : Version) (head : Head) → (at_one_case version) ≡ after_head version head → IsCount one head
one_is version (of_unreachable s) at = absurd cc
one_is version (of_fork s t s₁ s₂) at = absurd cc
one_is version (of_event s t) at = tt
one_is version (of_states s s') at = absurd cc

several_is : (version : Version) (head : Head) → (at_cases version) ≡ after_head version head → IsCount several head
several_is version (of_unreachable s) at = absurd cc
several_is version (of_fork s t s₁ s₂) at = absurd cc
several_is version (of_event s t) at = absurd cc
several_is version (of_states s s') at = tt

not_early : (version : Version) (head : Head) (position : Position) → position ≡ after_head version head
    → (position ≡ at_heading → ⊥) × ((v : Version) → position ≡ at_class v → ⊥) × ((v : Version) → position ≡ at_reason v → ⊥)
not_early version (of_unreachable s) position at = ((λ e. absurd cc), (λ v e. absurd cc), (λ v e. absurd cc))
not_early version (of_fork s t s₁ s₂) position at = ((λ e. absurd cc), (λ v e. absurd cc), (λ v e. absurd cc))
not_early version (of_event s t) position at = ((λ e. absurd cc), (λ v e. absurd cc), (λ v e. absurd cc))
not_early version (of_states s s') position at = ((λ e. absurd cc), (λ v e. absurd cc), (λ v e. absurd cc))

-- what a line does that texts of the second version alone have
two_leads : (version : Version) (n : Next) (next : Position) → if_two version n ≡ to next → (version ≡ version_two) × (n ≡ to next)
two_leads version_one n next leads = absurd cc
two_leads version_two n next leads = (refl, leads)

fits_two : (version : Version) (node : TreeNode) → version ≡ version_two → version ≡ version_one → splits_start node ≡ false
fits_two version node two first = let both : version_one ≡ version_two = sym first ∙ two in absurd cc

other_words : (v w : List ℕ) → bytes_eq v w ≡ false → v ≡ w → ⊥
other_words v w other e = true≢false (sym ((bytes_eq-Decides v w).1 e) ∙ other)

-- a split with another word is none on the start
fits_tokens : (lts : System) (version : Version) (texts : List (List ℕ)) (form : Form) (at : ℤ) → AreAsked HasFieldForm (fields_of split_tokens_line) texts → IsSplitLine lts texts form at
    → version ≡ version_one → splits_start (split_node form at) ≡ false
fits_tokens lts version texts (split_form.Tokens q) at asked line first = refl
fits_tokens lts version texts (split_form.Effect t) at asked line first = refl
fits_tokens lts version texts split_form.Start at asked line first =
    let are = subst (AreAsked HasFieldForm (fields_of split_tokens_line)) line.are asked in
    let same : codes "start" ≡ codes "tokens" = are.1.0 in
    absurd (other_words (codes "start") (codes "tokens") refl same)

fits_effect : (lts : System) (version : Version) (texts : List (List ℕ)) (form : Form) (at : ℤ) → AreAsked HasFieldForm (fields_of split_effect_line) texts → IsSplitLine lts texts form at
    → version ≡ version_one → splits_start (split_node form at) ≡ false
fits_effect lts version texts (split_form.Tokens q) at asked line first = refl
fits_effect lts version texts (split_form.Effect t) at asked line first = refl
fits_effect lts version texts split_form.Start at asked line first =
    let are = subst (AreAsked HasFieldForm (fields_of split_effect_line)) line.are asked in
    let same : codes "start" ≡ codes "effect" = are.1.0 in
    absurd (other_words (codes "start") (codes "effect") refl same)

-- the first case, or the end, where the version is that of the text
of_one_case : (lts : System) (version : Version) (head : Head) (form : LineForm) (texts : List (List ℕ)) (next : Position) (d new : Draft) → IsDraftAt lts version head (at_one_case version) d
    → AreAsked HasFieldForm (fields_of form) texts → follows (at_one_case version) form ≡ to next → Adds lts (at_one_case version) form texts d new
    → IsDrafted lts version head next new (draft_lines lts (at_one_case version) d ++ texts ∷ [])
of_one_case lts version head case_line texts next d new is asked leads adds =
    drafted_to lts version head (at_node version one 0) next new (texts ∷ []) leads
    (drafted_by lts version head (at_node version one 0) blank new (texts ∷ []) (adds ∙ is.1) (first_case lts version head one texts (one_is version head is.0) (one_word (codes "case") texts asked)))
of_one_case lts version head form texts next d new is asked leads adds = absurd cc

of_cases : (lts : System) (version : Version) (head : Head) (form : LineForm) (texts : List (List ℕ)) (next : Position) (d new : Draft) → IsDraftAt lts version head (at_cases version) d
    → AreAsked HasFieldForm (fields_of form) texts → follows (at_cases version) form ≡ to next → Adds lts (at_cases version) form texts d new
    → IsDrafted lts version head next new (draft_lines lts (at_cases version) d ++ texts ∷ [])
of_cases lts version head case_line texts next d new is asked leads adds =
    drafted_to lts version head (at_node version several 0) next new (texts ∷ []) leads
    (drafted_by lts version head (at_node version several 0) blank new (texts ∷ []) (adds ∙ is.1)
    (first_case lts version head several texts (several_is version head is.0) (one_word (codes "case") texts asked)))
of_cases lts version head end_line texts next d new is asked leads adds =
    drafted_to lts version head at_end next new (texts ∷ []) leads
    (drafted_by lts version head at_end blank new (texts ∷ []) (adds ∙ is.1) (end_of_cases lts version head texts is.0 (one_word (codes "end") texts asked)))
of_cases lts version head form texts next d new is asked leads adds = absurd cc

of_node : (lts : System) (version : Version) (head : Head) (count : Count) (due : ℕ) (form : LineForm) (texts : List (List ℕ)) (next : Position)
    (d new : Draft) → IsDraftAt lts version head (at_node version count due) d
    → AreAsked HasFieldForm (fields_of form) texts → follows (at_node version count due) form ≡ to next
    → Adds lts (at_node version count due) form texts d new → IsDrafted lts version head next new (draft_lines lts (at_node version count due) d ++ texts ∷ [])
of_node lts version head count due split_tokens_line texts next d new is asked leads (form, at, line, same) =
    drafted_to lts version head (at_node version count (suc due)) next new (draft_lines lts (at_node version count due) d ++ texts ∷ []) leads
    (drafted_by lts version head (at_node version count (suc due)) (with_split d form at) new
    (draft_lines lts (at_node version count due) d ++ texts ∷ []) same
    (node_split lts version head count due texts form at d is.1 is.2 line (fits_tokens lts version texts form at asked line)))
of_node lts version head count due split_effect_line texts next d new is asked leads (form, at, line, same) =
    drafted_to lts version head (at_node version count (suc due)) next new (draft_lines lts (at_node version count due) d ++ texts ∷ []) leads
    (drafted_by lts version head (at_node version count (suc due)) (with_split d form at) new
    (draft_lines lts (at_node version count due) d ++ texts ∷ []) same
    (node_split lts version head count due texts form at d is.1 is.2 line (fits_effect lts version texts form at asked line)))
of_node lts version head count due split_start_line texts next d new is asked leads (form, at, line, same) =
    let two = two_leads version _ next leads in
    drafted_to lts version head (at_node version count (suc due)) next new (draft_lines lts (at_node version count due) d ++ texts ∷ []) two.1
    (drafted_by lts version head (at_node version count (suc due)) (with_split d form at) new
    (draft_lines lts (at_node version count due) d ++ texts ∷ []) same
    (node_split lts version head count due texts form at d is.1 is.2 line (fits_two version (split_node form at) two.0)))
of_node lts version head count due leaf_line texts next d new is asked leads adds =
    drafted_to lts version head (at_row version count due) next new (draft_lines lts (at_node version count due) d ++ texts ∷ []) leads
    (drafted_by lts version head (at_row version count due) d new (draft_lines lts (at_node version count due) d ++ texts ∷ []) adds
    (node_leaf lts version head count due texts d is.1 is.2 (one_word (codes "leaf") texts asked)))
of_node lts version head count due form texts next d new is asked leads adds = absurd cc

of_row : (lts : System) (version : Version) (head : Head) (count : Count) (due : ℕ) (form : LineForm) (texts : List (List ℕ)) (next : Position)
    (d new : Draft) → IsDraftAt lts version head (at_row version count due) d
    → AreAsked HasFieldForm (fields_of form) texts → follows (at_row version count due) form ≡ to next
    → Adds lts (at_row version count due) form texts d new → IsDrafted lts version head next new (draft_lines lts (at_row version count due) d ++ texts ∷ [])
of_row lts version head count due (row_line row) texts next d new is asked leads (r, of_system, line, same) =
    drafted_to lts version head (at_row version count due) next new (draft_lines lts (at_row version count due) d ++ texts ∷ []) leads
    (drafted_by lts version head (at_row version count due) (record { cases = d.cases; nodes = d.nodes; rows = d.rows ++ r ∷ [] }) new
    (draft_lines lts (at_row version count due) d ++ texts ∷ []) same (leaf_row lts version head count due texts r d is.1 is.2 of_system line))
of_row lts version head count (suc due) split_tokens_line texts next d new is asked leads (form, at, line, same) =
    let closed = leaf_closed (at_row version count (suc due)) d in
    drafted_to lts version head (at_node version count (suc due)) next new (draft_lines lts (at_row version count (suc due)) d ++ texts ∷ []) leads
    (drafted_by lts version head (at_node version count (suc due)) (with_split closed form at) new (draft_lines lts (at_row version count (suc due)) d ++ texts ∷ []) same
    (node_split lts version head count due texts form at closed (in_leaf lts version head count d (suc due) is.1 is.2) refl line (fits_tokens lts version texts form at asked line)))
of_row lts version head count (suc due) split_effect_line texts next d new is asked leads (form, at, line, same) =
    let closed = leaf_closed (at_row version count (suc due)) d in
    drafted_to lts version head (at_node version count (suc due)) next new (draft_lines lts (at_row version count (suc due)) d ++ texts ∷ []) leads
    (drafted_by lts version head (at_node version count (suc due)) (with_split closed form at) new (draft_lines lts (at_row version count (suc due)) d ++ texts ∷ []) same
    (node_split lts version head count due texts form at closed (in_leaf lts version head count d (suc due) is.1 is.2) refl line (fits_effect lts version texts form at asked line)))
of_row lts version head count (suc due) split_start_line texts next d new is asked leads (form, at, line, same) =
    let two = two_leads version _ next leads in
    let closed = leaf_closed (at_row version count (suc due)) d in
    drafted_to lts version head (at_node version count (suc due)) next new (draft_lines lts (at_row version count (suc due)) d ++ texts ∷ []) two.1
    (drafted_by lts version head (at_node version count (suc due)) (with_split closed form at) new (draft_lines lts (at_row version count (suc due)) d ++ texts ∷ []) same
    (node_split lts version head count due texts form at closed (in_leaf lts version head count d (suc due) is.1 is.2) refl line (fits_two version (split_node form at) two.0)))
of_row lts version head count (suc due) leaf_line texts next d new is asked leads adds =
    let closed = leaf_closed (at_row version count (suc due)) d in
    drafted_to lts version head (at_row version count due) next new (draft_lines lts (at_row version count (suc due)) d ++ texts ∷ []) leads
    (drafted_by lts version head (at_row version count due) closed new (draft_lines lts (at_row version count (suc due)) d ++ texts ∷ []) adds
    (node_leaf lts version head count due texts closed (in_leaf lts version head count d (suc due) is.1 is.2) refl (one_word (codes "leaf") texts asked)))
of_row lts version head count (suc due) form texts next d new is asked leads adds = absurd cc
of_row lts version head one zero end_line texts next d new is asked leads adds =
    drafted_to lts version head at_end next new (draft_lines lts (at_row version one zero) d ++ texts ∷ []) leads
    (drafted_by lts version head at_end (case_closed (at_row version one zero) d) new
    (draft_lines lts (at_row version one zero) d ++ texts ∷ []) adds (last_case lts version head one texts d is.1 is.2 (one_word (codes "end") texts asked)))
of_row lts version head one zero split_start_line texts next d new is asked leads adds = let two = two_leads version long next leads in let both : long ≡ to next = two.1 in absurd cc
of_row lts version head one zero form texts next d new is asked leads adds = absurd cc
of_row lts version head several zero end_line texts next d new is asked leads adds =
    drafted_to lts version head at_end next new (draft_lines lts (at_row version several zero) d ++ texts ∷ []) leads
    (drafted_by lts version head at_end (case_closed (at_row version several zero) d) new
    (draft_lines lts (at_row version several zero) d ++ texts ∷ []) adds (last_case lts version head several texts d is.1 is.2 (one_word (codes "end") texts asked)))
of_row lts version head several zero case_line texts next d new is asked leads adds =
    drafted_to lts version head (at_node version several 0) next new (draft_lines lts (at_row version several zero) d ++ texts ∷ []) leads
    (drafted_by lts version head (at_node version several 0) (case_closed (at_row version several zero) d) new
    (draft_lines lts (at_row version several zero) d ++ texts ∷ []) adds (next_case lts version head texts d is.1 is.2 (one_word (codes "case") texts asked)))
of_row lts version head several zero split_start_line texts next d new is asked leads adds = let two = two_leads version long next leads in let both : long ≡ to next = two.1 in absurd cc
of_row lts version head several zero form texts next d new is asked leads adds = absurd cc

of_one_case_is : (same version : Version) (head : Head) → at_one_case same ≡ after_head version head → same ≡ version
of_one_case_is same version (of_unreachable s) at = absurd cc
of_one_case_is same version (of_fork s t s₁ s₂) at = absurd cc
of_one_case_is same version (of_event s t) at = cc
of_one_case_is same version (of_states s s') at = absurd cc

of_cases_is : (same version : Version) (head : Head) → at_cases same ≡ after_head version head → same ≡ version
of_cases_is same version (of_unreachable s) at = absurd cc
of_cases_is same version (of_fork s t s₁ s₂) at = absurd cc
of_cases_is same version (of_event s t) at = absurd cc
of_cases_is same version (of_states s s') at = cc

-- a right line makes of a right draft a right one, with one line more
pub drafted : (lts : System) (version : Version) (head : Head) (position : Position) (form : LineForm) (texts : List (List ℕ)) (next : Position) (d new : Draft) → IsDraftAt lts version head position d
    → AreAsked HasFieldForm (fields_of form) texts → follows position form ≡ to next → Adds lts position form texts d new
    → IsDrafted lts version head next new (draft_lines lts position d ++ texts ∷ [])
drafted lts version head at_heading form texts next d new is asked leads adds = absurd ((not_early version head at_heading is.0).0 refl)
drafted lts version head (at_class v) form texts next d new is asked leads adds = absurd ((not_early version head (at_class v) is.0).1 v refl)
drafted lts version head (at_reason v) form texts next d new is asked leads adds = absurd ((not_early version head (at_reason v) is.0).2 v refl)
drafted lts version head at_last end_line texts next d new is asked leads adds =
    drafted_to lts version head at_end next new (texts ∷ []) leads
    (drafted_by lts version head at_end blank new (texts ∷ []) (adds ∙ is.1) (no_cases lts version head texts is.0 (one_word (codes "end") texts asked)))
drafted lts version head at_last form texts next d new is asked leads adds = absurd cc
drafted lts version head at_end form texts next d new is asked leads adds = absurd cc
drafted lts version head (at_one_case same) form texts next d new is asked leads adds =
    let e = of_one_case_is same version head is.0 in
    of_one_case lts version head form texts next d new (subst (λ v. (at_one_case v) ≡ after_head version head) e is.0, is.1) asked
    (subst (λ v. follows (at_one_case v) form ≡ to next) e leads) (subst (λ v. Adds lts (at_one_case v) form texts d new) e adds)
drafted lts version head (at_cases same) form texts next d new is asked leads adds =
    let e = of_cases_is same version head is.0 in
    of_cases lts version head form texts next d new (subst (λ v. (at_cases v) ≡ after_head version head) e is.0, is.1) asked
    (subst (λ v. follows (at_cases v) form ≡ to next) e leads) (subst (λ v. Adds lts (at_cases v) form texts d new) e adds)
drafted lts version head (at_node same count due) form texts next d new is asked leads adds =
    let e = is.0 in
    of_node lts version head count due form texts next d new (refl, is.1, is.2) asked
    (subst (λ v. follows (at_node v count due) form ≡ to next) e leads) (subst (λ v. Adds lts (at_node v count due) form texts d new) e adds)
drafted lts version head (at_row same count due) form texts next d new is asked leads adds =
    let e = is.0 in
    of_row lts version head count due form texts next d new (refl, is.1, is.2) asked
    (subst (λ v. follows (at_row v count due) form ≡ to next) e leads) (subst (λ v. Adds lts (at_row v count due) form texts d new) e adds)

due_is : (p next : Position) → to p ≡ to next → due_at next ≡ due_at p
due_is p next e = ap due_at (sym (to_is p next e))

-- a line makes at most one more node due
pub few_due : (position : Position) (form : LineForm) (next : Position) → follows position form ≡ to next → due_at next ≤ suc (due_at position)
few_due at_heading (heading_line w) next e = omega (arith, due_is (at_class w) next e)
few_due at_heading form next e = absurd cc
few_due (at_class v) (class_line version_one) next e = omega (arith, due_is (at_reason v) next e)
few_due (at_class v) (class_line version_two) next e = omega (arith, due_is (at_reason v) next (two_leads v (to (at_reason v)) next e).1)
few_due (at_class v) form next e = absurd cc
few_due (at_reason v) unreachable_line next e = omega (arith, due_is at_last next e)
few_due (at_reason v) fork_line next e = omega (arith, due_is at_last next e)
few_due (at_reason v) event_line next e = omega (arith, due_is (at_one_case v) next e)
few_due (at_reason v) states_line next e = omega (arith, due_is (at_cases v) next e)
few_due (at_reason v) form next e = absurd cc
few_due at_last end_line next e = omega (arith, due_is at_end next e)
few_due at_last form next e = absurd cc
few_due (at_one_case v) case_line next e = omega (arith, due_is (at_node v one 0) next e)
few_due (at_one_case v) form next e = absurd cc
few_due (at_cases v) case_line next e = omega (arith, due_is (at_node v several 0) next e)
few_due (at_cases v) end_line next e = omega (arith, due_is at_end next e)
few_due (at_cases v) form next e = absurd cc
few_due (at_node v count due) split_tokens_line next e = omega (arith, due_is (at_node v count (suc due)) next e)
few_due (at_node v count due) split_effect_line next e = omega (arith, due_is (at_node v count (suc due)) next e)
few_due (at_node v count due) split_start_line next e = omega (arith, due_is (at_node v count (suc due)) next (two_leads v (to (at_node v count (suc due))) next e).1)
few_due (at_node v count due) leaf_line next e = omega (arith, due_is (at_row v count due) next e)
few_due (at_node v count due) form next e = absurd cc
few_due (at_row v count (suc due)) split_tokens_line next e = omega (arith, due_is (at_node v count (suc due)) next e)
few_due (at_row v count (suc due)) split_effect_line next e = omega (arith, due_is (at_node v count (suc due)) next e)
few_due (at_row v count (suc due)) split_start_line next e = omega (arith, due_is (at_node v count (suc due)) next (two_leads v (to (at_node v count (suc due))) next e).1)
few_due (at_row v count (suc due)) leaf_line next e = omega (arith, due_is (at_row v count due) next e)
few_due (at_row v count (suc due)) (row_line row) next e = omega (arith, due_is (at_row v count (suc due)) next e)
few_due (at_row v count (suc due)) form next e = absurd cc
few_due (at_row v several zero) case_line next e = omega (arith, due_is (at_node v several 0) next e)
few_due (at_row v several zero) split_start_line next e = let two = two_leads v long next e in let both : long ≡ to next = two.1 in absurd cc
few_due (at_row v several zero) (row_line row) next e = omega (arith, due_is (at_row v several zero) next e)
few_due (at_row v several zero) end_line next e = omega (arith, due_is at_end next e)
few_due (at_row v several zero) form next e = absurd cc
few_due (at_row v one zero) split_start_line next e = let two = two_leads v long next e in let both : long ≡ to next = two.1 in absurd cc
few_due (at_row v one zero) (row_line row) next e = omega (arith, due_is (at_row v one zero) next e)
few_due (at_row v one zero) end_line next e = omega (arith, due_is at_end next e)
few_due (at_row v one zero) form next e = absurd cc
few_due at_end form next e = absurd cc
