-- What is read of a certificate so far, from its third line on.
use Rattle.std.specs.Prelude.{◌≡◌, ℕ, suc, ◌<◌, false, List, [], ◌∷◌, ◌++◌, map, length, slice_index_or, All, codes, ℤ}
use Rattle.std.specs.List.{flat_map}
use Rattle.std.specs.Fmt.{signed_decimal}
use Rattle.rg_theory.specs.System.{System, states, labels}
use Rattle.rg_theory.specs.declared.Class.{Class}
use Rattle.rg_cert_meaning.specs.declared.Form.{Form}
use Rattle.rg_cert_meaning.specs.Refutes.{NamedRow, Tree}
use Rattle.rg_branch_trees.specs.Trees.{TreeNode.leaf_node, TreeNode.split_node, preorder}
use Rattle.rg_cert_data.specs.Trees.{TreeNode, IsWholeTree}
use Rattle.rg_cert_data.specs.Certificates.{IsRowOf, IsFormOf, IsSplitInRange, IsNodeOf}
use Rattle.rg_text.specs.Line.{fed}
use Rattle.rg_cert.specs.Text.{Version, version_one, class_version, splits_start, spaced, state_name, label_name, named_fields, form_fields, node_lines}
use Rattle.rg_cert.specs.declared.fault.CertFault.{CertFault}
use Rattle.rg_cert.specs.declared.fault.CertFault.TheVariants.{NumberPasses, UnknownName}
use Rattle.rg_cert.specs.Faults.{IsRight, HasNumberOut, HasUnknownName}
use Rattle.rg_cert.specs.Lines.{Field, HasFieldForm, IsFieldInRange, IsFieldKnown, AreAsked, fields_of, HasForm, follows, to, LineForm, unreachable_line, fork_line}
use Rattle.rg_cert.specs.Lines.{event_line, states_line, split_tokens_line, split_effect_line, split_start_line, leaf_line, case_line, end_line, row_line, Count, one}
use Rattle.rg_cert.specs.Lines.{several, Position, at_last, at_one_case, at_cases, at_node, at_row, at_end}

-- the line of a reason
pub data Head : Type 0 where
  of_unreachable : ℕ → Head
  of_fork : ℕ → ℕ → ℕ → ℕ → Head
  of_event : ℕ → ℕ → Head
  of_states : ℕ → ℕ → Head

abbrev pub head_fields : System → Head → List (List ℕ)
head_fields lts (of_unreachable s) = codes "unreachable" ∷ state_name lts s ∷ []
head_fields lts (of_fork s t s₁ s₂) = codes "fork" ∷ state_name lts s ∷ label_name lts t ∷ state_name lts s₁ ∷ state_name lts s₂ ∷ []
head_fields lts (of_event s t) = codes "event" ∷ state_name lts s ∷ label_name lts t ∷ []
head_fields lts (of_states s s') = codes "states" ∷ state_name lts s ∷ state_name lts s' ∷ []

abbrev pub IsHeadOf : System → Head → Type 0
IsHeadOf lts (of_unreachable s) = s < states lts
IsHeadOf lts (of_fork s t s₁ s₂) = (s < states lts) × (t < labels lts) × (s₁ < states lts) × (s₂ < states lts)
IsHeadOf lts (of_event s t) = (s < states lts) × (t < labels lts)
IsHeadOf lts (of_states s s') = (s < states lts) × (s' < states lts)

-- the position of the line after it
abbrev pub after_head : Version → Head → Position
after_head version (of_unreachable s) = at_last
after_head version (of_fork s t s₁ s₂) = at_last
after_head version (of_event s t) = at_one_case version
after_head version (of_states s s') = at_cases version

-- how many nodes must still follow a position
abbrev pub due_at : Position → ℕ
due_at (at_node version count due) = due
due_at (at_row version count due) = due
due_at _ = 0

-- the whole cases, the nodes of the case that is read, and the rows of its last leaf where that is read
pub record Draft : Type 0 where
  pub cases : List (List TreeNode)
  pub nodes : List TreeNode
  pub rows : List NamedRow

abbrev pub blank : Draft
blank = record { cases = []; nodes = []; rows = [] }

-- the leaf that is read is whole, if one is read at the position
abbrev pub leaf_closed : Position → Draft → Draft
leaf_closed (at_row version count due) d = record d { nodes = d.nodes ++ leaf_node d.rows ∷ []; rows = [] }
leaf_closed _ d = d

-- and so is its case
abbrev pub case_closed : Position → Draft → Draft
case_closed (at_row version count due) d = record { cases = d.cases ++ (d.nodes ++ leaf_node d.rows ∷ []) ∷ []; nodes = []; rows = [] }
case_closed _ d = d

-- these are the fields of a split of the system
pub record IsSplitLine (lts : System) (texts : List (List ℕ)) (form : Form) (at : ℤ) : Type 0 where
  pub variable : IsFormOf lts form
  pub in_range : IsSplitInRange at
  pub are : texts ≡ codes "split" ∷ (form_fields lts form ++ signed_decimal at ∷ [])

abbrev pub with_split : Draft → Form → ℤ → Draft
with_split d form at = record d { nodes = d.nodes ++ split_node form at ∷ [] }

-- the draft has one more node
abbrev pub AddsSplit : System → List (List ℕ) → Draft → Draft → Type 0
AddsSplit lts texts d new = (form : Form) × (at : ℤ) × IsSplitLine lts texts form at × (new ≡ with_split d form at)

-- one more row
abbrev pub AddsRow : System → List (List ℕ) → Draft → Draft → Type 0
AddsRow lts texts d new = (r : NamedRow) × IsRowOf lts r × (texts ≡ named_fields lts r) × (new ≡ record d { rows = d.rows ++ r ∷ [] })

-- what a line with these texts makes of the draft
abbrev pub Adds : System → Position → LineForm → List (List ℕ) → Draft → Draft → Type 0
Adds lts position split_tokens_line texts d new = AddsSplit lts texts (leaf_closed position d) new
Adds lts position split_effect_line texts d new = AddsSplit lts texts (leaf_closed position d) new
Adds lts position split_start_line texts d new = AddsSplit lts texts (leaf_closed position d) new
Adds lts position leaf_line texts d new = new ≡ leaf_closed position d
Adds lts position (row_line row) texts d new = AddsRow lts texts d new
Adds lts position case_line texts d new = new ≡ case_closed position d
Adds lts position end_line texts d new = new ≡ case_closed position d
Adds lts position _ texts d new = new ≡ d

-- the lines of a case
abbrev pub nodes_lines : System → List TreeNode → List (List (List ℕ))
nodes_lines lts nodes = (codes "case" ∷ []) ∷ flat_map (node_lines lts) nodes

-- the lines of the draft
abbrev pub draft_lines : System → Position → Draft → List (List (List ℕ))
draft_lines lts (at_node version count due) d = flat_map (nodes_lines lts) d.cases ++ nodes_lines lts d.nodes
draft_lines lts (at_row version count due) d = flat_map (nodes_lines lts) d.cases ++ nodes_lines lts (d.nodes ++ leaf_node d.rows ∷ [])
draft_lines lts at_end d = flat_map (nodes_lines lts) d.cases ++ (codes "end" ∷ []) ∷ []
draft_lines lts _ d = []

-- with so many trees after them the nodes are a whole tree
abbrev pub IsOpen : List TreeNode → ℕ → Type 0
IsOpen nodes due = (trees : List Tree) → length trees ≡ due → (tree : Tree) × IsWholeTree (nodes ++ flat_map preorder trees) tree

-- a text of the version may have the class
abbrev pub IsClassIn : Version → Class → Type 0
IsClassIn version class = version ≡ version_one → class_version class ≡ version_one

-- the numbers of the node are in range, and a text of the version may have it
pub record IsNodeIn (lts : System) (version : Version) (node : TreeNode) : Type 0 where
  pub of_system : IsNodeOf lts node
  pub fits : version ≡ version_one → splits_start node ≡ false

-- the nodes are a whole tree of the system
pub record IsCase (lts : System) (version : Version) (nodes : List TreeNode) : Type 0 where
  pub tree : Tree
  pub whole : IsWholeTree nodes tree
  pub each : All (IsNodeIn lts version) nodes

-- a certificate with this head has so many cases
abbrev pub IsCount : Count → Head → Type 0
IsCount one (of_event s t) = Unit {0}
IsCount several (of_states s s') = Unit {0}
IsCount count head = ⊥

-- whole cases, but none before the one that a certificate has, and an open tree
pub record IsInTree (lts : System) (version : Version) (head : Head) (count : Count) (d : Draft) (due : ℕ) : Type 0 where
  pub asked : IsCount count head
  pub cases : All (IsCase lts version) d.cases
  pub one : count ≡ one → d.cases ≡ []
  pub tree : IsOpen d.nodes due
  pub nodes : All (IsNodeIn lts version) d.nodes

-- as many cases as the head asks
abbrev pub HasCases : Head → List (List TreeNode) → Type 0
HasCases (of_unreachable s) cases = cases ≡ []
HasCases (of_fork s t s₁ s₂) cases = cases ≡ []
HasCases (of_event s t) cases = length cases ≡ 1
HasCases (of_states s s') cases = Unit {0}

-- what the draft is at a position, in a text of the version
abbrev pub IsDraftAt : System → Version → Head → Position → Draft → Type 0
IsDraftAt lts version head (at_node same count due) d = (same ≡ version) × IsInTree lts version head count d (suc due) × (d.rows ≡ [])
IsDraftAt lts version head (at_row same count due) d = (same ≡ version) × IsInTree lts version head count d (suc due) × All (IsRowOf lts) d.rows
IsDraftAt lts version head at_end d = All (IsCase lts version) d.cases × HasCases head d.cases
IsDraftAt lts version head position d = (position ≡ after_head version head) × (d ≡ blank)

-- the text goes on with a line that is right in itself and leads from a position to the next, and then with the rest
pub record IsNextLine (lts : System) (position : Position) (text : List ℕ) (form : LineForm) (texts : List (List ℕ)) (next : Position) (rest : List ℕ) : Type 0 where
  pub line : List ℕ
  pub cut : text ≡ line ++ 10 ∷ rest
  pub has : HasForm form line texts
  pub right : IsRight lts form texts
  pub leads : follows position form ≡ to next

-- the first of these faults of a line
abbrev pub IsWrong : System → LineForm → List (List ℕ) → ℕ → CertFault → Type 0
IsWrong lts form texts n (NumberPasses line) = (line ≡ n) × HasNumberOut form texts
IsWrong lts form texts n (UnknownName line) = (line ≡ n) × HasUnknownName lts form texts
IsWrong lts form texts n _ = ⊥

-- the texts have the form, their numbers are in range, and their names are known
pub record IsGood (lts : System) (form : LineForm) (texts : List (List ℕ)) : Type 0 where
  pub fields : AreAsked HasFieldForm (fields_of form) texts
  pub right : IsRight lts form texts

-- the text at a position is good for a field
pub record IsGoodAt (lts : System) (texts : List (List ℕ)) (i : ℕ) (field : Field) : Type 0 where
  pub there : i < length texts
  pub form : HasFieldForm field (slice_index_or texts i [])
  pub in_range : IsFieldInRange field (slice_index_or texts i [])
  pub known : IsFieldKnown lts field (slice_index_or texts i [])

-- the form is that of a reason's line
abbrev pub IsHeadForm : LineForm → Type 0
IsHeadForm unreachable_line = Unit {0}
IsHeadForm fork_line = Unit {0}
IsHeadForm event_line = Unit {0}
IsHeadForm states_line = Unit {0}
IsHeadForm _ = ⊥

-- the text is that of whole cases, as many as the head asks, and of the end
pub record AreCasesOf (lts : System) (version : Version) (head : Head) (text : List ℕ) (cases : List (List TreeNode)) : Type 0 where
  pub each : All (IsCase lts version) cases
  pub count : HasCases head cases
  pub spelled : text ≡ fed (map spaced (flat_map (nodes_lines lts) cases ++ (codes "end" ∷ []) ∷ []))

-- the text goes on with the line of a head, and then with the rest
pub record IsHeadLine (lts : System) (text : List ℕ) (head : Head) (rest : List ℕ) : Type 0 where
  pub of_system : IsHeadOf lts head
  pub cut : text ≡ spaced (head_fields lts head) ++ 10 ∷ rest
