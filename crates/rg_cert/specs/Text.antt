-- The text of a certificate.
use Rattle.std.specs.Prelude.{ℕ, Bool, true, false, ◌||◌, if◌then◌else◌, List, [], ◌∷◌, ◌++◌, map, codes, decimal, slice_index_or, is_some}
use Rattle.std.specs.List.{flat_map, list_any}
use Rattle.std.specs.Fmt.{signed_decimal}
use Rattle.rg_text.specs.Line.{fed}
use Rattle.rg_theory.specs.System.{System}
use Rattle.rg_theory.specs.ClassWords.{class_text}
use Rattle.rg_theory.specs.declared.Arc.{Arc}
use Rattle.rg_theory.specs.declared.Class.{Class}
use Rattle.rg_theory.specs.declared.Problem.{Problem}
use Rattle.rg_theory.specs.declared.Problem.TheVariants.{Event, States}
use Rattle.rg_cert_meaning.specs.declared.Form.{Form}
use Rattle.rg_cert_meaning.specs.Refutes as refutes
use Rattle.rg_cert_meaning.specs.Refutes.{NamedRow, Tree}
use Rattle.rg_branch_trees.specs.Trees.{TreeNode.leaf_node, TreeNode.split_node, preorder}
use Rattle.rg_cert_data.specs.Trees.{TreeNode}
use Rattle.rg_cert_data.specs.Certificates.{Claim}
use Rattle.rg_cert_meaning.specs.declared.RowName.{RowName}
use Rattle.rg_cert_meaning.specs.declared.RowName.TheVariants as row_name
use Rattle.rg_cert_meaning.specs.declared.Form.TheVariants as split_form

-- the versions of texts: the second one has classes with a marking, and splits on the start
pub data Version : Type 0 where
  version_one : Version
  version_two : Version

abbrev pub version_digits : Version → List ℕ
version_digits version_one = codes "1"
version_digits version_two = codes "2"

-- the fields of the first line
abbrev pub heading : Version → List (List ℕ)
heading version = codes "certificate" ∷ version_digits version ∷ []

-- the first version whose texts have the class
abbrev pub class_version : Class → Version
class_version class = if is_some class.marking then version_two else version_one

abbrev pub is_start : Form → Bool
is_start (split_form.Tokens q) = false
is_start (split_form.Effect t) = false
is_start split_form.Start = true

-- the node is a split on the start
abbrev pub splits_start : TreeNode → Bool
splits_start (leaf_node rows) = false
splits_start (split_node form at) = is_start form

-- the nodes of all trees of a reason
abbrev pub reason_nodes : refutes.Reason → List TreeNode
reason_nodes (refutes.unreachable s) = []
reason_nodes (refutes.fork s t s₁ s₂) = []
reason_nodes (refutes.refuted problem trees) = flat_map preorder trees

-- the class asks a marking, or a split is on the start
abbrev pub asks_two : Claim → Bool
asks_two claim = is_some claim.class.marking || list_any splits_start (reason_nodes claim.reason)

-- the version in which a claim is written
abbrev pub version_of : Claim → Version
version_of claim = if asks_two claim then version_two else version_one

abbrev pub state_name : System → ℕ → List ℕ
state_name lts s = slice_index_or lts.state_names s []

abbrev pub label_name : System → ℕ → List ℕ
label_name lts t = slice_index_or lts.label_names t []

-- what a row's name speaks of
pub data Subject : Type 0 where
  of_none : Subject
  of_arc : Arc → Subject
  of_state : ℕ → Subject
  of_label : ℕ → Subject
  of_depth : ℕ → Subject

-- the word of a row's name, and what it speaks of
abbrev pub word_and_subject : RowName → List ℕ × Subject
word_and_subject (row_name.Arc a) = (codes "arc", of_arc a)
word_and_subject (row_name.Tokens q) = (codes "tokens", of_state q)
word_and_subject (row_name.Cap q) = (codes "cap", of_state q)
word_and_subject (row_name.Up t) = (codes "up", of_label t)
word_and_subject (row_name.Down t) = (codes "down", of_label t)
word_and_subject (row_name.Makes t) = (codes "makes", of_label t)
word_and_subject (row_name.Stop q) = (codes "stop", of_state q)
word_and_subject row_name.Block = (codes "block", of_none)
word_and_subject row_name.Empty = (codes "empty", of_none)
word_and_subject (row_name.Full q) = (codes "full", of_state q)
word_and_subject row_name.Keep = (codes "keep", of_none)
word_and_subject row_name.Apart = (codes "apart", of_none)
word_and_subject (row_name.Above d) = (codes "above", of_depth d)

abbrev pub subject_fields : System → Subject → List (List ℕ)
subject_fields lts of_none = []
subject_fields lts (of_arc a) = state_name lts a.from ∷ label_name lts a.label ∷ state_name lts a.to ∷ []
subject_fields lts (of_state q) = state_name lts q ∷ []
subject_fields lts (of_label t) = label_name lts t ∷ []
subject_fields lts (of_depth d) = decimal d ∷ []

-- the fields of a row's name: its word, and what it speaks of
abbrev pub row_fields : System → RowName → List (List ℕ)
row_fields lts name = (word_and_subject name).0 ∷ subject_fields lts (word_and_subject name).1

-- the fields of a row: its multiplier and its name
abbrev pub named_fields : System → NamedRow → List (List ℕ)
named_fields lts r = signed_decimal r.multiplier ∷ row_fields lts r.name

abbrev pub form_fields : System → Form → List (List ℕ)
form_fields lts (split_form.Tokens q) = codes "tokens" ∷ state_name lts q ∷ []
form_fields lts (split_form.Effect t) = codes "effect" ∷ label_name lts t ∷ []
form_fields lts split_form.Start = codes "start" ∷ []

-- the fields of the lines of a node
abbrev pub node_lines : System → TreeNode → List (List (List ℕ))
node_lines lts (leaf_node rows) = (codes "leaf" ∷ []) ∷ map (named_fields lts) rows
node_lines lts (split_node form at) = (codes "split" ∷ (form_fields lts form ++ signed_decimal at ∷ [])) ∷ []

-- the fields of the lines of a case
abbrev pub case_lines : System → Tree → List (List (List ℕ))
case_lines lts tree = (codes "case" ∷ []) ∷ flat_map (node_lines lts) (preorder tree)

-- the fields of a problem
abbrev pub problem_fields : System → Problem → List (List ℕ)
problem_fields lts (Event s t) = codes "event" ∷ state_name lts s ∷ label_name lts t ∷ []
problem_fields lts (States s s') = codes "states" ∷ state_name lts s ∷ state_name lts s' ∷ []

-- the fields of the lines of a reason
abbrev pub reason_lines : System → refutes.Reason → List (List (List ℕ))
reason_lines lts (refutes.unreachable s) = (codes "unreachable" ∷ state_name lts s ∷ []) ∷ []
reason_lines lts (refutes.fork s t s₁ s₂) = (codes "fork" ∷ state_name lts s ∷ label_name lts t ∷ state_name lts s₁ ∷ state_name lts s₂ ∷ []) ∷ []
reason_lines lts (refutes.refuted problem trees) = problem_fields lts problem ∷ flat_map (case_lines lts) trees

-- fields with one space between
abbrev pub spaced : List (List ℕ) → List ℕ
spaced [] = []
spaced (field ∷ []) = field
spaced (field ∷ next ∷ more) = field ++ 32 ∷ spaced (next ∷ more)

-- the fields of all lines in a version, with this text of the class
unfoldable pub cert_lines : Version → List ℕ → System → refutes.Reason → List (List (List ℕ))
cert_lines version class lts reason = heading version ∷ (codes "class" ∷ class ∷ []) ∷ (reason_lines lts reason ++ (codes "end" ∷ []) ∷ [])

-- the text of a claim in a version, where its class has this text
unfoldable pub text_with : Version → List ℕ → System → refutes.Reason → List ℕ
text_with version class lts reason = fed (map spaced (cert_lines version class lts reason))

-- the text of a claim
abbrev pub cert_text : Claim → System → List ℕ
cert_text claim lts = text_with (version_of claim) (class_text claim.class) lts claim.reason
