-- What certificates claim, and which numbers they may have.
use Rattle.std.specs.Prelude.{◌≡◌, ℕ, ◌^◌, ◌<◌, ◌≤◌, [], ◌∷◌, map, length, All, ℤ, nat_abs}
use Rattle.rg_theory.specs.System.{System, states, labels}
use Rattle.rg_theory.specs.declared.Class.{Class}
use Rattle.rg_theory.specs.declared.Problem.TheVariants as problem
use Rattle.rg_theory.specs.ClassWords.{HasNumbersInRange}
use Rattle.rg_cert_meaning.specs.Expression.{Term}
use Rattle.rg_cert_meaning.specs.declared.Variable.{Variable}
use Rattle.rg_cert_meaning.specs.Refutes as refutes
use Rattle.rg_cert_meaning.specs.Refutes.{NamedRow, Tree}
use Rattle.rg_integers.specs.Range.{greatest}
use Rattle.rg_cert_data.specs.declared.certificate.Case.{Case}
use Rattle.rg_cert_data.specs.declared.certificate.Reason.{Reason}
use Rattle.rg_cert_data.specs.declared.certificate.Reason.TheVariants.{Unreachable, Fork, Event, States}
use Rattle.rg_cert_data.specs.declared.certificate.Certificate.{Certificate}
use Rattle.rg_branch_trees.specs.Trees.{TreeNode.leaf_node, TreeNode.split_node, preorder}
use Rattle.rg_cert_data.specs.Trees.{TreeNode, IsWholeTree, tree_of, nodes_of}
use Rattle.rg_cert_meaning.specs.declared.RowName.{RowName}
use Rattle.rg_cert_meaning.specs.declared.Form.{Form}
use Rattle.rg_cert_meaning.specs.declared.RowName.TheVariants as row_name
use Rattle.rg_cert_meaning.specs.declared.Form.TheVariants as split_form
use Rattle.rg_cert_meaning.specs.declared.Variable.TheVariants.{Tokens, Effect}

-- a class, and why no net of it solves a system, in the words of the definitions
pub record Claim : Type 0 where
  pub class : Class
  pub reason : refutes.Reason

abbrev pub case_tree : Case → Tree
case_tree case = tree_of (nodes_of case)

-- the reason in the words of the definitions
abbrev pub reason_of : Reason → refutes.Reason
reason_of (Unreachable s) = refutes.unreachable s
reason_of (Fork s t s₁ s₂) = refutes.fork s t s₁ s₂
reason_of (Event s t case) = refutes.refuted (problem.Event s t) (case_tree case ∷ [])
reason_of (States s s' cases) = refutes.refuted (problem.States s s') (map case_tree cases.items)

-- what a certificate claims
abbrev pub claim_of : Certificate → Claim
claim_of cert = record { class = cert.class; reason = reason_of cert.reason }

-- the nodes of the case are those of one whole tree
abbrev pub IsWhole : Case → Type 0
IsWhole case = IsWholeTree (nodes_of case) (case_tree case)

abbrev pub HasWholeCases : Reason → Type 0
HasWholeCases (Unreachable s) = Unit {0}
HasWholeCases (Fork s t s₁ s₂) = Unit {0}
HasWholeCases (Event s t case) = IsWhole case
HasWholeCases (States s s' cases) = All IsWhole cases.items

-- the states and labels of a row are those of the system
abbrev pub IsRowNameOf : System → RowName → Type 0
IsRowNameOf lts (row_name.Arc a) = (a.from < states lts) × (a.label < labels lts) × (a.to < states lts)
IsRowNameOf lts (row_name.Tokens q) = q < states lts
IsRowNameOf lts (row_name.Cap q) = q < states lts
IsRowNameOf lts (row_name.Up t) = t < labels lts
IsRowNameOf lts (row_name.Down t) = t < labels lts
IsRowNameOf lts (row_name.Makes t) = t < labels lts
IsRowNameOf lts (row_name.Stop q) = q < states lts
IsRowNameOf lts row_name.Block = Unit {0}
IsRowNameOf lts row_name.Empty = Unit {0}
IsRowNameOf lts (row_name.Full q) = q < states lts
IsRowNameOf lts row_name.Keep = Unit {0}
IsRowNameOf lts row_name.Apart = Unit {0}
IsRowNameOf lts (row_name.Above d) = d < 2 ^ 32

-- a multiplier is from -(2^127 - 1) to 2^127 - 1
abbrev pub IsMultiplierInRange : ℤ → Type 0
IsMultiplierInRange z = nat_abs z ≤ greatest

-- the number of a split is from -(2^63 - 1) to 2^63 - 1
abbrev pub IsSplitInRange : ℤ → Type 0
IsSplitInRange z = nat_abs z < 2 ^ 63

pub record IsRowOf (lts : System) (r : NamedRow) : Type 0 where
  pub multiplier : IsMultiplierInRange r.multiplier
  pub name : IsRowNameOf lts r.name

abbrev pub IsFormOf : System → Form → Type 0
IsFormOf lts (split_form.Tokens q) = q < states lts
IsFormOf lts (split_form.Effect t) = t < labels lts
IsFormOf lts split_form.Start = Unit {0}

-- the state or label is one of so many
abbrev pub IsVariableWithin : ℕ → ℕ → Variable → Type 0
IsVariableWithin states labels (Tokens q) = q < states
IsVariableWithin states labels (Effect t) = t < labels

abbrev pub IsTermWithin : ℕ → ℕ → Term → Type 0
IsTermWithin states labels t = IsVariableWithin states labels t.variable

-- the state or label is the system's
abbrev pub IsVariableOf : System → Variable → Type 0
IsVariableOf lts v = IsVariableWithin (states lts) (labels lts) v

-- the numbers of a node are in range
abbrev pub IsNodeOf : System → TreeNode → Type 0
IsNodeOf lts (leaf_node rows) = All (IsRowOf lts) rows
IsNodeOf lts (split_node form at) = IsFormOf lts form × IsSplitInRange at

-- the numbers of all nodes of a tree are in range
abbrev pub IsTreeOf : System → Tree → Type 0
IsTreeOf lts tree = All (IsNodeOf lts) (preorder tree)

-- the numbers of a reason are in range, and an event has one tree
abbrev pub IsReasonOf : System → refutes.Reason → Type 0
IsReasonOf lts (refutes.unreachable s) = s < states lts
IsReasonOf lts (refutes.fork s t s₁ s₂) = (s < states lts) × (t < labels lts) × (s₁ < states lts) × (s₂ < states lts)
IsReasonOf lts (refutes.refuted (problem.Event s t) trees) = (s < states lts) × (t < labels lts) × (length trees ≡ 1) × All (IsTreeOf lts) trees
IsReasonOf lts (refutes.refuted (problem.States s s') trees) = (s < states lts) × (s' < states lts) × All (IsTreeOf lts) trees

-- the numbers are in range of the system, and those of the class from 1 to 255
pub record IsClaimOf (lts : System) (claim : Claim) : Type 0 where
  pub reason : IsReasonOf lts claim.reason
  pub numbers : HasNumbersInRange claim.class

-- the certificate's trees are whole, and its numbers are in range of the system
pub record IsCertificateOf (lts : System) (cert : Certificate) : Type 0 where
  pub whole : HasWholeCases cert.reason
  pub claim : IsClaimOf lts (claim_of cert)
