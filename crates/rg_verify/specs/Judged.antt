-- What a verdict on a certificate says: that it holds, or its first defect.
use Rattle.std.specs.Prelude.{◌≡◌, ◌≢◌, ℕ, ◌<◌, List, [], length, take, All, pos, ◌<ℤ◌, slice_get, Some}
use Rattle.rg_theory.specs.System.{System}
use Rattle.rg_theory.specs.declared.Class.{Class}
use Rattle.rg_theory.specs.declared.Problem.{Problem}
use Rattle.rg_cert_meaning.specs.Expression.{Expression}
use Rattle.rg_cert_meaning.specs.Row.{FormStands, RowStands, row_expression, cases_of, Side}
use Rattle.rg_cert_meaning.specs.declared.Form.{Form}
use Rattle.rg_cert_meaning.specs.declared.RowName.{RowName}
use Rattle.rg_branch_trees.specs.Trees as splits
use Rattle.rg_branch_trees.specs.Trees.{TreeNode.leaf_node, TreeNode.split_node, placed_nodes}
use Rattle.rg_cert_meaning.specs.Refutes.{NamedRow, IsMultiplier, IsSmall, coefficient_sum, constant_sum, LeafRefutes, Tree, TreeRefutes, IsSeparationProblem, IsRefuted, Accepts}
use Rattle.rg_cert_meaning.specs.Refutes as refutes
use Rattle.rg_cert_data.specs.Trees.{TreeNode}
use Rattle.rg_cert_data.specs.Certificates.{Claim, IsVariableOf}
use Rattle.rg_verify.specs.declared.verdict.Defect.{Defect}
use Rattle.rg_verify.specs.declared.verdict.Defect.TheVariants.{WrongRow, NotPositive, LeftOver, NoContradiction, SumPasses, WrongForm, CaseMissing, NotSo}
use Rattle.rg_verify.specs.declared.verdict.Verdict.{Verdict}
use Rattle.rg_verify.specs.declared.verdict.Verdict.TheVariants.{Accepted, Refused}
use Rattle.rg_cert_meaning.specs.declared.Variable.{Variable}
use Rattle.rg_cert_meaning.specs.declared.Variable.TheVariants.{Tokens, Effect}

-- the reason of a claim holds of the system
abbrev pub Holds : System → Claim → Type 0
Holds lts claim = Accepts lts claim.class claim.reason

-- the item at a place of a list, where the fact holds of all items before
pub record IsReached {X : Type 0} (P : X → Type 0) (xs : List X) (place : ℕ) (x : X) : Type 0 where
  pub here : slice_get xs place ≡ Some x
  pub before : All P (take place xs)

-- tokens come before effects, tokens by state and effects by label
abbrev pub IsVariableBefore : Variable → Variable → Type 0
IsVariableBefore (Tokens q) (Tokens r) = q < r
IsVariableBefore (Tokens q) (Effect t) = Unit {0}
IsVariableBefore (Effect t) (Tokens q) = ⊥
IsVariableBefore (Effect t) (Effect u) = t < u

-- the row is allowed there, and has a positive multiplier where one is required
abbrev pub IsRightRow : (RowName → Type 0) → NamedRow → Type 0
IsRightRow stands r = stands r.name × IsMultiplier r.multiplier r.name

-- the rows are allowed there with their multipliers, and no sum of absolute values is out of range
pub record AreSummed (stands : RowName → Type 0) (expression : RowName → Expression) (rows : List NamedRow) : Type 0 where
  pub right : All (IsRightRow stands) rows
  pub small : IsSmall expression rows

-- the first variable whose coefficients don't add up to 0
pub record IsFirstLeft (lts : System) (expression : RowName → Expression) (rows : List NamedRow) (v : Variable) : Type 0 where
  pub in_range : IsVariableOf lts v
  pub left : coefficient_sum expression rows v ≢ pos 0
  pub first : (w : Variable) → IsVariableBefore w v → coefficient_sum expression rows w ≡ pos 0

-- what is wrong with the first row that isn't right, or else with the sums of the rows
abbrev pub IsDefectOf : System → (RowName → Type 0) → (RowName → Expression) → List NamedRow → Defect → Type 0
IsDefectOf lts stands expression rows WrongRow = (place : ℕ) × (r : NamedRow) × IsReached (IsRightRow stands) rows place r × (¬ stands r.name)
IsDefectOf lts stands expression rows NotPositive = (place : ℕ) × (r : NamedRow) × IsReached (IsRightRow stands) rows place r × stands r.name × (¬ IsMultiplier r.multiplier r.name)
IsDefectOf lts stands expression rows SumPasses = All (IsRightRow stands) rows × (¬ IsSmall expression rows)
IsDefectOf lts stands expression rows (LeftOver v) = AreSummed stands expression rows × IsFirstLeft lts expression rows v
IsDefectOf lts stands expression rows NoContradiction = AreSummed stands expression rows × ((v : Variable) → coefficient_sum expression rows v ≡ pos 0) × (¬ (constant_sum expression rows <ℤ pos 0))
IsDefectOf lts stands expression rows WrongForm = ⊥
IsDefectOf lts stands expression rows CaseMissing = ⊥
IsDefectOf lts stands expression rows NotSo = ⊥

-- a node of a tree, below the sides that lead to it
abbrev pub PlacedNode : Type 0
PlacedNode = splits.PlacedNode (List NamedRow) Form

-- below the sides a leaf refutes in one case of a problem; a split may be on its form
abbrev pub HoldsAt : System → Class → Problem → ℕ → List Side → TreeNode → Type 0
HoldsAt lts class problem number above (leaf_node rows) = LeafRefutes (RowStands lts class problem number above) (row_expression lts class problem number above) rows
HoldsAt lts class problem number above (split_node form at) = FormStands class form

abbrev pub NodeHolds : System → Class → Problem → ℕ → PlacedNode → Type 0
NodeHolds lts class problem number v = HoldsAt lts class problem number v.above v.node

-- what is wrong with a node below the sides
abbrev pub IsNodeDefect : System → Class → Problem → ℕ → List Side → TreeNode → Defect → Type 0
IsNodeDefect lts class problem number above (leaf_node rows) defect = IsDefectOf lts (RowStands lts class problem number above) (row_expression lts class problem number above) rows defect
IsNodeDefect lts class problem number above (split_node form at) defect = (defect ≡ WrongForm) × ¬ FormStands class form

-- the first node that doesn't hold has the defect; its number is its place in preorder
abbrev pub IsDefectIn : System → Class → Problem → ℕ → Tree → ℕ → Defect → Type 0
IsDefectIn lts class problem number tree node defect =
    (v : PlacedNode) × IsReached (NodeHolds lts class problem number) (placed_nodes [] tree) node v × IsNodeDefect lts class problem number v.above v.node defect

-- there is a tree for each case, and there is a case
abbrev pub HasAllCases : System → Class → Problem → List Tree → Type 0
HasAllCases lts class problem trees = (length trees ≡ cases_of lts class problem) × (0 < length trees)

-- the problem is asked, there are all cases, and the first tree that doesn't refute is the case, with the defect at the node
pub record IsDefectAmong (lts : System) (class : Class) (problem : Problem) (trees : List Tree) (case node : ℕ) (defect : Defect) : Type 0 where
  pub asked : IsSeparationProblem lts problem
  pub cases : HasAllCases lts class problem trees
  pub tree : Tree
  pub here : slice_get trees case ≡ Some tree
  pub before : (number : ℕ) (earlier : Tree) → number < case → slice_get trees number ≡ Some earlier → TreeRefutes lts class problem number [] earlier
  pub found : IsDefectIn lts class problem case tree node defect

-- the first defect of trees for a problem
abbrev pub IsDefectFor : System → Class → Problem → List Tree → ℕ → ℕ → Defect → Type 0
IsDefectFor lts class problem trees case node NotSo = (case ≡ 0) × (node ≡ 0) × (¬ IsSeparationProblem lts problem)
IsDefectFor lts class problem trees case node CaseMissing = (case ≡ 0) × (node ≡ 0) × IsSeparationProblem lts problem × (¬ HasAllCases lts class problem trees)
IsDefectFor lts class problem trees case node defect = IsDefectAmong lts class problem trees case node defect

-- the verdict on trees for a problem
abbrev pub JudgesTrees : System → Class → Problem → List Tree → Verdict → Type 0
JudgesTrees lts class problem trees Accepted = IsRefuted lts class problem trees
JudgesTrees lts class problem trees (Refused case node defect) = IsDefectFor lts class problem trees case node defect

-- the first defect of a reason; one without cases can only be not so
abbrev pub IsFirstDefect : System → Class → refutes.Reason → ℕ → ℕ → Defect → Type 0
IsFirstDefect lts class (refutes.refuted problem trees) case node defect = IsDefectFor lts class problem trees case node defect
IsFirstDefect lts class reason case node defect = (case ≡ 0) × (node ≡ 0) × (defect ≡ NotSo) × (¬ Accepts lts class reason)

-- the verdict on the claim of a certificate
abbrev pub Judges : System → Claim → Verdict → Type 0
Judges lts claim Accepted = Holds lts claim
Judges lts claim (Refused case node defect) = IsFirstDefect lts claim.class claim.reason case node defect
