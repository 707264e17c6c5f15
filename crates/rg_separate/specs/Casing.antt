-- One case: its system, and what its branching leaves.
use Rattle.std.specs.Prelude.{◌≡◌, ℕ, ◌^◌, ◌<◌, List, [], ◌∷◌, ◌++◌, map, length, slice_index_or, ℤ, ◌≤ℤ◌, Result, Ok, Err}
use Rattle.rg_theory.specs.Problem.{IsProblem}
use Rattle.rg_cert_meaning.specs.Row.{RowStands, row_expression, cases_of, Side}
use Rattle.rg_cert_meaning.specs.Expression.{Expression}
use Rattle.rg_cert_meaning.specs.declared.RowName.{RowName}
use Rattle.rg_cert_meaning.specs.declared.Form.{Form as SplitForm}
use Rattle.rg_cert_meaning.specs.Refutes.{NamedRow, LeafRefutes}
use Rattle.rg_integers.specs.declared.term.Wide.{Wide}
use Rattle.rg_linear.specs.System.{LinearSystem, AreFarkasMultipliers}
use Rattle.rg_branch_trees.specs.Trees as splits
use Rattle.rg_branch_trees.specs.Trees.{low_side, TreeNode.leaf_node, TreeNode.split_node}
use Rattle.rg_branch_trees.specs.Turning.{turned}
use Rattle.rg_linear.specs.Branching.{Form, form_at, SplitSide, Weight, weights_from, node_system, AreBounded}
use Rattle.rg_folds.specs.Fold.{each}
use Rattle.rg_case_folds.specs.Rewriting.{CaseSystem, split_forms, system_fold}
use Rattle.rg_case_folds.specs.Spreading.{Share, share_fold, spread_fold}
use Rattle.rg_case_folds.specs.Shown.{IsLive, named_sides}
use Rattle.rg_branch.specs.View.{TreeNode}
use Rattle.rg_branch.specs.Asked.{AreSidesOf}
use Rattle.rg_rows.specs.Forms.{linear_form, split_of, forms_after, AreFormsOf}
use Rattle.rg_rows.specs.Shown.{ShowsCase}
use Rattle.rg_rows.specs.Shared.{NamedRows}
use Rattle.rg_cert_data.specs.Trees as reasons
use Rattle.rg_case_parts.specs.declared.setting.CaseSetting.{CaseSetting}
use Rattle.rg_separate.specs.Keeping.{IsSetting}
use Rattle.rg_case_parts.specs.SettingViews.{shown_case}
use Rattle.rg_cert_meaning.specs.declared.Form.TheVariants as split_form

-- the problem is of the system, its label has an arc, and the case is one of its cases
pub record IsCase (c : CaseSetting) : Type 0 where
  pub setting : IsSetting c.setting
  pub has : IsProblem c.setting.lts.now c.problem
  pub live : IsLive c.setting.lts.now c.problem
  pub below : c.number < cases_of c.setting.lts.now c.setting.class c.problem

-- the forms of the system over its columns
abbrev pub forms_in : NamedRows → List Form
forms_in named = map linear_form named.forms

-- the named system is that of the case, and a branching on its forms may be asked for
pub record IsNamedSystem (c : CaseSetting) (named : NamedRows) : Type 0 where
  pub case : CaseSystem
  pub made : system_fold (shown_case c) (Ok case)
  pub shows : ShowsCase named case
  pub by_name : map split_of named.forms ≡ split_forms c.setting.lts.now c.setting.class c.problem
  pub forms : AreFormsOf named.system (forms_after named.before named.forms)
  pub bounded : AreBounded named.system (forms_in named)

-- ---- the way through a tree of splits

-- a node of a tree of splits, below the sides that lead to it
abbrev pub Visit : Type 0
Visit = splits.PlacedNode (List Weight) ℕ

-- the sides above the node after this one
abbrev pub next_sides : List SplitSide → TreeNode → List SplitSide
next_sides above (leaf_node weights) = turned above
next_sides above (split_node f u) = above ++ low_side f u ∷ []

-- the weights are those of multipliers that refute the rows
pub record AreRefuting (system : LinearSystem) (weights : List Weight) : Type 0 where
  pub multiplier : ℕ → ℤ
  pub weights_are : weights ≡ weights_from multiplier 0 (length system.rows)
  pub refute : AreFarkasMultipliers system multiplier
  pub few : length system.rows < 2 ^ 32

-- a leaf refutes the rows of its node; a split is on one of the forms, at no less than its low bound
abbrev pub NodeStands : LinearSystem → List Form → List SplitSide → TreeNode → Type 0
NodeStands system forms above (leaf_node weights) = AreRefuting (node_system system forms above) weights
NodeStands system forms above (split_node f u) = (f < length forms) × ((form_at forms f).low ≤ℤ u)

-- and there are at most as many splits on the forms above it as the bounds allow
pub record VisitStands (system : LinearSystem) (forms : List Form) (v : Visit) : Type 0 where
  pub sides : AreSidesOf forms v.above
  pub few : length v.above < 2 ^ 32
  pub node : NodeStands system forms v.above v.node

-- ---- what is made of a node

-- the sides with their forms by name
abbrev pub sides_among : List SplitForm → List SplitSide → List Side
sides_among forms sides = map (λ side. record { form = slice_index_or forms side.form (split_form.Tokens 0); at = side.at; high = side.high }) sides

-- of the case: the sides by name; what a row below them is allowed to be, and what it says
abbrev pub sides_by_name : CaseSetting → List SplitSide → List Side
sides_by_name c above = named_sides c.setting.lts.now c.setting.class c.problem above

abbrev pub RowStandsIn : CaseSetting → List SplitSide → RowName → Type 0
RowStandsIn c above = RowStands c.setting.lts.now c.setting.class c.problem c.number (sides_by_name c above)

abbrev pub said_in : CaseSetting → List SplitSide → RowName → Expression
said_in c above = row_expression c.setting.lts.now c.setting.class c.problem c.number (sides_by_name c above)

-- the rows refute the case below the sides, and are the leaf of the weights
pub record IsLeafMade (c : CaseSetting) (named : NamedRows) (above : List SplitSide) (weights : List Weight) (rows : List NamedRow) : Type 0 where
  pub refutes : LeafRefutes (RowStandsIn c above) (said_in c above) rows
  pub spreads : (case : CaseSystem) → ShowsCase named case → spread_fold (shown_case c) case above (sides_by_name c above) weights (Ok rows)

-- the leaf is made; the split has its form's name
abbrev pub IsMadeOf : CaseSetting → NamedRows → List SplitSide → TreeNode → reasons.TreeNode → Type 0
IsMadeOf c named above (leaf_node weights) (leaf_node rows) = IsLeafMade c named above weights rows
IsMadeOf c named above (leaf_node weights) (split_node form at) = ⊥
IsMadeOf c named above (split_node f u) (leaf_node rows) = ⊥
IsMadeOf c named above (split_node f u) (split_node form at) = (form ≡ slice_index_or (split_forms c.setting.lts.now c.setting.class c.problem) f (split_form.Tokens 0)) × (at ≡ u)

-- the shares of the weights below the sides: the fold's result
abbrev pub SharesFold : NamedRows → List SplitSide → List Weight → Result (List Share) Wide → Type 0
SharesFold named above weights result = (case : CaseSystem) → ShowsCase named case → each (share_fold case above (sides_among (map split_of named.forms) above)) weights result

-- the first step of a leaf out of range
abbrev pub LeafPasses : CaseSetting → NamedRows → List SplitSide → TreeNode → Wide → Type 0
LeafPasses c named above (leaf_node weights) w = (case : CaseSystem) → ShowsCase named case → spread_fold (shown_case c) case above (sides_by_name c above) weights (Err w)
LeafPasses c named above (split_node f u) w = ⊥
