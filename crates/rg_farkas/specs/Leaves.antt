-- How the call's list is seen, and what is said of a node that is a leaf.
use Rattle.std.specs.Prelude.{◌≡◌, ◌^◌, ◌<◌, List, length, map, All}
use Rattle.rg_theory.specs.System.{labels, IsAllReachable}
use Rattle.rg_cert_meaning.specs.Expression.{Expression}
use Rattle.rg_cert_meaning.specs.Row.{RowStands, row_expression, cases_of, Side}
use Rattle.rg_cert_meaning.specs.Refutes.{NamedRow, IsSeparationProblem}
use Rattle.rg_spanning.specs.Spanning.{IsTreeOf}
use Rattle.rg_fraction.specs.declared.fraction.Fraction.{Fraction}
use Rattle.rg_branch_trees.specs.Trees.{TreeNode.leaf_node, TreeNode.split_node}
use Rattle.rg_cert_data.specs.Trees.{TreeNode}
use Rattle.rg_cert_data.specs.Certificates.{IsFormOf, IsRowNameOf}
use Rattle.rg_cycles.specs.View.{labels_of, cycle_of}
use Rattle.rg_case_parts.specs.declared.setting.CaseSetting.{CaseSetting as HeldCase}
use Rattle.rg_case_parts.specs.SettingViews.{shown_case}
use Rattle.rg_case_folds.specs.Setting.{CaseSetting}
use Rattle.rg_case_folds.specs.Chords.{IsBasis}
use Rattle.rg_folds.specs.Fold.{ratio_of}
use Rattle.rg_case_folds.specs.Spreading.{Share}
use Rattle.rg_farkas.specs.Refuting.{SharesRefute}
use Rattle.rg_cert_meaning.specs.declared.RowName.{RowName}

-- a named row times a fraction
abbrev pub share_of : RowName × Fraction → Share
share_of r = record { name = r.0; multiplier = ratio_of r.1 }

-- the node is a leaf, and its rows are such
abbrev pub IsLeafWith : (List NamedRow → Type 0) → TreeNode → Type 0
IsLeafWith P (leaf_node rows) = P rows
IsLeafWith P (split_node form at) = ⊥

-- what the rows say in the case below the sides, by their names
abbrev pub said_in : CaseSetting → List Side → RowName → Expression
said_in s above = row_expression s.lts s.class s.problem s.number above

-- the named rows refute a case of a problem below the sides: all states can be reached, tree and basis are the system's,
-- and the rows are allowed there, name states and labels of the system, and refute wherever the arcs are kept
pub record RefutesCase (c : HeldCase) (named : List (RowName × Fraction)) (above : List Side) : Type 0 where
  pub reachable : IsAllReachable c.setting.lts.now
  pub tree : IsTreeOf c.setting.lts.now c.setting.tree.now
  pub labels : labels_of c.setting.basis.now ≡ labels c.setting.lts.now
  pub basis : IsBasis c.setting.lts.now c.setting.tree.now.arcs (cycle_of c.setting.basis.now)
  pub asked : IsSeparationProblem c.setting.lts.now c.problem
  pub case : c.number < cases_of c.setting.lts.now c.setting.class c.problem
  pub sides : All (λ s. IsFormOf c.setting.lts.now s.form) above
  pub stand : All (λ s. RowStands c.setting.lts.now c.setting.class c.problem c.number above s.name) (map share_of named)
  pub names : All (λ s. IsRowNameOf c.setting.lts.now s.name) (map share_of named)
  pub refute : SharesRefute c.setting.lts.now (said_in (shown_case c) above) (map share_of named)
  pub few_rows : length named < 2 ^ 32
  pub few_sides : length above < 2 ^ 32
