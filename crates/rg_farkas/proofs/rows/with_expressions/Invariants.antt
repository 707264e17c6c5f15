use Rattle.std.proofs.Common.{◌≡◌, ◌++◌, map, drop, All}
use Rattle.rg_case_parts.specs.SettingViews.{shown_case}
use Rattle.rg_cert_data.specs.Trees.{named_row}
use Rattle.rg_farkas.specs.Leaves.{said_in}
use Rattle.rg_farkas.specs.View.{named_of, Tells}
use Rattle.rg_farkas.proofs.rows.with_expressions.Given as goal

abbrev pub invariant-loop-name : goal.invariant-loop-name
invariant-loop-name l = record {
  rows : map named_of l.rows.items ++ map named_row (drop l.name-index l.listed) ≡ map named_row l.listed;
  told : All (Tells (said_in (shown_case l.c) l.above)) l.rows.items;
}
