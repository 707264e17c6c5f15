use Rattle.std.proofs.Common.{◌≡◌, map, ap, sym}
use Rattle.rg_integers.proofs.Casts.{back}
use Rattle.rg_folds.specs.Fold.{whole}
use Rattle.rg_case_folds.specs.Rewriting.{columns_of}
use Rattle.rg_cycles.specs.View.{cycle_of}
use Rattle.rg_case_parts.specs.SettingViews.{shown_setting}
use Rattle.rg_case_parts.proofs.Picking.{columns_in_range}
use Rattle.rg_rows.proofs.Making.{columns_whole}
use Rattle.rg_rows.proofs.rewriting.whole_columns.Goals as goal

pub invariant_of-result-clause-numbers_in_range : goal.invariant_of-result-clause-numbers_in_range
invariant_of-result-clause-numbers_in_range c =
    columns_in_range c.args.setting.lts.now (cycle_of c.args.setting.basis.now) c.args.setting.class c.args.start c.args.free.now c.in_ok-numbers.numbers.items c.requires.start c.requires.in_range
    (c.in_ok-numbers.ensures c.args.setting.lts.now c.args.setting.class whole c.args.start (sym c.requires.labels) c.requires.columns (ap whole (back c.args.start c.requires.start)))

pub returns : goal.returns
returns c = λ counts found.
    (let picked : map whole c.in_ok-numbers.numbers.items ≡ columns_of c.args.setting.lts.now (cycle_of c.args.setting.basis.now) c.args.setting.class c.args.start (map whole c.args.free.now) =
    c.in_ok-numbers.ensures c.args.setting.lts.now c.args.setting.class whole c.args.start (sym c.requires.labels) c.requires.columns (ap whole (back c.args.start c.requires.start)) in
    columns_whole (shown_setting c.args.setting) c.args.start counts c.args.free.now c.in_ok-numbers.numbers.items found
    (columns_in_range c.args.setting.lts.now (cycle_of c.args.setting.basis.now) c.args.setting.class c.args.start c.args.free.now
    c.in_ok-numbers.numbers.items c.requires.start c.requires.in_range picked)
    picked)
