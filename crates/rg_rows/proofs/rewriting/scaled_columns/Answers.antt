use Rattle.std.proofs.Common.{rules, ◌≡◌, Ok, Err, map, length, subst, sym, ap, ◌∙◌}
use Rattle.std.proofs.lemmas.List.{length-map}
use Rattle.rg_integers.specs.Sum.{number_at}
use Rattle.rg_integers.proofs.Casts.{back}
use Rattle.rg_folds.specs.Fold.{ratio_of}
use Rattle.rg_folds.specs.Substitution.{free_labels, substitute_fold, coefficient_fold}
use Rattle.rg_case_folds.specs.Rewriting.{columns_of}
use Rattle.rg_folds.proofs.Folding.{whole_is}
use Rattle.rg_case_folds.proofs.Comes.{comes_by, comes_unless}
use Rattle.rg_case_folds.proofs.Items.{each_length}
use Rattle.rg_cycles.specs.View.{labels_of, cycle_of}
use Rattle.rg_case_parts.specs.SettingViews.{shown_setting}
use Rattle.rg_case_parts.specs.WholeNumbers.{scaled_of}
use Rattle.rg_rows.specs.Columns.{columns_fold}
use Rattle.rg_rows.proofs.Making.{columns_scaled, columns_unsubstituted}
use Rattle.rg_rows.proofs.rewriting.scaled_columns.Goals as goal

pub returns-in_err-free : goal.returns-in_err-free
returns-in_err-free c =
    let s = shown_setting c.args.setting in
    let result : c.from_residual.result ≡ Err c.in_err-free.field-0.0 = search rules in
    rw result (comes_unless (columns_fold s c.args.start (number_at c.args.counts.now)) scaled_of c.in_err-free.field-0.0
    (λ w is. columns_unsubstituted s c.args.start (number_at c.args.counts.now) w
    (subst (λ n. substitute_fold n (cycle_of c.args.setting.basis.now) (number_at c.args.counts.now) (Err w)) c.requires.labels (rw is at c.in_err-free.ensures))))

pub pick-requires-clause-one_each : goal.pick-requires-clause-one_each
pick-requires-clause-one_each c = ap length c.deref.ensures.value ∙ sym (length-map c.in_ok-free.free.coeffs.items ratio_of)
    ∙ each_length (coefficient_fold (labels_of c.args.setting.basis.now) (cycle_of c.args.setting.basis.now) (number_at c.args.counts.now))
    (free_labels (labels_of c.args.setting.basis.now) (cycle_of c.args.setting.basis.now)) (map ratio_of c.in_ok-free.free.coeffs.items) c.in_ok-free.ensures

pub returns : goal.returns
returns c =
    let s = shown_setting c.args.setting in
    let free = map ratio_of c.in_ok-free.free.coeffs.items in
    let found = subst (λ n. substitute_fold n (cycle_of c.args.setting.basis.now) (number_at c.args.counts.now) (Ok free)) c.requires.labels c.in_ok-free.ensures in
    let start = whole_is c.new-start.result c.args.start (rw (back c.args.start c.requires.start) at c.new-start.ensures) in
    let picked : map ratio_of c.deref-2.result.now ≡ columns_of c.args.setting.lts.now (cycle_of c.args.setting.basis.now) c.args.setting.class c.args.start free =
    ap (map ratio_of) c.deref-2.ensures.value ∙ c.in_ok-numbers.ensures c.args.setting.lts.now c.args.setting.class ratio_of c.args.start (sym c.requires.labels) c.requires.columns start
    ∙ ap (λ l. columns_of c.args.setting.lts.now (cycle_of c.args.setting.basis.now) c.args.setting.class c.args.start (map ratio_of l)) c.deref.ensures.value in
    comes_by _ _ scaled_of c.without_denominators.result c.without_denominators.ensures.comes
    (columns_scaled s c.args.start (number_at c.args.counts.now) free (map ratio_of c.deref-2.result.now) found picked)
