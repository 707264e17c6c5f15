use Rattle.std.proofs.Common.{◌≡◌, ◌<◌, Ok, map, length, vec_len, ap, subst, sym, ◌∙◌, arith}
use Rattle.std.proofs.lemmas.List.{length-map}
use Rattle.rg_theory.specs.System.{labels}
use Rattle.rg_integers.specs.Sum.{number_at}
use Rattle.rg_integers.proofs.Casts.{back}
use Rattle.rg_folds.specs.Fold.{whole}
use Rattle.rg_folds.specs.Substitution.{free_labels, substitute_fold, coefficient_fold}
use Rattle.rg_case_folds.specs.Rewriting.{column_count}
use Rattle.rg_case_folds.proofs.Comes.{comes_by}
use Rattle.rg_case_folds.proofs.Items.{each_length}
use Rattle.rg_cycles.specs.View.{labels_of, cycle_of}
use Rattle.rg_cert_data.specs.Sums.{terms_in}
use Rattle.rg_case_parts.specs.SettingViews.{shown_setting}
use Rattle.rg_case_parts.specs.WholeNumbers.{scaled_of}
use Rattle.rg_rows.specs.Columns.{columns_fold}
use Rattle.rg_rows.proofs.Making.{if_comes, columns_told, columns_counted}
use Rattle.rg_rows.proofs.rewriting.over_columns.Goals as goal

pub whole_columns-requires-clause-one_each : goal.whole_columns-requires-clause-one_each
whole_columns-requires-clause-one_each c =
    let n = labels_of c.args.setting.basis.now in
    let cycle = cycle_of c.args.setting.basis.now in
    let sums = rw c.in-Some.is at c.in_ok-free.ensures.sums in
    ap length c.deref-in-Some.ensures.value ∙ sym (length-map c.in-Some.free.items whole)
    ∙ each_length (coefficient_fold n cycle (number_at c.deref.result.now)) (free_labels n cycle) (map whole c.in-Some.free.items) sums

pub returns-in-Some-clause-comes : goal.returns-in-Some-clause-comes
returns-in-Some-clause-comes c =
    let s = shown_setting c.args.setting in
    let n = labels_of c.args.setting.basis.now in
    let counts = number_at c.deref.result.now in
    let read : vec_len c.args.columns.now.used ≡ length c.args.columns.now.used.items = omega arith in
    let size : c.len-labels.result ≡ n = c.len-labels.ensures ∙ read ∙ c.requires.columns.used.one_each ∙ sym c.requires.labels in
    let starts = back c.start-start.result c.start-start.ensures.in_range ∙ c.start-start.ensures.value in
    let sums = rw c.in-Some.is at c.in_ok-free.ensures.sums in
    let found : substitute_fold (labels c.args.setting.lts.now) (cycle_of c.args.setting.basis.now) counts (Ok (map whole c.deref-in-Some.result.now)) =
    rw c.deref-in-Some.ensures.value (subst (λ m. substitute_fold m (cycle_of c.args.setting.basis.now) counts (Ok (map whole c.in-Some.free.items))) c.requires.labels sums) in
    comes_by _ _ scaled_of c.whole_columns.result (c.whole_columns.ensures counts found)
    (columns_told s (terms_in c.args.expression.now.terms) n (sym c.requires.labels) counts
    (λ t lt. ap (λ l. number_at l t) c.deref.ensures.value ∙ c.in_ok-counts.ensures.counts t (subst (λ m. t < m) (sym size) lt))
    _ starts)

pub returns-in-Some-clause-one_each : goal.returns-in-Some-clause-one_each
returns-in-Some-clause-one_each c =
    let s = shown_setting c.args.setting in
    let counts = number_at c.deref.result.now in
    let sums = rw c.in-Some.is at c.in_ok-free.ensures.sums in
    let found : substitute_fold (labels c.args.setting.lts.now) (cycle_of c.args.setting.basis.now) counts (Ok (map whole c.deref-in-Some.result.now)) =
    rw c.deref-in-Some.ensures.value (subst (λ m. substitute_fold m (cycle_of c.args.setting.basis.now) counts (Ok (map whole c.in-Some.free.items))) c.requires.labels sums) in
    if_comes (columns_fold s _ counts) scaled_of (λ scaled. length scaled.numbers ≡ column_count s.lts s.basis s.class)
    (columns_counted s _ counts) c.whole_columns.result (c.whole_columns.ensures counts found)

pub returns-clause-comes : goal.returns-clause-comes
returns-clause-comes c =
    let s = shown_setting c.args.setting in
    let n = labels_of c.args.setting.basis.now in
    let read : vec_len c.args.columns.now.used ≡ length c.args.columns.now.used.items = omega arith in
    let size : c.len-labels.result ≡ n = c.len-labels.ensures ∙ read ∙ c.requires.columns.used.one_each ∙ sym c.requires.labels in
    let starts = back c.start-start.result c.start-start.ensures.in_range ∙ c.start-start.ensures.value in
    comes_by _ _ scaled_of c.scaled_columns.result c.scaled_columns.ensures
    (columns_told s (terms_in c.args.expression.now.terms) n (sym c.requires.labels) (number_at c.deref-in-None.result.now)
    (λ t lt. ap (λ l. number_at l t) c.deref-in-None.ensures.value ∙ c.in_ok-counts.ensures.counts t (subst (λ m. t < m) (sym size) lt))
    _ starts)

pub returns-clause-one_each : goal.returns-clause-one_each
returns-clause-one_each c =
    let s = shown_setting c.args.setting in
    if_comes (columns_fold s _ _) scaled_of (λ scaled. length scaled.numbers ≡ column_count s.lts s.basis s.class) (columns_counted s _ _) c.scaled_columns.result c.scaled_columns.ensures
