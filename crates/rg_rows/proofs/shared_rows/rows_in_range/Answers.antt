use Rattle.std.proofs.Common.{Vec, Global, ◌≡◌, ◌≤◌, List, [], map, length, All, Contains, Ok, ap, subst, sym, ◌∙◌, arith}
use Rattle.std.specs.Prelude.{IsTrue}
use Rattle.std.proofs.lemmas.List.{length-map}
use Rattle.rg_theory.specs.System.{states, labels}
use Rattle.rg_theory.specs.declared.Problem.TheVariants.{Event}
use Rattle.rg_cert_meaning.specs.declared.RowName.{RowName}
use Rattle.rg_cert_meaning.specs.declared.RowName.TheVariants as row_name
use Rattle.rg_case_folds.specs.Setting.{case_at}
use Rattle.rg_folds.specs.Fold.{each}
use Rattle.rg_case_folds.specs.Rewriting.{KeptRow, IsIdle, form_fold}
use Rattle.rg_linear.specs.Firsts.{KeepsEqualRows}
use Rattle.rg_rows.specs.Forms.{linear_form, case_forms}
use Rattle.rg_rows.specs.Making.{IsMade}
use Rattle.rg_case_parts.specs.SettingViews.{shown_setting}
use Rattle.rg_rows.specs.declared.held_row.HeldRow.{HeldRow}
use Rattle.rg_linear.specs.declared.row.Row.{Row}
use Rattle.rg_rows.specs.View.{ShowsRows, kept_row, row_in, columns_in, fold_of, AreNamesWithin, AreIndices}
use Rattle.rg_rows.specs.Sharing.{has_hash, shared_names}
use Rattle.rg_rows.proofs.FormNames.{shared_start_name}
use Rattle.rg_rows.proofs.Forming.{shared_few}
use Rattle.rg_rows.proofs.SharedNames.{shared_within, made_in_each}
use Rattle.rg_rows.proofs.shared_rows.rows_in_range.Goals as goal

pub rows-requires-clause-names : goal.rows-requires-clause-names
rows-requires-clause-names c =
    let s = shown_setting c.args.setting in
    subst (AreNamesWithin (case_at s (Event 0 0) 0)) (sym (c.deref.ensures.value ∙ c.in_ok-names.ensures)) (shared_within s 0 0)

pub firsts-requires : goal.firsts-requires
firsts-requires c =
    let lts = c.args.setting.lts.now in
    let size : length c.in_ok-all.all.items ≡ length (shared_names lts c.args.setting.class) = c.in_ok-all.ensures.few ∙ ap length (c.deref.ensures.value ∙ c.in_ok-names.ensures) in
    let same = ap length c.deref-2.ensures.value in
    let some = shared_few lts c.args.setting.class in
    let wide : states lts ≤ 4096 = c.is_well_formed.ensures.few_states in
    let high : labels lts ≤ 256 = c.is_well_formed.ensures.few_labels in
    omega arith

pub case_forms-requires-clause-names : goal.case_forms-requires-clause-names
case_forms-requires-clause-names c =
    let s = shown_setting c.args.setting in
    subst (AreNamesWithin (case_at s (Event 0 0) 0)) (sym (c.deref-3.ensures.value ∙ c.in_ok-names.ensures)) (shared_within s 0 0)

pub case_forms-requires-clause-rows : goal.case_forms-requires-clause-rows
case_forms-requires-clause-rows c =
    let it = case_at (shown_setting c.args.setting) (Event 0 0) 0 in
    subst (λ (l : List RowName). each (fold_of it) l (Ok (map kept_row (map row_in c.deref-4.result.now)))) (c.deref.ensures.value ∙ sym c.deref-3.ensures.value)
    (subst (λ (l : List HeldRow). each (fold_of it) c.deref.result.now (Ok (map kept_row (map row_in l)))) (sym c.deref-4.ensures.value) c.in_ok-all.ensures.comes)

pub case_forms-requires-clause-one_each : goal.case_forms-requires-clause-one_each
case_forms-requires-clause-one_each c = ap length c.deref-4.ensures.value ∙ c.in_ok-all.ensures.few ∙ ap length (c.deref.ensures.value ∙ sym c.deref-3.ensures.value)

pub case_forms-requires-clause-indices : goal.case_forms-requires-clause-indices
case_forms-requires-clause-indices c =
    let (kept, shows, firsts, indices) = c.in_ok-kept.ensures in
    ap length c.deref-5.ensures.value ∙ indices.one_each ∙ length-map (map row_in c.deref-2.result.now) kept_row
    ∙ length-map c.deref-2.result.now row_in ∙ ap length (c.deref-2.ensures.value ∙ sym c.deref-4.ensures.value)

pub case_forms-requires-clause-start : goal.case_forms-requires-clause-start
case_forms-requires-clause-start c = λ splits.
    let s = shown_setting c.args.setting in
    subst (λ (l : List RowName). Contains l (row_name.Tokens s.lts.initial)) (sym (c.deref-3.ensures.value ∙ c.in_ok-names.ensures))
    (shared_start_name s.lts s.class (Event 0 0) c.is_well_formed.ensures.in_range.initial splits)

pub returns : goal.returns
returns c =
    let s = shown_setting c.args.setting in
    let (kept, shows, firsts, indices) = c.in_ok-kept.ensures in
    let all = map row_in c.in_ok-all.all.items in
    let named = c.deref.ensures.value ∙ c.in_ok-names.ensures in
    let named_again = c.deref-3.ensures.value ∙ c.in_ok-names.ensures in
    let forms = c.in_ok-forms.forms.items in
    let made = subst (λ (l : List RowName). each (fold_of (case_at s (Event 0 0) 0)) l (Ok (map kept_row all))) named c.in_ok-all.ensures.comes in
    record {
      alone = c.requires.alone;
      all = all;
      made = λ problem number. made_in_each s (Event 0 0) problem 0 number (Ok (map kept_row all)) made;
      one_each = c.in_ok-all.ensures.one_each;
      kept = kept;
      shows = subst (λ (rows : Vec Row Global). ShowsRows (record { rows = rows; names = c.in_ok-kept.kept.names; factors = c.in_ok-kept.kept.factors }) kept) (sym c.new.ensures) shows;
      firsts = subst (λ l. KeepsEqualRows (λ k. k.row) IsIdle [] (map kept_row (map row_in l)) kept) c.deref-2.ensures.value firsts;
      hashed = subst (λ l. All (λ (k : KeptRow). IsTrue (has_hash c.in_ok-hashes.field-0.keys k.row)) (map kept_row (map row_in l))) c.deref-6.ensures.value c.in_ok-hashes.ensures;
      indices = c.in_ok-kept.indices.items;
      are_indices = subst (λ l. AreIndices (map kept_row (map row_in l)) kept c.in_ok-kept.indices.items) c.deref-2.ensures.value indices;
      forms_made = subst (λ (l : List RowName). each (form_fold s) (case_forms s.class (Event 0 0) l) (Ok (map linear_form forms))) named_again c.in_ok-forms.ensures.comes;
      splits = c.in_ok-forms.ensures.forms ∙ ap (case_forms s.class (Event 0 0)) named_again;
      are_made = subst (λ l. All (IsMade s.lts s.class (columns_in s) (map kept_row all) l) forms) c.deref-5.ensures.value
          (subst (λ (l : List HeldRow). All (IsMade s.lts s.class (columns_in s) (map kept_row (map row_in l)) c.deref-5.result.now) forms) c.deref-4.ensures.value c.in_ok-forms.ensures.made);
    }
