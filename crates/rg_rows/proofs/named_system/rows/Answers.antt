use Rattle.std.proofs.Common.{rules, ◌≡◌, ◌+◌, [], ◌∷◌, All, Err, map, length, ap, refl, subst, sym, ◌∙◌, Vec, Global}
use Rattle.std.proofs.lemmas.List.{length-append}
use Rattle.std.proofs.lemmas.List.Elements.{All-nil, All-cons, All-append}
use Rattle.rg_theory.specs.System.{states}
use Rattle.rg_case_folds.specs.Rewriting.{column_count}
use Rattle.rg_cycles.specs.View.{cycle_of}
use Rattle.rg_rows.specs.declared.case_row.CaseRow.{CaseRow}
use Rattle.rg_rows.specs.View.{kept_row, row_in, fold_of}
use Rattle.rg_case_folds.proofs.Items.{map_push, item_next, item_fails, items_end}
use Rattle.rg_folds.specs.Fold.{each}
use Rattle.rg_rows.specs.declared.held_row.HeldRow.{HeldRow}
use Rattle.rg_case_folds.proofs.Comes.{comes_unless}
use Rattle.rg_rows.proofs.Terms.{name_within}
use Rattle.rg_rows.proofs.named_system.rows.Goals as goal
use Rattle.rg_cert_meaning.specs.declared.RowName.TheVariants as row_name
use Rattle.rg_case_parts.specs.SettingViews.{shown_case}

pub row_in_case-requires-clause-within : goal.row_in_case-requires-clause-within
row_in_case-requires-clause-within c = name_within (shown_case c.args.c) c.args.names.now c.loop-name.name-index _ _ (states c.args.c.setting.lts.now) c.requires.names c.loop-name-test.true refl refl

pub returns-in_err-row_in_case-clause-comes : goal.returns-in_err-row_in_case-clause-comes
returns-in_err-row_in_case-clause-comes c =
    let result : c.from_residual-in_err-row_in_case.result ≡ Err c.in_err-row_in_case.field-0.0 = search rules in
    rw result (comes_unless (each (fold_of (shown_case c.args.c)) c.args.names.now) (λ (v : Vec HeldRow Global). map kept_row (map row_in v.items)) c.in_err-row_in_case.field-0.0
    (λ w is. item_fails (fold_of (shown_case c.args.c))
    c.args.names.now c.loop-name.name-index _ (map kept_row (map row_in c.loop-name.rows.items)) c.loop-name.invariant.so_far
    c.loop-name-test.true w (rw is at c.in_err-row_in_case.ensures.comes)))

pub loop-name-preserved : goal.loop-name-preserved
loop-name-preserved c =
    let rows = c.loop-name.rows.items in
    let held = c.in_ok-row_in_case.field-0 in
    let row = row_in held in
    let lengths = λ (r : CaseRow). length r.coeffs.items ≡ column_count c.args.c.setting.lts.now (cycle_of c.args.c.setting.basis.now) c.args.c.setting.class in
    let same = map_push row_in rows c.push.new.self.items held c.in_ok-push.ensures.items in
    let made = c.in_ok-row_in_case.ensures.comes in
    record {
      so_far = rw (map_push kept_row (map row_in rows) (map row_in c.push.new.self.items) row same)
          (item_next (fold_of (shown_case c.args.c))
          c.args.names.now c.loop-name.name-index _ (map kept_row (map row_in rows)) c.loop-name.invariant.so_far
          c.loop-name-test.true (kept_row row) made);
      one_each = subst (All lengths) (sym same) (All-append lengths (map row_in rows) (row ∷ []) c.loop-name.invariant.one_each
          (All-cons lengths row [] c.in_ok-row_in_case.ensures.one_each (All-nil lengths)));
      few = ap length c.in_ok-push.ensures.items ∙ length-append rows (held ∷ []) ∙ ap (λ n. n + 1) c.loop-name.invariant.few;
    }

pub returns-clause-comes : goal.returns-clause-comes
returns-clause-comes c = items_end (fold_of (shown_case c.args.c))
    c.args.names.now c.loop-name.name-index row_name.Block (map kept_row (map row_in c.loop-name.rows.items)) c.loop-name.invariant.so_far
    c.loop-name-test.false
