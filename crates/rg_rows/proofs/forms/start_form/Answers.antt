use Rattle.std.proofs.Common.{rules, ◌≡◌, ◌<◌, All, Err, map, length, ap, subst, sym, ◌∙◌}
use Rattle.std.proofs.lemmas.List.{length-map}
use Rattle.rg_integers.specs.Range.{InRange}
use Rattle.rg_integers.proofs.Casts.{back}
use Rattle.rg_case_parts.specs.SettingViews.{shown_case}
use Rattle.rg_case_folds.specs.Rewriting.{column_count, form_fold}
use Rattle.rg_rows.specs.View.{row_in, terms_of}
use Rattle.rg_rows.specs.Forms.{linear_form}
use Rattle.rg_cert_meaning.specs.declared.Form.TheVariants as split_form
use Rattle.rg_case_folds.proofs.Comes.{comes_unless}
use Rattle.rg_rows.proofs.Sharing.{held_is}
use Rattle.rg_rows.proofs.Starts.{start_made, start_fails, start_times, start_is_made}
use Rattle.rg_rows.proofs.forms.start_form.Goals as goal

pub returns-in_err-terms-clause-comes : goal.returns-in_err-terms-clause-comes
returns-in_err-terms-clause-comes c =
    let s = shown_case c.args.c in
    let result : c.from_residual.result ≡ Err c.in_err-terms.field-0.0 = search rules in
    rw result (comes_unless (form_fold s.setting split_form.Start) linear_form c.in_err-terms.field-0.0
    (λ w is. start_fails s c.initial.result w c.initial.ensures.value (rw is at c.in_err-terms.ensures.comes)))

pub form_over-form-requires : goal.form_over-form-requires
form_over-form-requires c =
    let s = shown_case c.args.c in
    let row = c.row.result.now in
    let i = c.index_of-i.result in
    let below = subst (λ n. i < n) (sym c.requires.one_each) c.index_of-i.ensures.within in
    start_times s c.args.names.now (map row_in c.args.rows.now) i c.initial.result c.initial.ensures.value c.index_of-i.ensures.within
    c.index_of-i.ensures.here (simp length-map below) c.requires.rows row
    (held_is c.args.rows.now i c.index-rows-i.result row below c.index-rows-i.is c.row.ensures) (terms_of c.in_ok-terms.terms) c.in_ok-terms.ensures.comes

pub returns-clause-comes : goal.returns-clause-comes
returns-clause-comes c =
    let s = shown_case c.args.c in
    let f = c.form_over-form.result in
    let scale = c.form_over-form.ensures.numbers.0 ∙ back c.start_scale-scale.result c.start_scale-scale.ensures.in_range ∙ c.start_scale-scale.ensures.value in
    start_made s c.initial.result (terms_of c.in_ok-terms.terms) f c.initial.ensures.value c.requires.tree.tree
    c.in_ok-terms.ensures.comes scale c.form_over-form.ensures.numbers.1 c.form_over-form.ensures.bounds.0 c.form_over-form.ensures.bounds.1

pub returns-clause-made : goal.returns-clause-made
returns-clause-made c =
    let s = shown_case c.args.c in
    let f = c.form_over-form.result in
    let i = c.index_of-i.result in
    let row = c.row.result.now in
    let below = subst (λ n. i < n) (sym c.requires.one_each) c.index_of-i.ensures.within in
    let cast = c.form_over-form.ensures.numbers.0 ∙ back c.start_scale-scale.result c.start_scale-scale.ensures.in_range in
    start_is_made s c.args.names.now (map row_in c.args.rows.now) i c.initial.result c.initial.ensures.value c.index_of-i.ensures.within
    c.index_of-i.ensures.here (simp length-map below) c.requires.rows row
    (held_is c.args.rows.now i c.index-rows-i.result row below c.index-rows-i.is c.row.ensures)
    (column_count s.lts s.basis s.class) c.args.indices.now f c.form_over-form.ensures.form c.form_over-form.ensures.row
    (cast ∙ c.start_scale-scale.ensures.value) c.form_over-form.ensures.bounds.0 c.form_over-form.ensures.bounds.1 (ap length c.form_over-form.ensures.numbers.1 ∙ c.in_ok-terms.ensures.one_each)
    (subst InRange (sym cast) c.start_scale-scale.ensures.in_range)
    (subst (All InRange) (sym c.form_over-form.ensures.numbers.1) c.in_ok-terms.terms.coeffs_in_range) c.form_over-form.ensures.in_range
