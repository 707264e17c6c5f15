use Rattle.std.proofs.Common.{rules, ◌≡◌, ◌+◌, ◌<◌, ◌++◌, ◌∷◌, [], List, All, Result, Vec, Err, map, drop, length, ap, refl, subst, sym, ◌∙◌}
use Rattle.std.specs.declared.alloc.Global.{Global}
use Rattle.std.proofs.lemmas.List.{length-map, map-append}
use Rattle.std.proofs.lemmas.List.Elements.{All-nil, All-cons, All-append}
use Rattle.rg_case_folds.specs.Rewriting.{column_count, form_fold}
use Rattle.rg_integers.specs.Range.{InRange}
use Rattle.rg_integers.proofs.Casts.{back}
use Rattle.std.specs.Prelude.{pos, ◌<ℤ◌}
use Rattle.rg_case_parts.specs.SettingViews.{shown_setting, shown_case}
use Rattle.rg_theory.specs.System.{states}
use Rattle.rg_folds.proofs.Folding.{behind}
use Rattle.rg_integers.specs.declared.term.Wide.{Wide}
use Rattle.rg_linear.specs.Branching.{Form}
use Rattle.rg_cert_meaning.specs.declared.Form.{Form as SplitForm}
use Rattle.rg_folds.specs.Fold.{each}
use Rattle.rg_rows.specs.declared.named_form.NamedForm.{NamedForm}
use Rattle.rg_rows.specs.View.{kept_row, row_in, terms_of}
use Rattle.rg_rows.specs.Forms.{linear_form, split_of, forms_in}
use Rattle.rg_rows.specs.Making.{IsMade}
use Rattle.rg_case_folds.proofs.Comes.{comes_unless}
use Rattle.rg_rows.proofs.Terms.{name_within}
use Rattle.rg_rows.proofs.Sharing.{held_is}
use Rattle.rg_rows.proofs.FormSteps.{Keeps, next_name, step_fails, step_next, step_named, step_times, step_made, form_skips, named_skips, forms_end, named_end}
use Rattle.rg_rows.proofs.forms.forms.Goals as goal
use Rattle.rg_rows.proofs.forms.forms.Goals.{in-Some+in_ok-terms+in_ok-push, in_default}

pub terms_in_case-requires-clause-within : goal.terms_in_case-requires-clause-within
terms_in_case-requires-clause-within c = name_within (shown_case c.args.c) c.args.names.now c.loop-i.i _ _ (states c.args.c.setting.lts.now) c.requires.names c.loop-i-test.true refl refl

pub returns-in_err-terms-clause-comes : goal.returns-in_err-terms-clause-comes
returns-in_err-terms-clause-comes c =
    let result : c.from_residual-in_err-terms.result ≡ Err c.in_err-terms.field-0.0 = search rules in
    let s = shown_case c.args.c in
    rw result (comes_unless (each (form_fold s.setting) (forms_in s.class c.args.names.now)) (λ (v : Vec NamedForm Global). map linear_form v.items) c.in_err-terms.field-0.0
    (λ w is. step_fails s c.args.names.now c.loop-i.i _ c.loop-i-test.true c.in-Some.form c.in-Some.ensures _ refl (map linear_form c.loop-i.forms.items) c.loop-i.invariant.so_far w
    (rw is at c.in_err-terms.ensures.comes)))

pub form_over-named-requires : goal.form_over-named-requires
form_over-named-requires c =
    let row = c.row.result.now in
    let below = subst (λ n. c.loop-i.i < n) (sym c.requires.one_each) c.loop-i-test.true in
    step_times (shown_case c.args.c) c.args.names.now c.loop-i.i _
    c.loop-i-test.true c.in-Some.form c.in-Some.ensures _ refl (map row_in c.args.rows.now) (simp length-map below) c.requires.rows row
    (held_is c.args.rows.now c.loop-i.i c.index-rows-i.result row below c.index-rows-i.is c.row.ensures)
    (terms_of c.in_ok-terms.terms) c.in_ok-terms.ensures.comes

pub loop-i-preserved : goal.loop-i-preserved
loop-i-preserved c =
    let s = shown_case c.args.c in
    let columns = column_count s.lts s.basis s.class in
    let rows = map row_in c.args.rows.now in
    let Made = IsMade s.lts s.class columns (map kept_row rows) c.args.indices.now in
    let below = subst (λ n. c.loop-i.i < n) (sym c.requires.one_each) c.loop-i-test.true in
    elim c.match-form_named.branch [
      | in-Some+in_ok-terms+in_ok-push w ↦
          (let f = w.form_over-named.result in
          let terms = w.in_ok-terms.terms in
          let pushed = w.in_ok-push.ensures.items in
          let row = w.row.result.now in
          let scale = w.form_over-named.ensures.numbers.0 ∙ back terms.multiple terms.multiple_in_range in
          let one = step_made s c.args.names.now c.loop-i.i _ c.loop-i-test.true w.in-Some.form w.in-Some.ensures _ refl rows
          (simp length-map below) c.requires.rows row (held_is c.args.rows.now c.loop-i.i w.index-rows-i.result row below w.index-rows-i.is w.row.ensures) columns
          c.args.indices.now f w.form_over-named.ensures.form w.form_over-named.ensures.row w.form_over-named.ensures.bounds
          (ap length w.form_over-named.ensures.numbers.1 ∙ w.in_ok-terms.ensures.one_each)
          (λ bound. subst (λ z. pos 0 <ℤ z) (sym scale) terms.positive)
          (subst InRange (sym scale) terms.multiple_in_range)
          (subst (All InRange) (sym w.form_over-named.ensures.numbers.1) terms.coeffs_in_range)
          w.form_over-named.ensures.in_range in
          subst (λ (v : Vec NamedForm Global). Keeps s.setting c.args.names.now rows c.args.indices.now (c.loop-i.i + 1) v.items) (sym w.forms-is)
          (subst (Keeps s.setting c.args.names.now rows c.args.indices.now (c.loop-i.i + 1)) (sym pushed)
          (record {
            so_far = subst (λ (xs : List Form). (r : Result (List Form) Wide)
                → each (form_fold s.setting) (forms_in s.class (drop (c.loop-i.i + 1) c.args.names.now)) r
                → each (form_fold s.setting) (forms_in s.class c.args.names.now) (behind xs r))
                (sym (map-append linear_form c.loop-i.forms.items (f ∷ [])))
                (step_next s c.args.names.now c.loop-i.i _ c.loop-i-test.true w.in-Some.form w.in-Some.ensures _ refl
                (map linear_form c.loop-i.forms.items) c.loop-i.invariant.so_far f
                (terms_of terms) w.in_ok-terms.ensures.comes scale w.form_over-named.ensures.numbers.1 w.form_over-named.ensures.bounds.0 w.form_over-named.ensures.bounds.1);
            splits = subst (λ (xs : List SplitForm). xs ++ forms_in s.class (drop (c.loop-i.i + 1) c.args.names.now)
                ≡ forms_in s.class c.args.names.now) (sym (map-append split_of c.loop-i.forms.items (f ∷ [])))
                (step_named s c.args.names.now c.loop-i.i _ c.loop-i-test.true w.in-Some.form w.in-Some.ensures _ refl
                (map split_of c.loop-i.forms.items) c.loop-i.invariant.splits f w.form_over-named.ensures.form);
            made = All-append Made c.loop-i.forms.items (f ∷ []) c.loop-i.invariant.made (All-cons Made f [] one (All-nil Made));
          })))
      | in_default w ↦
          (let none = sym w.in_default.ensures in
          let next = next_name s c.args.names.now c.loop-i.i _ c.loop-i-test.true in
          subst (λ (v : Vec NamedForm Global). Keeps s.setting c.args.names.now rows c.args.indices.now (c.loop-i.i + 1) v.items) (sym w.forms-is)
          (record {
            so_far = form_skips s.class (form_fold s.setting) c.args.names.now c.loop-i.i _ next (map linear_form c.loop-i.forms.items) c.loop-i.invariant.so_far none;
            splits = named_skips s.class c.args.names.now c.loop-i.i _ next (map split_of c.loop-i.forms.items) c.loop-i.invariant.splits none;
            made = c.loop-i.invariant.made;
          }))
    ]

pub returns-clause-comes : goal.returns-clause-comes
returns-clause-comes c =
    let s = shown_setting c.args.c.setting in
    forms_end s.class (form_fold s) c.args.names.now c.loop-i.i (map linear_form c.loop-i.forms.items) c.loop-i.invariant.so_far c.loop-i-test.false

pub returns-clause-forms : goal.returns-clause-forms
returns-clause-forms c = named_end c.args.c.setting.class c.args.names.now c.loop-i.i (map split_of c.loop-i.forms.items) c.loop-i.invariant.splits c.loop-i-test.false
