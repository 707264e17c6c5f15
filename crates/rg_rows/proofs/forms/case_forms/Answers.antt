use Rattle.std.proofs.Common.{rules, ◌≡◌, ◌++◌, ◌∷◌, [], List, All, Vec, Ok, Err, map, ap, subst, sym, ◌∙◌, if◌then◌else◌}
use Rattle.std.specs.declared.alloc.Global.{Global}
use Rattle.std.proofs.lemmas.List.{map-append, append-nil}
use Rattle.std.proofs.lemmas.List.Elements.{All-nil, All-cons, All-append}
use Rattle.rg_folds.specs.Fold.{each}
use Rattle.rg_case_folds.specs.Rewriting.{form_fold, splits_start}
use Rattle.rg_cert_meaning.specs.declared.Form.{Form as SplitForm}
use Rattle.rg_linear.specs.Branching.{Form}
use Rattle.rg_rows.specs.declared.named_form.NamedForm.{NamedForm}
use Rattle.rg_rows.specs.View.{kept_row, row_in, columns_in}
use Rattle.rg_rows.specs.Forms.{linear_form, split_of, forms_in, case_forms}
use Rattle.rg_rows.specs.Making.{IsMade}
use Rattle.rg_case_folds.proofs.Comes.{comes_unless}
use Rattle.rg_rows.proofs.FormSteps.{each_last, each_last_fails, each_early_fails}
use Rattle.rg_rows.proofs.forms.case_forms.Goals as goal
use Rattle.rg_rows.proofs.forms.case_forms.Goals.{then-splits_start+in_ok-start+in_ok-push, else-splits_start}
use Rattle.rg_cert_meaning.specs.declared.Form.TheVariants as split_form
use Rattle.rg_case_parts.specs.SettingViews.{shown_setting, shown_case}

pub returns-in_err-forms-clause-comes : goal.returns-in_err-forms-clause-comes
returns-in_err-forms-clause-comes c =
    let s = shown_case c.args.c in
    let folds = each (form_fold s.setting) in
    let result : c.from_residual.result ≡ Err c.in_err-forms.field-0.0 = search rules in
    rw result (comes_unless (folds (case_forms s.class s.problem c.args.names.now)) (λ (v : Vec NamedForm Global). map linear_form v.items) c.in_err-forms.field-0.0
    (λ w is. each_early_fails (form_fold s.setting) (forms_in s.class c.args.names.now)
    (if splits_start s.class s.problem then (split_form.Start ∷ []) else []) w (rw is at c.in_err-forms.ensures.comes)))

pub returns-in_err-start-clause-comes : goal.returns-in_err-start-clause-comes
returns-in_err-start-clause-comes c =
    let s = shown_case c.args.c in
    let folds = each (form_fold s.setting) in
    let result : c.from_residual-in_err-start.result ≡ Err c.in_err-start.field-0.0 = search rules in
    let named = forms_in s.class c.args.names.now in
    let splits = sym c.splits_start.ensures ∙ c.if-splits_start.true in
    rw result (comes_unless (folds (case_forms s.class s.problem c.args.names.now)) (λ (v : Vec NamedForm Global). map linear_form v.items) c.in_err-start.field-0.0
    (λ w is. subst (λ b. folds (named ++ (if b then (split_form.Start ∷ []) else [])) (Err w)) (sym splits)
    (each_last_fails (form_fold s.setting) named split_form.Start (map linear_form c.in_ok-forms.forms.items) w c.in_ok-forms.ensures.comes (rw is at c.in_err-start.ensures.comes))))

pub returns-clause-comes : goal.returns-clause-comes
returns-clause-comes c =
    let make = form_fold (shown_setting c.args.c.setting) in
    let named = forms_in c.args.c.setting.class c.args.names.now in
    elim c.if-splits_start.branch [
      | then-splits_start+in_ok-start+in_ok-push w ↦
          let splits = sym c.splits_start.ensures ∙ w.if-splits_start.true in
          subst (λ (v : Vec NamedForm Global). each make (case_forms c.args.c.setting.class c.args.c.problem c.args.names.now) (Ok (map linear_form v.items))) (sym w.forms-is)
          (subst (λ b. each make (named ++ (if b then (split_form.Start ∷ []) else [])) (Ok (map linear_form w.push.new.self.items))) (sym splits)
          (subst (λ (l : List Form). each make (named ++ split_form.Start ∷ []) (Ok l))
          (sym (ap (map linear_form) w.in_ok-push.ensures.items ∙ map-append linear_form c.in_ok-forms.forms.items (w.in_ok-start.start ∷ [])))
          (each_last make named split_form.Start (map linear_form c.in_ok-forms.forms.items) (linear_form w.in_ok-start.start) c.in_ok-forms.ensures.comes w.in_ok-start.ensures.comes)))
      | else-splits_start w ↦
          let splits = sym c.splits_start.ensures ∙ w.if-splits_start.false in
          subst (λ (v : Vec NamedForm Global). each make (case_forms c.args.c.setting.class c.args.c.problem c.args.names.now) (Ok (map linear_form v.items))) (sym w.forms-is)
          (subst (λ b. each make (named ++ (if b then (split_form.Start ∷ []) else [])) (Ok (map linear_form c.in_ok-forms.forms.items))) (sym splits)
          (subst (λ (l : List SplitForm). each make l (Ok (map linear_form c.in_ok-forms.forms.items))) (sym (append-nil named)) c.in_ok-forms.ensures.comes))
    ]

pub returns-clause-forms : goal.returns-clause-forms
returns-clause-forms c =
    let named = forms_in c.args.c.setting.class c.args.names.now in
    elim c.if-splits_start.branch [
      | then-splits_start+in_ok-start+in_ok-push w ↦
          let splits = sym c.splits_start.ensures ∙ w.if-splits_start.true in
          ap (λ (v : Vec NamedForm Global). map split_of v.items) w.forms-is ∙ ap (map split_of) w.in_ok-push.ensures.items ∙ map-append split_of c.in_ok-forms.forms.items (w.in_ok-start.start ∷ [])
          ∙ ap (λ l. l ++ split_of w.in_ok-start.start ∷ []) c.in_ok-forms.ensures.forms ∙ ap (λ x. named ++ x ∷ []) w.in_ok-start.ensures.form
          ∙ ap (λ b. named ++ (if b then (split_form.Start ∷ []) else [])) (sym splits)
      | else-splits_start w ↦
          let splits = sym c.splits_start.ensures ∙ w.if-splits_start.false in
          ap (λ (v : Vec NamedForm Global). map split_of v.items) w.forms-is ∙ c.in_ok-forms.ensures.forms ∙ sym (append-nil named)
          ∙ ap (λ b. named ++ (if b then (split_form.Start ∷ []) else [])) (sym splits)
    ]

pub returns-clause-made : goal.returns-clause-made
returns-clause-made c =
    let s = shown_setting c.args.c.setting in
    let Made = IsMade s.lts s.class (columns_in s) (map kept_row (map row_in c.args.rows.now)) c.args.indices.now in
    elim c.if-splits_start.branch [
      | then-splits_start+in_ok-start+in_ok-push w ↦
          subst (λ (v : Vec NamedForm Global). All Made v.items) (sym w.forms-is)
          (subst (All Made) (sym w.in_ok-push.ensures.items)
          (All-append Made c.in_ok-forms.forms.items (w.in_ok-start.start ∷ []) c.in_ok-forms.ensures.made
          (All-cons Made w.in_ok-start.start [] w.in_ok-start.ensures.made (All-nil Made))))
      | else-splits_start w ↦ subst (λ (v : Vec NamedForm Global). All Made v.items) (sym w.forms-is) c.in_ok-forms.ensures.made
    ]
