use Rattle.std.proofs.Common.{map, subst, sym, arith}
use Rattle.rg_cert.specs.declared.table.LineForm.{LineForm}
use Rattle.rg_cert.specs.Lines.{fields_of, HasFieldForm, AreAsked}
use Rattle.rg_cert.specs.View.{line_form_in}
use Rattle.rg_cert.proofs.Forms.{listed}
use Rattle.rg_cert.proofs.table.form_of.Goals as goal

pub returns-clause-none : goal.returns-clause-none
returns-clause-none c =
    λ form is.
    let at = listed form in
    let IsOf : LineForm → Type 0 = λ f. AreAsked HasFieldForm (fields_of (line_form_in f)) (map (λ w. w.now) c.args.texts.now) in
    c.loop-form.invariant at.0 form (omega arith) (subst IsOf (sym at.2) is)
