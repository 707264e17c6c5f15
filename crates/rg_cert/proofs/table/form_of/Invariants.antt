use Rattle.std.proofs.Common.{ℕ, ◌<◌, get_or, map}
use Rattle.rg_cert.specs.declared.table.LineForm.{LineForm}
use Rattle.rg_cert.specs.Lines.{fields_of, HasFieldForm, AreAsked}
use Rattle.rg_cert.specs.View.{line_form_in}
use Rattle.rg_cert.proofs.table.form_of.Given as goal

abbrev pub invariant-loop-form : goal.invariant-loop-form
invariant-loop-form l = (k : ℕ) (d : LineForm) → k < l.form-index → ¬ AreAsked HasFieldForm (fields_of (line_form_in (get_or l.form-items k d))) (map (λ w. w.now) l.texts)
