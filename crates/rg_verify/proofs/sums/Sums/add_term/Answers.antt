use Rattle.std.proofs.Common.{Some, sym, ap, ◌∙◌, if◌then◌else◌}
use Rattle.rg_integers.proofs.Casts.{back}
use Rattle.rg_cert_meaning.specs.Expression.{same_variable}
use Rattle.rg_cert_meaning.specs.declared.Variable.{Variable}
use Rattle.rg_cert_data.specs.Sums.{term_of}
use Rattle.rg_verify.specs.Sums.{entry_of}
use Rattle.rg_verify.proofs.Tables.{tidy_set}
use Rattle.rg_verify.proofs.Adding.{adds_term}
use Rattle.rg_verify.proofs.sums.Sums.add_term.Goals as goal

pub returns-clause-tidy : goal.returns-clause-tidy
returns-clause-tidy c =
    tidy_set c.touch.new.self c.set.new.self c.variable-variable.result c.in-Some.sum c.touch.ensures.tidy c.set.ensures.variables
    c.set.ensures.entries c.set.ensures.touched c.in_ok-touch.ensures.listed

pub returns-clause-ok : goal.returns-clause-ok
returns-clause-ok c =
    let value = rw (back c.args.multiplier c.requires.multiplier) at c.times.ensures.value in
    let more = rw (back c.times.result c.times.ensures.in_range) at c.in-Some.ensures in
    let is = c.variable-variable.ensures in
    adds_term c.args.multiplier (term_of c.args.term) c.times.result c.args.self.now c.touch.new.self c.set.new.self c.get.result c.in-Some.sum value
    (ap (entry_of c.args.self.now) (sym is) ∙ c.get.ensures) more.0 more.1
    c.touch.ensures.same c.touch.ensures.constant (λ w. c.set.ensures.entries w
    ∙ ap (λ (v : Variable). if same_variable v w then Some c.in-Some.sum else entry_of c.touch.new.self w) is) c.set.ensures.constant
