use Rattle.std.proofs.Common.{ap, subst, sym, ◌∙◌}
use Rattle.rg_integers.specs.Sum.{number_at}
use Rattle.rg_integers.proofs.Casts.{back}
use Rattle.rg_feasible.specs.View.{DescentState}
use Rattle.rg_feasible.specs.Settling.{IsDictionaryOf}
use Rattle.rg_linear.specs.Descent.{IsBasicPoint}
use Rattle.rg_feasible.proofs.Shown.{value_outside}
use Rattle.rg_feasible.proofs.dictionary.Dictionary.point.Goals as goal

pub returns : goal.returns
returns c = λ system whole scale v basic.
    let old = subst (IsDictionaryOf system) (sym c.self.view_is) whole in
    let at = subst (λ (d : DescentState). IsBasicPoint system d.table.members scale v) (sym c.self.view_is) basic in
    let shows = c.numbers-numbers.ensures.shows system old in
    let constant = back (number_at c.numbers-numbers.result.now 1) (c.numbers-numbers.ensures.in_range 1) ∙ ap (λ xs. number_at xs 1) shows.shown in
    let divisor = back (number_at c.numbers-numbers.result.now 0) (c.numbers-numbers.ensures.in_range 0) ∙ ap (λ xs. number_at xs 0) shows.shown in
    value_outside system c.self.inside.table.members c.args.j shows.k shows.row scale v at c.new-2.result (rw (constant, divisor) at c.new-2.ensures)
