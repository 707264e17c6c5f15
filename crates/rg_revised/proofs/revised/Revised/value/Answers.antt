use Rattle.std.proofs.Common.{rules, subst, sym, ◌∙◌}
use Rattle.std.specs.Prelude.{FitsSigned}
use Rattle.std.specs.Int.{w128}
use Rattle.std.proofs.lemmas.Int.{to_z-of_z}
use Rattle.rg_linear.specs.View.{linear_row}
use Rattle.rg_revised.specs.View.{RevisedState}
use Rattle.rg_revised.specs.Settling.{IsHeldOf}
use Rattle.rg_revised.proofs.Looping.{row_is}
use Rattle.rg_revised.proofs.revised.Revised.value.Goals as goal

pub row_value-requires : goal.row_value-requires
row_value-requires c =
    let fits : FitsSigned w128 c.args.row.now.constant = search rules in
    let (system, members, i, held, lt, is) = c.requires.held in
    let row = row_is system i (linear_row c.args.row.now) lt is (c.requires.coeffs ∙ held.held.held.count) in
    rw (to_z-of_z w128 c.args.row.now.constant fits, c.deref.ensures.value) (system, members, i, subst (λ (r : RevisedState). IsHeldOf system members r) (sym c.self.view_is) held, row)

pub returns : goal.returns
returns c = λ system members i held lt is.
    let fits : FitsSigned w128 c.args.row.now.constant = search rules in
    let told = rw (to_z-of_z w128 c.args.row.now.constant fits, c.deref.ensures.value) at c.row_value.ensures in
    told system members i (subst (λ (r : RevisedState). IsHeldOf system members r) (sym c.self.view_is) held)
    (row_is system i (linear_row c.args.row.now) lt is (c.requires.coeffs ∙ held.held.held.count))
