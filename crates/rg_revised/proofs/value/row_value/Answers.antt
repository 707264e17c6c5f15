use Rattle.std.proofs.Common.{rules, subst, sym, ◌∙◌}
use Rattle.std.specs.Prelude.{FitsSigned}
use Rattle.std.specs.Int.{w64, w128}
use Rattle.std.proofs.lemmas.Int.{to_z-of_z}
use Rattle.rg_integers.proofs.Casts.{back}
use Rattle.rg_fraction.specs.Fractions.{IsValue}
use Rattle.rg_linear.specs.System.{row_variable}
use Rattle.rg_revised.specs.Basis.{row_over}
use Rattle.rg_revised.specs.Held.{column_relation}
use Rattle.rg_revised.proofs.RowRelations.{row_follows}
use Rattle.rg_revised.proofs.ConstantsHeld.{constant_at}
use Rattle.rg_revised.proofs.BasicValues.{relation_value}
use Rattle.rg_integers.proofs.Short.{short_in_range}
use Rattle.rg_revised.proofs.value.row_value.Goals as goal

pub constant-value-requires : goal.constant-value-requires
constant-value-requires c =
    let fk : FitsSigned w128 c.args.constant = search rules in
    rw (to_z-of_z w128 c.args.constant fk) c.requires

pub returns : goal.returns
returns c = λ system members i is row scale v basic.
    let fk : FitsSigned w128 c.args.constant = search rules in
    let fd : FitsSigned w64 c.d.result = search rules in
    let b = c.args.tableau.now.basis in
    let value = rw (to_z-of_z w128 c.args.constant fk) at c.constant-value.ensures.value in
    let same = constant_at b _ _ is.constants system members _ is.held i c.args.coeffs.now c.args.constant row in
    let d = c.from.ensures ∙ to_z-of_z w64 c.d.result fd in
    let shown = rw (back c.constant-value.result c.constant-value.ensures.in_range, d, back c.d.result (short_in_range c.d.result fd), c.d.ensures) at c.new.ensures in
    relation_value system members (row_variable system i) (row_over system b.d (column_relation b) i) (row_follows system members b.d (column_relation b) is.held.held.basis i row.inside) scale v basic
    c.new.result (subst (λ z. IsValue c.new.result z b.d) (value ∙ sym same) shown)
