use Rattle.std.proofs.Common.{rules, ◌<◌, length, ap, subst, sym, ◌∙◌}
use Rattle.std.specs.Prelude.{pos, FitsSigned}
use Rattle.std.specs.Int.{w64}
use Rattle.std.proofs.lemmas.Int.{to_z-of_z}
use Rattle.std.proofs.lemmas.List.{get_or_default}
use Rattle.rg_integers.proofs.Casts.{back}
use Rattle.rg_fraction.specs.Fractions.{IsValue}
use Rattle.rg_integers.proofs.Short.{short_in_range}
use Rattle.rg_revised.specs.Held.{column_relation}
use Rattle.rg_revised.specs.View.{TableauState}
use Rattle.rg_revised.specs.State.{IsTableauOf}
use Rattle.rg_revised.proofs.BasicValues.{relation_value}
use Rattle.rg_revised.proofs.value.column_value.Goals as goal

pub returns : goal.returns
returns c = λ system members is scale v basic.
    let at = subst (IsTableauOf system members) (sym c.tableau.view_is) is in
    let lt = subst (λ (t : TableauState). c.args.t < length t.basis.slots) (sym c.tableau.view_is) c.requires.column in
    let below = subst (λ n. c.args.t < n) (sym at.constants.size) lt in
    let fv : FitsSigned w64 c.index-value.result.now = search rules in
    let fd : FitsSigned w64 c.d.result = search rules in
    let value = c.index-value.ensures ∙ get_or_default c.tableau.inside.constants.items c.args.t c.index-value.result.now (pos 0) below in
    let x = c.from.ensures ∙ to_z-of_z w64 c.index-value.result.now fv in
    let d = c.from-2.ensures ∙ to_z-of_z w64 c.d.result fd in
    let same = c.d.ensures ∙ ap (λ (t : TableauState). t.basis.d) (sym c.tableau.view_is) in
    let shown = rw (
      x,
      d,
      back c.index-value.result.now (short_in_range c.index-value.result.now fv),
      back c.d.result (short_in_range c.d.result fd),
      same,
      value,
    ) at c.new.ensures in
    let b = c.tableau.inside.basis in
    relation_value system members c.args.t (column_relation b c.args.t) (at.held.held.basis.columns c.args.t (subst (λ n. c.args.t < n) at.held.held.count lt)) scale v basic c.new.result
    (subst (λ z. IsValue c.new.result z b.d) (at.constants.values c.args.t lt) shown)
