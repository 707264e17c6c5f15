use Rattle.std.proofs.Common.{rules, ◌≡◌, ap, subst, sym, ◌∙◌, arith}
use Rattle.std.specs.Prelude.{FitsSigned}
use Rattle.std.specs.Int.{w64, w128}
use Rattle.std.proofs.lemmas.Int.{to_z-of_z}
use Rattle.rg_integers.proofs.Casts.{back}
use Rattle.rg_revised.specs.Reading.{constant_over}
use Rattle.rg_revised.specs.View.{TableauState}
use Rattle.rg_revised.specs.State.{IsTableauOf}
use Rattle.rg_revised.proofs.Advancing.{short_room}
use Rattle.rg_revised.proofs.Stepping.{small_row, summable_row}
use Rattle.rg_revised.proofs.ConstantsHeld.{constants_small}
use Rattle.rg_revised.proofs.tableau.Tableau.constant.Goals as goal

pub long_constant_of-requires : goal.long_constant_of-requires
long_constant_of-requires c =
    let fk : FitsSigned w128 c.args.constant = search rules in
    let fd : FitsSigned w64 c.d-d.result = search rules in
    let (system, members, i, is, row) = c.requires in
    let at = subst (IsTableauOf system members) (sym c.self.view_is) is in
    rw (c.deref.ensures.value, c.deref-then-self.ensures.value, to_z-of_z w128 c.args.constant fk, to_z-of_z w64 c.d-d.result fd, c.d-d.ensures) (record {
      named = at.constants.named_are;
      inside = at.constants.inside;
      columns = at.constants.size ∙ at.held.held.count ∙ sym row.each;
      short = (let a = at.constants.short in let b = c.self.invariant.few in let e = c.self.invariant.constants in omega arith);
      small = (_, _, summable_row system members _ _ at.held i _ _ row _ _ at.room, constants_small _ _ _ at.constants _ _ _ at.held, at.held.d_within);
    })

pub constant_of-requires : goal.constant_of-requires
constant_of-requires c =
    let fk : FitsSigned w128 c.args.constant = search rules in
    let fd : FitsSigned w64 c.d-d.result = search rules in
    let (system, members, i, is, row) = c.requires in
    let at = subst (IsTableauOf system members) (sym c.self.view_is) is in
    let (norm, small) = small_row system members _ _ at.held i _ _ row (short_room system members _ c.if-self.false at) in
    rw (c.deref-2.ensures.value, c.deref-3.ensures.value, to_z-of_z w128 c.args.constant fk, to_z-of_z w64 c.d-d.result fd, c.d-d.ensures) (record {
      named = at.constants.named_are;
      inside = at.constants.inside;
      columns = at.constants.size ∙ at.held.held.count ∙ sym row.each;
      short = (let a = at.constants.short in let b = c.self.invariant.few in let e = c.self.invariant.constants in omega arith);
      small = (norm, _, small, constants_small _ _ _ at.constants _ _ _ at.held, at.held.d_within);
    })

pub returns-then-self-clause-value : goal.returns-then-self-clause-value
returns-then-self-clause-value c =
    let fk : FitsSigned w128 c.args.constant = search rules in
    let fd : FitsSigned w64 c.d-d.result = search rules in
    let is : c.long_constant_of.result ≡ constant_over c.args.coeffs.now c.self.inside.constants.items c.args.constant c.self.inside.basis.d =
    rw (c.deref-then-self.ensures.value, to_z-of_z w128 c.args.constant fk, to_z-of_z w64 c.d-d.result fd, c.d-d.ensures) at c.long_constant_of.ensures.value in
    back c.long_constant_of.result c.long_constant_of.ensures.in_range ∙ is ∙ ap (λ (t : TableauState). constant_over c.args.coeffs.now t.constants c.args.constant t.basis.d) c.self.view_is

pub returns-clause-value : goal.returns-clause-value
returns-clause-value c =
    let fk : FitsSigned w128 c.args.constant = search rules in
    let fd : FitsSigned w64 c.d-d.result = search rules in
    let is : c.constant_of.result ≡ constant_over c.args.coeffs.now c.self.inside.constants.items c.args.constant c.self.inside.basis.d =
    rw (c.deref-3.ensures.value, to_z-of_z w128 c.args.constant fk, to_z-of_z w64 c.d-d.result fd, c.d-d.ensures) at c.constant_of.ensures.value in
    back c.constant_of.result c.constant_of.ensures.in_range ∙ is ∙ ap (λ (t : TableauState). constant_over c.args.coeffs.now t.constants c.args.constant t.basis.d) c.self.view_is
