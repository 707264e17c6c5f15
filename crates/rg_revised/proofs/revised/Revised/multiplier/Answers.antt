use Rattle.std.proofs.Common.{rules, subst, sym, ◌∙◌}
use Rattle.std.specs.Prelude.{FitsSigned, unsigned_abs}
use Rattle.std.specs.Int.{w64, ◌∣◌}
use Rattle.std.proofs.lemmas.Int.{to_z-of_z}
use Rattle.rg_integers.proofs.Casts.{back}
use Rattle.rg_integers.proofs.Ranges.{negated}
use Rattle.rg_revised.specs.View.{RevisedState}
use Rattle.rg_revised.specs.Settling.{IsRefutedAt}
use Rattle.rg_revised.proofs.Multipliers.{divides_over, divides_number, failing_row, slot_row, other_row, same_row}
use Rattle.rg_revised.proofs.revised.Revised.multiplier.Goals as goal

pub divide_by_factor-requires-clause-divides : goal.divide_by_factor-requires-clause-divides
divide_by_factor-requires-clause-divides c =
    let (system, members, i, refuted) = c.requires.refuted in
    let at = subst (λ (r : RevisedState). IsRefutedAt system members i r) (sym c.self.view_is) refuted in
    let fits : FitsSigned w64 c.over.result = search rules in
    rw (back c.self.inside.factor c.self.invariant.factor_in_range, to_z-of_z w64 c.over.result fits, c.over.ensures) (divides_over system members i _ at)

pub returns-then-row-failing : goal.returns-then-row-failing
returns-then-row-failing c = λ system members i k refuted row.
    let at = subst (λ (r : RevisedState). IsRefutedAt system members i r) (sym c.self.view_is) refuted in
    let fits : FitsSigned w64 c.over.result = search rules in
    let value = rw (back c.self.inside.factor c.self.invariant.factor_in_range, to_z-of_z w64 c.over.result fits, c.over.ensures) at c.divide_by_factor.ensures.value in
    back c.divide_by_factor.result c.divide_by_factor.ensures.in_range
    ∙ failing_row system members i _ at k row c.args.row c.divide_by_factor.result (c.if-row-failing.true ∙ same_row _ c.in-Some.failing i c.in-Some.is at.failing) value

pub divide_by_factor-requires-in-Some-number_of-clause-divides : goal.divide_by_factor-requires-in-Some-number_of-clause-divides
divide_by_factor-requires-in-Some-number_of-clause-divides c =
    let (system, members, i, refuted) = c.requires.refuted in
    let at = subst (λ (r : RevisedState). IsRefutedAt system members i r) (sym c.self.view_is) refuted in
    let (slot, lt, held, is) = c.in-Some-number_of.ensures.found in
    let fits : FitsSigned w64 c.in-Some-number_of.number = search rules in
    rw (back c.self.inside.factor c.self.invariant.factor_in_range, to_z-of_z w64 c.in-Some-number_of.number fits)
    (subst (λ z. unsigned_abs c.self.inside.factor ∣ unsigned_abs z) (sym is) (divides_number system members i _ at slot lt))

pub returns-in-Some-number_of : goal.returns-in-Some-number_of
returns-in-Some-number_of c = λ system members i k refuted row.
    let at = subst (λ (r : RevisedState). IsRefutedAt system members i r) (sym c.self.view_is) refuted in
    let (slot, lt, held, is) = rw c.columns.ensures at c.in-Some-number_of.ensures.found in
    let fits : FitsSigned w64 c.in-Some-number_of.number = search rules in
    let value = rw (back c.self.inside.factor c.self.invariant.factor_in_range, to_z-of_z w64 c.in-Some-number_of.number fits) at c.divide_by_factor-in-Some-number_of.ensures.value in
    negated c.divide_by_factor-in-Some-number_of.result c.divide_by_factor-in-Some-number_of.ensures.in_range
    ∙ slot_row system members i _ at k row c.args.row slot c.divide_by_factor-in-Some-number_of.result
    (λ e. c.if-row-failing.false (e ∙ sym (same_row _ c.in-Some.failing i c.in-Some.is at.failing))) lt held (value ∙ is)

pub returns-in-None : goal.returns-in-None
returns-in-None c = λ system members i k refuted row.
    let at = subst (λ (r : RevisedState). IsRefutedAt system members i r) (sym c.self.view_is) refuted in
    other_row system members i _ at k row c.args.row (λ e. c.if-row-failing.false (e ∙ sym (same_row _ c.in-Some.failing i c.in-Some.is at.failing)))
    (rw c.columns.ensures at c.in-None.ensures.none)
