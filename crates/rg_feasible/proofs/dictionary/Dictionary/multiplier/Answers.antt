use Rattle.std.proofs.Common.{ap, subst, sym, ◌∙◌, arith}
use Rattle.std.specs.Prelude.{pos, ◌≤ℤ◌}
use Rattle.rg_integers.specs.Sum.{number_at}
use Rattle.rg_integers.proofs.Casts.{back}
use Rattle.rg_feasible.specs.View.{DescentState}
use Rattle.rg_feasible.specs.Settling.{IsRefutation, multiplier_with}
use Rattle.rg_feasible.proofs.Shown.{multiplier_not_negative, refuted_row, reads_own, reads_none, reads_at}
use Rattle.rg_integers.proofs.Ranges.{negated}
use Rattle.rg_feasible.proofs.dictionary.Dictionary.multiplier.Goals as goal

pub overflow_add-columns : goal.overflow_add-columns
overflow_add-columns c =
    let (i, refuted) = c.requires.refuted in
    let at = subst (λ (d : DescentState). IsRefutation d i) (sym c.self.view_is) refuted in
    let lt = (refuted_row _ i c.in-Some.failing at c.in-Some.is).0 in
    let few = c.self.invariant.few in
    let columns = c.columns-columns.ensures in
    record { fits = omega arith }

pub numbers-numbers-requires : goal.numbers-numbers-requires
numbers-numbers-requires c =
    let (i, refuted) = c.requires.refuted in
    let at = subst (λ (d : DescentState). IsRefutation d i) (sym c.self.view_is) refuted in
    rw c.columns-columns.ensures (refuted_row _ i c.in-Some.failing at c.in-Some.is)

pub returns-then-row-failing-clause-value : goal.returns-then-row-failing-clause-value
returns-then-row-failing-clause-value c = λ i refuted.
    let at = subst (λ (d : DescentState). IsRefutation d i) (sym c.self.view_is) refuted in
    let row = rw c.columns-columns.ensures at c.numbers-numbers.ensures.row in
    back (number_at c.numbers-numbers.result.now 0) (c.numbers-numbers.ensures.in_range 0)
    ∙ reads_own _ i c.in-Some.failing c.args.row at c.in-Some.is c.numbers-numbers.result.now row c.if-row-failing.true
    ∙ ap (λ (d : DescentState). multiplier_with d.table i c.args.row) c.self.view_is

pub returns-then-row-failing-clause-not_negative : goal.returns-then-row-failing-clause-not_negative
returns-then-row-failing-clause-not_negative c =
    let (i, refuted) = c.requires.refuted in
    subst (λ z. pos 0 ≤ℤ z) (sym (returns-then-row-failing-clause-value c i refuted)) (multiplier_not_negative c.args.self.now i c.args.row refuted c.requires.row)

pub returns-in-Some-index_of-clause-value : goal.returns-in-Some-index_of-clause-value
returns-in-Some-index_of-clause-value c = λ i refuted.
    let at = subst (λ (d : DescentState). IsRefutation d i) (sym c.self.view_is) refuted in
    let row = rw c.columns-columns.ensures at c.numbers-numbers.ensures.row in
    let found = rw (c.columns-columns.ensures, c.members.ensures) at c.in-Some-index_of.ensures.found in
    let first = rw (c.columns-columns.ensures, c.members.ensures) at c.in-Some-index_of.ensures.first in
    negated (number_at c.numbers-numbers.result.now _) (c.numbers-numbers.ensures.in_range _)
    ∙ reads_at _ i c.in-Some.failing c.args.row at c.in-Some.is c.numbers-numbers.result.now row c.in-Some-index_of.index c.if-row-failing.false c.numbers-numbers.ensures.length found.0 found.1 first
    ∙ ap (λ (d : DescentState). multiplier_with d.table i c.args.row) c.self.view_is

pub returns-in-Some-index_of-clause-not_negative : goal.returns-in-Some-index_of-clause-not_negative
returns-in-Some-index_of-clause-not_negative c =
    let (i, refuted) = c.requires.refuted in
    subst (λ z. pos 0 ≤ℤ z) (sym (returns-in-Some-index_of-clause-value c i refuted)) (multiplier_not_negative c.args.self.now i c.args.row refuted c.requires.row)

pub returns-in-None-clause-value : goal.returns-in-None-clause-value
returns-in-None-clause-value c = λ i refuted.
    let at = subst (λ (d : DescentState). IsRefutation d i) (sym c.self.view_is) refuted in
    let row = rw c.columns-columns.ensures at c.numbers-numbers.ensures.row in
    let none = rw (c.columns-columns.ensures, c.members.ensures) at c.in-None.ensures.none in
    reads_none _ i c.in-Some.failing c.args.row at c.in-Some.is c.numbers-numbers.result.now row c.if-row-failing.false none
    ∙ ap (λ (d : DescentState). multiplier_with d.table i c.args.row) c.self.view_is
