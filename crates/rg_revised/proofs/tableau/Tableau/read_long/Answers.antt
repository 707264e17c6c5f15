use Rattle.std.proofs.Common.{rules, ◌≡◌, ◌+◌, ◌∷◌, List, length, ap, subst, sym, ◌∙◌}
use Rattle.std.specs.Prelude.{ℤ, FitsSigned}
use Rattle.std.specs.Vec.{with_items}
use Rattle.std.specs.Int.{w64, w128}
use Rattle.std.proofs.lemmas.Bool.{false≢true}
use Rattle.std.proofs.lemmas.Int.{to_z-of_z}
use Rattle.std.proofs.lemmas.List.{with_items_is}
use Rattle.rg_fraction.specs.Rows.{IsPrimitivePart}
use Rattle.rg_revised.specs.View.{TableauState}
use Rattle.rg_revised.specs.State.{IsTableauOf}
use Rattle.rg_revised.proofs.Advancing.{long_read}
use Rattle.rg_revised.proofs.tableau.Tableau.read_long.Goals as goal

pub returns-in-Some-clause-read : goal.returns-in-Some-clause-read
returns-in-Some-clause-read c = λ yes system members i is row.
    let fk : FitsSigned w128 c.args.constant = search rules in
    let fo : FitsSigned w64 c.in-Some.over = search rules in
    let at = subst (IsTableauOf system members) (sym c.self.view_is) is in
    let (raw, same, summed) = c.sum.ensures.sums in
    let read = rw (to_z-of_z w128 c.args.constant fk) at summed in
    let sums = with_items_is c.self.inside.sums c.sum.new.sums (c.sum.auto.sums ∙ c.deref_mut.ensures.len) in
    let (g, whole) = c.reduce.ensures.part in
    let part : IsPrimitivePart (c.self.inside.basis.d ∷ raw) c.reduce.new.q g = rw (c.deref_mut-2.ensures.value, sums, same) at whole in
    let q = with_items_is (with_items c.self.inside.sums c.sum.new.sums) c.reduce.new.q (c.reduce.auto.q ∙ c.deref_mut-2.ensures.len) in
    let narrowed = rw (c.deref.ensures.value, q) at c.in-Some.ensures.narrowed in
    let numbers = with_items_is c.self.inside.numbers c.narrow.new.numbers (c.narrow.auto.numbers ∙ c.deref_mut-3.ensures.len) in
    let width : length c.narrow.new.numbers ≡ length c.self.inside.basis.slots + 1 =
    c.in-Some.ensures.same_length ∙ ap (λ (xs : List ℤ). length xs) c.deref_mut-3.ensures.value ∙ c.self.invariant.numbers in
    rw (to_z-of_z w64 c.in-Some.over fo, numbers, ← c.self.view_is)
    (long_read system members _ i _ _ at row raw c.reduce.new.q c.narrow.new.numbers c.in-Some.over g read part narrowed width)

pub returns-in-Some-clause-short : goal.returns-in-Some-clause-short
returns-in-Some-clause-short c =
    let sums = with_items_is c.self.inside.sums c.sum.new.sums (c.sum.auto.sums ∙ c.deref_mut.ensures.len) in
    let q = with_items_is (with_items c.self.inside.sums c.sum.new.sums) c.reduce.new.q (c.reduce.auto.q ∙ c.deref_mut-2.ensures.len) in
    let narrowed = rw (c.deref.ensures.value, q) at c.in-Some.ensures.narrowed in
    let numbers = with_items_is c.self.inside.numbers c.narrow.new.numbers (c.narrow.auto.numbers ∙ c.deref_mut-3.ensures.len) in
    rw numbers (λ yes. record {
      small = narrowed.small;
      over = λ no. absurd (false≢true (sym no ∙ ap (λ (t : TableauState). t.long) c.self.view_is ∙ c.requires.long));
    })
