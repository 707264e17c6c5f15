use Rattle.std.proofs.lemmas.List.{take_all}
use Rattle.std.proofs.Common.{◌+◌, nat_lt, map, filter, ap, ◌∙◌}
use Rattle.std.specs.Int.{w128}
use Rattle.std.proofs.lemmas.Int.{to_z-of_z}
use Rattle.rg_integers.specs.Sum.{number_at}
use Rattle.rg_integers.proofs.Casts.{fits}
use Rattle.rg_linear.proofs.Columns.{below_test, past_test}
use Rattle.rg_cycles.proofs.Numbers.{taken_more, left_more}
use Rattle.rg_feasible.proofs.RowTerms.{shown_number}
use Rattle.rg_cycles.proofs.reading.free_numbers.Goals as goal
use Rattle.rg_cycles.proofs.reading.free_numbers.Goals.{then-member-labels+in_ok-push, else-member-labels}

pub loop-index-preserved : goal.loop-index-preserved
loop-index-preserved c = λ k e.
    let f = fits (number_at c.args.numbers.now (c.loop-index.index + 2)) (c.requires.in_range (c.loop-index.index + 2)) in
    elim c.if-member-labels.branch [
      | then-member-labels+in_ok-push w ↦ rw (w.free-is, w.in_ok-push.ensures.items)
          (taken_more k.coefficient (λ m. nat_lt m c.args.labels) c.args.members.now c.loop-index.index c.loop-index.free.items c.loop-index-test.true
          (c.loop-index.invariant k e) (below_test _ _ w.if-member-labels.true) _
          (to_z-of_z w128 _ f ∙ shown_number c.args.members.now k c.args.numbers.now c.loop-index.index e c.loop-index-test.true))
      | else-member-labels w ↦ rw w.free-is (left_more k.coefficient
          (λ m. nat_lt m c.args.labels) c.args.members.now c.loop-index.index c.loop-index.free.items c.loop-index-test.true
          (c.loop-index.invariant k e) (past_test _ _ w.if-member-labels.false))
    ]

pub returns : goal.returns
returns c = λ k e. c.loop-index.invariant k e ∙ ap (λ l. map k.coefficient (filter (λ m. nat_lt m c.args.labels) l)) (take_all c.loop-index.index c.args.members.now c.loop-index-test.false)
