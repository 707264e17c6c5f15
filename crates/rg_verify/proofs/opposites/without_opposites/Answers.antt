use Rattle.std.proofs.Common.{true≢false, sym, ◌∙◌}
use Rattle.rg_verify.proofs.Cancelling.{third_is_left, second_is_left, first_is_left, all_are_left}
use Rattle.rg_verify.proofs.opposites.without_opposites.Goals as goal
use Rattle.rg_verify.proofs.opposites.without_opposites.Goals.{then-are_opposite, else-are_opposite+then-are_opposite-2, else-are_opposite+else-are_opposite-2+then-are_opposite-3, else-are_opposite+else-are_opposite-2+else-are_opposite-3}

pub returns-clause-terms : goal.returns-clause-terms
returns-clause-terms c =
    let ts = c.args.row.terms in
    let size = c.args.row.places in
    elim c.if-are_opposite.branch [
      | then-are_opposite w ↦ rw w.result-is (third_is_left ts size (c.are_opposite.ensures.0 w.if-are_opposite.true))
      | else-are_opposite+then-are_opposite-2 w ↦ rw w.result-is (second_is_left ts size (w.are_opposite-else-are_opposite.ensures.0 w.if-are_opposite-2.true))
      | else-are_opposite+else-are_opposite-2+then-are_opposite-3 w ↦ rw w.result-is (first_is_left ts size (w.are_opposite-else-are_opposite-2.ensures.0 w.if-are_opposite-3.true))
      | else-are_opposite+else-are_opposite-2+else-are_opposite-3 w ↦ rw w.result-is (all_are_left ts size
          (λ are. true≢false (sym (c.are_opposite.ensures.1 are) ∙ w.if-are_opposite.false))
          (λ are. true≢false (sym (w.are_opposite-else-are_opposite.ensures.1 are) ∙ w.if-are_opposite-2.false))
          (λ are. true≢false (sym (w.are_opposite-else-are_opposite-2.ensures.1 are) ∙ w.if-are_opposite-3.false)))
    ]
