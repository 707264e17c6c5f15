use Rattle.std.proofs.Common.{not, ap, sym, ◌∙◌}
use Rattle.rg_cycles.specs.View.{cycle_of}
use Rattle.rg_folds.specs.Substitution.{is_in, dependent_labels}
use Rattle.rg_folds.proofs.Folding.{number_taken, number_left}
use Rattle.rg_cycles.proofs.substitution.dependent.Goals as goal
use Rattle.rg_cycles.proofs.substitution.dependent.Goals.{then-not-is_free+in_ok-push, else-not-is_free}

pub loop-t-preserved : goal.loop-t-preserved
loop-t-preserved c =
    elim c.if-not-is_free.branch [
      | then-not-is_free+in_ok-push w ↦ rw (w.dependent-is, w.in_ok-push.ensures.items)
          (number_taken (λ u. not (is_in (cycle_of c.args.basis.now).members u)) c.args.labels c.loop-t.t c.loop-t.dependent.items
          (dependent_labels c.args.labels (cycle_of c.args.basis.now)) c.loop-t.invariant c.loop-t-test.true (ap not (sym c.is_free.ensures ∙ w.if-not-is_free.true)))
      | else-not-is_free w ↦ rw w.dependent-is
          (number_left (λ u. not (is_in (cycle_of c.args.basis.now).members u)) c.args.labels c.loop-t.t c.loop-t.dependent.items
          (dependent_labels c.args.labels (cycle_of c.args.basis.now)) c.loop-t.invariant c.loop-t-test.true (ap not (sym c.is_free.ensures ∙ w.if-not-is_free.false)))
    ]
