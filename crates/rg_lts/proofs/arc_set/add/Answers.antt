-- An arc that is inserted is there beside the others, in order.
use Rattle.std.proofs.Common.{◌∙◌, sym, arith}
use Rattle.rg_lts.proofs.ArcSets.{keys_order, inserted, found_iff}
use Rattle.rg_lts.proofs.arc_set.add.Goals as goal
use Rattle.rg_lts.proofs.arc_set.add.Goals.{else-len-ge-MOST_ARCS-via-then-len-ge-MOST_ARCS+else-not-contains, else-len-ge-MOST_ARCS-via-else-len-ge-MOST_ARCS}

pub returns-clause-members : goal.returns-clause-members
returns-clause-members c = inserted c.args.arcs.now c.insert.new.self c.args.arc c.in_ok-insert.ensures.updates

pub returns-clause-order : goal.returns-clause-order
returns-clause-order c = keys_order c.insert.new.self.keys c.insert.ensures.ordered

pub returns-clause-too_many : goal.returns-clause-too_many
returns-clause-too_many c = (
  λ e. absurd cc,
  λ (lacking, full). elim c.else-len-ge-MOST_ARCS.branch [
    | else-len-ge-MOST_ARCS-via-then-len-ge-MOST_ARCS+else-not-contains w ↦ absurd
        (lacking ((found_iff c.args.arcs.now c.args.arc).0 (sym w.contains.ensures ∙ w.if-not-contains.false)))
    | else-len-ge-MOST_ARCS-via-else-len-ge-MOST_ARCS w ↦ absurd (omega arith)
  ],
)
