use Rattle.std.proofs.Common.{◌<◌, ◌≤◌, length, sym, subst, arith}
use Rattle.rg_integers.proofs.Casts.{back}
use Rattle.rg_farkas.proofs.AddendSums.{entry_added, no_entry, entries_end}
use Rattle.rg_farkas.proofs.summed.add_row.Goals as goal
use Rattle.rg_farkas.proofs.summed.add_row.Goals.{in-Some+else-not-add_term, in_default}

pub loop-entry-preserved : goal.loop-entry-preserved
loop-entry-preserved c =
    let number = back c.args.row.now.multiplier c.args.row.now.multiplier_in_range in
    elim c.match-entry.branch [
      | in-Some+else-not-add_term w ↦ rw w.sums-is (record {
        added = λ q below. (let inside : q < length c.loop-entry.sums = omega (arith, c.loop-entry.auto.sums) in
            entry_added q c.args.row.now.multiplier c.args.row.now.expression.terms c.loop-entry.entry-index w.in-Some.term w.in-Some.is _ _ _ (c.loop-entry.invariant.added q below)
            (rw number at (w.add_term.ensures.added w.if-not-add_term.false q inside)));
        in_range = w.add_term.ensures.in_range w.if-not-add_term.false;
      })
      | in_default w ↦ rw w.sums-is (record {
        added = λ q below. no_entry q c.args.row.now.multiplier c.args.row.now.expression.terms c.loop-entry.entry-index w.in_default.is _ _ (c.loop-entry.invariant.added q below);
        in_range = c.loop-entry.invariant.in_range;
      })
    ]

pub returns-clause-added : goal.returns-clause-added
returns-clause-added c = λ _ q below. entries_end q c.args.row.now.multiplier c.args.row.now.expression.terms c.loop-entry.entry-index _ _
    (subst (λ n. n ≤ c.loop-entry.entry-index) (sym c.args.row.now.expression.places) c.loop-entry-test.false) (c.loop-entry.invariant.added q below)
