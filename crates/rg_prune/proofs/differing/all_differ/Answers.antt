use Rattle.std.proofs.Common.{get_or, sym, ◌∙◌}
use Rattle.std.proofs.lemmas.Bool.{true≢false, not-true}
use Rattle.std.specs.List.{list_any}
use Rattle.rg_marks.proofs.Refining.{same_pair}
use Rattle.rg_prune.proofs.Agreeing.{not_new, differ_start, differ_next, differ_end, agree_here}
use Rattle.rg_prune.proofs.differing.all_differ.Goals as goal

pub loop-s-init : goal.loop-s-init
loop-s-init c = rw c.new-seen.ensures.empty (differ_start c.args.a.now c.args.b.now)

pub loop-s-preserved : goal.loop-s-preserved
loop-s-preserved c =
    rw c.in_ok-insert.ensures.keys
    (differ_next c.args.a.now c.args.b.now c.loop-s.seen.keys c.loop-s.s c.loop-s.invariant
    (not-true (list_any (same_pair (get_or c.args.a.now c.loop-s.s 0, get_or c.args.b.now c.loop-s.s 0)) c.loop-s.seen.keys) (sym c.in_ok-insert.ensures.added ∙ c.if-not-branch.false)))

pub returns-then-not-branch-clause-no : goal.returns-then-not-branch-clause-no
returns-then-not-branch-clause-no c = λ e.
    agree_here c.args.a.now c.args.b.now c.loop-s.seen.keys c.loop-s.s c.loop-s-test.true c.loop-s.invariant
    (not_new (list_any (same_pair (get_or c.args.a.now c.loop-s.s 0, get_or c.args.b.now c.loop-s.s 0)) c.loop-s.seen.keys) (sym c.in_ok-insert.ensures.added ∙ c.if-not-branch.true))

pub returns : goal.returns
returns c = record { yes = λ e. differ_end c.args.a.now c.args.b.now c.loop-s.seen.keys c.loop-s.s c.loop-s-test.false c.loop-s.invariant; no = λ e. absurd (true≢false e) }
