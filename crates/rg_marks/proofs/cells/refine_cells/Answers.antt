use Rattle.std.proofs.Common.{ℕ, get_or, arith}
use Rattle.rg_marks.proofs.Refining.{with_pair, given_number, numbered_first, numbered_again, number_within, numbered_end}
use Rattle.rg_marks.proofs.cells.refine_cells.Goals as goal
use Rattle.rg_marks.proofs.cells.refine_cells.Goals.{then-number-len+in_ok-push, else-number-len}

pub index-requires : goal.index-requires
index-requires c =
    let within = rw c.in_ok-number.ensures.keys at c.in_ok-number.ensures.within in
    let most = number_within c.args.cells.now c.args.tokens.now c.loop-s.seen.keys c.loop-s.firsts.items c.loop-s.refined.items c.loop-s.s c.loop-s.invariant c.in_ok-number.number within in
    let size = c.loop-s.firsts.ok.0 in
    elim c.if-number-len.branch [
      | then-number-len+in_ok-push w ↦ rw w.firsts-is (omega (arith, w.in_ok-push.ensures.len))
      | else-number-len w ↦ rw w.firsts-is (omega arith)
    ]

pub loop-s-preserved : goal.loop-s-preserved
loop-s-preserved c =
    let pair : ℕ × ℕ = (get_or c.args.cells.now c.loop-s.s 0, get_or c.args.tokens.now c.loop-s.s 0) in
    let at = given_number (with_pair c.loop-s.seen.keys pair) pair c.in_ok-number.number (rw c.in_ok-number.ensures.keys at c.in_ok-number.ensures.stored) in
    let size = c.loop-s.firsts.ok.0 in
    rw (c.in_ok-push-2.ensures.items, c.in_ok-number.ensures.keys)
    (elim c.if-number-len.branch [
      | then-number-len+in_ok-push w ↦
          rw (w.firsts-is, w.in_ok-push.ensures.items)
          (numbered_first c.args.cells.now c.args.tokens.now c.loop-s.seen.keys c.loop-s.firsts.items c.loop-s.refined.items c.loop-s.s
          c.loop-s.invariant c.in_ok-number.number c.index.result.now at (omega arith)
          (rw (w.firsts-is, w.in_ok-push.ensures.items) at c.index.ensures))
      | else-number-len w ↦
          rw w.firsts-is
          (numbered_again c.args.cells.now c.args.tokens.now c.loop-s.seen.keys c.loop-s.firsts.items c.loop-s.refined.items c.loop-s.s
          c.loop-s.invariant c.in_ok-number.number c.index.result.now at (λ past. omega arith)
          (rw w.firsts-is at c.index.ensures))
    ])

pub returns : goal.returns
returns c = numbered_end c.args.cells.now c.args.tokens.now c.loop-s.seen.keys c.loop-s.firsts.items c.loop-s.refined.items c.loop-s.s c.loop-s.invariant c.loop-s-test.false c.loop-s.auto.s-end
