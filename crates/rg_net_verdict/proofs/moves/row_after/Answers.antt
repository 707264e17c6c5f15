use Rattle.std.proofs.Common.{◌≡◌, get_or, arith}
use Rattle.rg_net_verdict.proofs.Shifting.{no_flow, moved_over, moved_more}
use Rattle.rg_net_verdict.proofs.moves.row_after.Goals as goal

pub returns-then-tokens-clause-passes : goal.returns-then-tokens-clause-passes
returns-then-tokens-clause-passes c = λ p e.
    (let place : (get_or c.args.flow.now c.loop-f.f-index no_flow).place ≡ p = cc in
    moved_over c.args.flow.now c.args.row.now c.requires.listed c.loop-f.f-index no_flow c.loop-f-test.true c.loop-f.after.items c.loop-f.invariant
    (let big = c.if-tokens.true in let is = c.tokens_after-tokens.ensures in omega arith) p place)

pub loop-f-preserved : goal.loop-f-preserved
loop-f-preserved c = moved_more c.args.flow.now c.args.row.now c.requires.listed c.loop-f.f-index no_flow c.loop-f-test.true c.loop-f.after.items
    c.loop-f.invariant c.tokens_after-tokens.result c.tokens_after-tokens.ensures (let small = c.if-tokens.false in omega arith)
