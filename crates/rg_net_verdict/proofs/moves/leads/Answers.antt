use Rattle.std.proofs.Common.{sym, ◌∙◌}
use Rattle.std.proofs.lemmas.Bool.{false≢true}
use Rattle.rg_net_verdict.proofs.Shifting.{no_flow, agree_between, agree_more, agree_rest, agree_all}
use Rattle.rg_net_verdict.proofs.moves.leads.Goals as goal

pub returns-then-not-are_same : goal.returns-then-not-are_same
returns-then-not-are_same c = (
  λ e. absurd (false≢true e),
  λ (has, moved). sym c.if-not-are_same.true ∙ c.are_same.ensures.1
      (agree_between c.args.flow.now c.args.from.now c.args.to.now c.requires.listed c.loop-f.f-index c.loop-f.start c.loop-f.invariant no_flow c.loop-f-test.true moved),
)

pub loop-f-preserved : goal.loop-f-preserved
loop-f-preserved c =
    agree_more c.args.flow.now c.args.from.now c.args.to.now c.requires.listed c.loop-f.f-index c.loop-f.start c.loop-f.invariant no_flow c.loop-f-test.true
    (c.are_same.ensures.0 c.if-not-are_same.false) c.if-from-place.false
    (c.if-to-place.false ∙ c.tokens_after.ensures)

pub returns : goal.returns
returns c = (
  λ e. agree_all c.args.flow.now c.args.from.now c.args.to.now c.requires.listed c.loop-f.f-index c.loop-f.start c.loop-f.invariant c.loop-f-test.false c.requires.long (c.are_same-2.ensures.0 e),
  λ (has, moved). c.are_same-2.ensures.1 (agree_rest c.args.flow.now c.args.from.now c.args.to.now c.requires.listed c.loop-f.f-index c.loop-f.start c.loop-f.invariant c.loop-f-test.false moved),
)
