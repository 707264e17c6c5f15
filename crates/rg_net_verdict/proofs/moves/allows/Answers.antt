use Rattle.std.proofs.Common.{◌≤◌, get_or, All, refl, subst, arith}
use Rattle.std.proofs.lemmas.Bool.{false≢true}
use Rattle.std.proofs.lemmas.List.{take_all}
use Rattle.std.proofs.lemmas.List.Elements.{All-more}
use Rattle.rg_net_verdict.proofs.Shifting.{no_flow}
use Rattle.rg_net_verdict.proofs.moves.allows.Goals as goal

pub returns-then-row-f : goal.returns-then-row-f
returns-then-row-f c =
    let few = c.if-row-f.true in
    (λ e. absurd (false≢true e), λ has. absurd (let enough = has c.loop-f.f-index no_flow c.loop-f-test.true in omega arith))

pub loop-f-preserved : goal.loop-f-preserved
loop-f-preserved c = All-more (λ f. f.pre ≤ get_or c.args.row.now f.place 0) c.args.flow.now c.loop-f.f-index no_flow c.loop-f-test.true c.loop-f.invariant c.if-row-f.false

pub returns : goal.returns
returns c = (
  λ e. subst (All (λ f. f.pre ≤ get_or c.args.row.now f.place 0)) (take_all c.loop-f.f-index c.args.flow.now c.loop-f-test.false) c.loop-f.invariant,
  λ has. refl,
)
