use Rattle.std.proofs.Common.{◌∙◌, inl, inr}
use Rattle.rg_fraction.proofs.Orders.{by_quotients, by_remainders, by_zero, crossed}
use Rattle.rg_fraction.proofs.order.+compare.Goals as goal
use Rattle.rg_fraction.proofs.order.+compare.Goals.{then-r-eq0-via-then-r-eq0, then-r-eq0-via-else-r-eq0+then-s-eq0}

pub returns-then-p-q : goal.returns-then-p-q
returns-then-p-q t c = c.cmp.ensures ∙ by_quotients c.args.n c.args.d c.args.m c.args.e c.requires.left c.requires.right c.if-p-q.true

pub returns-then-r-eq0 : goal.returns-then-r-eq0
returns-then-r-eq0 t c = c.cmp-then-r-eq0.ensures
    ∙ by_zero _ _ c.args.d c.args.e c.requires.left c.requires.right
    (elim c.then-r-eq0.branch [ then-r-eq0-via-then-r-eq0 w ↦ inl w.if-r-eq0.true | then-r-eq0-via-else-r-eq0+then-s-eq0 w ↦ inr w.if-s-eq0.true ])
    ∙ by_remainders c.args.n c.args.d c.args.m c.args.e c.requires.left c.requires.right c.if-p-q.false

pub returns : goal.returns
returns t c =
    c.compare.ensures ∙ crossed _ _ c.args.d c.args.e
    ∙ by_remainders c.args.n c.args.d c.args.m c.args.e c.requires.left c.requires.right c.if-p-q.false
