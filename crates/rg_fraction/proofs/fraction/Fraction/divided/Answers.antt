use Rattle.rg_integers.proofs.Casts.{back}
use Rattle.rg_fraction.proofs.Forms.{from_reduced-value}
use Rattle.rg_fraction.proofs.fraction.Fraction.divided.Goals as goal

pub from_reduced-requires-clause-reduced : goal.from_reduced-requires-clause-reduced
from_reduced-requires-clause-reduced c =
    let t = back c.split-top.result.0 c.split-top.ensures.first_in_range in
    let b = back c.split-top.result.1 c.split-top.ensures.second_in_range in
    rw (t, b) c.split-top.ensures.reduced

pub returns : goal.returns
returns c =
    let n = back c.args.n c.requires.n_in_range in
    let d = back c.args.d c.requires.d_in_range in
    let t = back c.split-top.result.0 c.split-top.ensures.first_in_range in
    let b = back c.split-top.result.1 c.split-top.ensures.second_in_range in
    from_reduced-value _ _ c.split-top.result.0 c.split-top.result.1 _ _ _
    (rw (n, d) at c.split-top.ensures.exact_first) (rw (n, d) at c.split-top.ensures.exact_second)
    (rw (t, b) at c.from_reduced.ensures)
