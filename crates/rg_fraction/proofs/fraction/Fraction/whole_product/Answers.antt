use Rattle.std.proofs.Common.{rules, ◌≡◌, Err}
use Rattle.rg_integers.proofs.Casts.{back}
use Rattle.rg_fraction.proofs.Wholes.{whole_product_taken, whole_product_refused}
use Rattle.rg_fraction.proofs.fraction.Fraction.whole_product.Goals as goal

pub returns-in_err-z : goal.returns-in_err-z
returns-in_err-z c =
    let n = back c.args.n c.requires.first in
    let m = back c.args.m c.requires.second in
    let h = rw (n, m) at c.in_err-z.ensures.value in
    let same : c.from_residual.result ≡ Err c.in_err-z.field-0.0 = search rules in
    rw (same, h.1) (whole_product_refused c.args.n c.args.m h.0)

pub returns : goal.returns
returns c =
    let n = back c.args.n c.requires.first in
    let m = back c.args.m c.requires.second in
    let z = back c.in_ok-z.z c.in_ok-z.ensures.in_range in
    let h = rw (n, m) at c.in_ok-z.ensures.value in
    let e = rw (n, m) at c.in_ok-z.ensures.product in
    let s = rw z at c.whole.ensures in
    whole_product_taken c.args.n c.args.m c.in_ok-z.z c.whole.result h.0 e s
