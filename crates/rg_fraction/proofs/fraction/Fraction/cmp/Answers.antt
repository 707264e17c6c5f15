use Rattle.std.proofs.Common.{◌∙◌}
use Rattle.rg_integers.proofs.Casts.{back}
use Rattle.rg_fraction.proofs.Orders.{cmp-ups}
use Rattle.rg_fraction.proofs.fraction.Fraction.cmp.Goals as goal

pub returns : goal.returns
returns c =
    let n = back c.args.self.now.numerator c.args.self.now.numerator_in_range in
    let d = back c.args.self.now.denominator c.args.self.now.denominator_in_range in
    let m = back c.args.o.now.numerator c.args.o.now.numerator_in_range in
    let e = back c.args.o.now.denominator c.args.o.now.denominator_in_range in
    let x = rw n at c.unsigned_abs-2.ensures.value in
    let y = rw d at c.unsigned_abs-3.ensures.value in
    let z = rw m at c.unsigned_abs-4.ensures.value in
    let w = rw e at c.unsigned_abs-5.ensures.value in
    let hn = rw n at c.if-n-lt0.false in
    let hm = rw m at c.if-m-lt0-2.false in
    let r = rw (x, y, z, w) at c.compare-2.ensures in
    r ∙ cmp-ups _ _ _ _ c.args.self.now.positive c.args.o.now.positive hn hm
