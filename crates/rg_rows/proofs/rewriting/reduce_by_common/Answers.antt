use Rattle.std.proofs.Common.{subst, sym, ap}
use Rattle.std.specs.Prelude.{unsigned_abs}
use Rattle.rg_integers.proofs.Casts.{back}
use Rattle.rg_fraction.specs.Rows.{IsPrimitivePart}
use Rattle.rg_rows.proofs.Dividing.{divided_by}
use Rattle.rg_rows.proofs.rewriting.reduce_by_common.Goals as goal

pub returns-then-divisor-gt1-clause-part : goal.returns-then-divisor-gt1-clause-part
returns-then-divisor-gt1-clause-part c =
    let old = c.args.numbers.now in
    let new = c.reduce.new.q in
    let divisor = c.row_gcd-divisor.result in
    let (h, part) = c.reduce.ensures.part in
    subst (IsPrimitivePart old new) (ap unsigned_abs (sym (back divisor c.row_gcd-divisor.ensures.in_range)))
    (divided_by old new (unsigned_abs divisor) h c.row_gcd-divisor.ensures.value part)
