use Rattle.std.proofs.Common.{subst}
use Rattle.rg_cert.specs.Lines.{IsFieldInRange}
use Rattle.rg_cert.specs.View.{range_in, field_in}
use Rattle.rg_cert.proofs.Known.{wide_is_out}
use Rattle.rg_cert.proofs.table.Field.is_in_range.Goals as goal

pub returns-in-None : goal.returns-in-None
returns-in-None c = (
  (λ no. absurd cc),
  (λ is. absurd (wide_is_out (range_in c.in-Number.range) c.args.text.now c.in-None.ensures.none
      (subst (λ f. IsFieldInRange (field_in f) c.args.text.now) c.in-Number.is is))),
)
