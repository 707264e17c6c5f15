use Rattle.std.proofs.Common.{refl}
use Rattle.rg_top.proofs.laws.written_is_accepted.Goals as goal

pub returns : goal.returns
returns c = λ class lts out files name text file. record {
  claim = record { class = class; reason = text.reason };
  of_class = refl;
  given = record { bytes = out; file = file; spelled = text.spelled };
  holds = text.holds;
}
