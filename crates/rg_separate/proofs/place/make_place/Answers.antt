use Rattle.std.proofs.Common.{refl}
use Rattle.rg_separate.proofs.place.make_place.Goals as goal

pub returns-clause-region : goal.returns-clause-region
returns-clause-region c = record {
  made = c.in_ok-made.made;
  place = refl;
  tokens = c.in_ok-made.ensures.tokens;
  region = λ live solves. c.in_ok-made.ensures.region live solves.0;
}
