use Rattle.std.proofs.Common.{sym, subst}
use Rattle.rg_separate.specs.Keeping.{IsKept}
use Rattle.rg_separate.proofs.kept.KeptKeeping.keep_compact.Goals as goal

pub add-requires-clause-place : goal.add-requires-clause-place
add-requires-clause-place c = subst (IsKept c.args.lts.now) (sym c.in_ok-all_weights.ensures) c.requires.place
