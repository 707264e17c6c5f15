use Rattle.std.proofs.Common.{sym, subst}
use Rattle.rg_blocks_tests.specs.Constant.{IsConstant}
use Rattle.rg_blocks_tests.proofs.ConstantLemmas.{one_more, one_more_shown}
use Rattle.rg_blocks_tests.proofs.places.PlacesKeeping.keep_compact.Goals as goal

pub returns-clause-system : goal.returns-clause-system
returns-clause-system c =
    let is = subst (IsConstant c.args._lts.now) (sym c.in_ok-place.ensures) c.requires.place in
    (c.requires.system.0, one_more c.args._lts.now c.args.self.now.kept.items c.push.new.self.items _ c.requires.system.1 is c.in_ok-push.ensures.items)

pub returns-clause-places : goal.returns-clause-places
returns-clause-places c = one_more_shown c.args.self.now.kept.items c.push.new.self.items _ c.args.place c.in_ok-push.ensures.items c.in_ok-place.ensures
