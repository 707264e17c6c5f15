use Rattle.std.proofs.Common.{rules, length}
use Rattle.rg_blocks_tests.specs.Constant.{HasDead}
use Rattle.rg_blocks_tests.proofs.ConstantLemmas.{separating, notable, all_regions}
use Rattle.rg_blocks_tests.proofs.refuted.find.Goals as goal

pub solve_all-requires-clause-can : goal.solve_all-requires-clause-can
solve_all-requires-clause-can g c κs within =
    let lts = c.args.answers.now.lts.now in
    let dead : HasDead (length c.args.answers.now.given.now) lts = search rules in
    record {
      some = c.requires;
      reachable = c.in-Ok.ensures.all_reachable;
      asked = λ problem has. dead;
      separating = separating lts;
      keepable = record { each = λ r is. is.constant; compact = λ r is. is.constant };
      notable = notable lts c.in-Ok.ensures.all_reachable;
    }

pub solve_all-requires-clause-regions : goal.solve_all-requires-clause-regions
solve_all-requires-clause-regions g c κs within = all_regions c.args.answers.now.lts.now c.in_ok-kept.kept.items c.in_ok-kept.ensures
