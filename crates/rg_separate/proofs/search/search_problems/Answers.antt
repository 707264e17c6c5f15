use Rattle.std.proofs.Common.{Some, None, subst}
use Rattle.rg_separate.specs.Deciding.{ProblemComesTo}
use Rattle.rg_separate.proofs.Keeping.{is_kept, notable}
use Rattle.rg_separate.proofs.Refusing.{regions_of}
use Rattle.rg_separate.proofs.Ending.{places_separate, ends_as, all_separated, ends_refuted, ends_wide, ends_not_placed}
use Rattle.rg_separate.proofs.search.search_problems.Goals as goal

pub solve_all-requires-clause-can : goal.solve_all-requires-clause-can
solve_all-requires-clause-can g c κs within =
    let s = c.args.problems.setting in
    let is = c.requires.can.setting in
    record {
      some = c.requires.some;
      reachable = is.reachable;
      asked = λ problem has. (c.requires.can, has);
      separating = places_separate s is;
      keepable = record { each = λ r made. (s.class, made); compact = λ r made. is_kept s.lts.now r (s.class, made) };
      notable = notable s.lts.now s.class is.reachable;
    }

pub solve_all-requires-clause-regions : goal.solve_all-requires-clause-regions
solve_all-requires-clause-regions g c κs within =
    regions_of c.args.problems.setting.lts.now c.in_ok-known.field-0.places.items c.in_ok-known.ensures.keeping.kept.each

pub returns-in_default-clause-searched : goal.returns-in_default-clause-searched
returns-in_default-clause-searched g c =
    let s = c.args.problems.setting in
    let after = c.solve_all.new.progress.kept.places.items in
    all_separated s c.requires.can.setting c.args.known.now after
    (ends_as s c.in_ok-known.field-0.places.items c.args.known.now after c.in_ok-end.end None c.in_ok-known.ensures.places c.in_default.is c.in_ok-end.ensures.comes)

pub unreachable-requires : goal.unreachable-requires
unreachable-requires g c =
    let s = c.args.problems.setting in
    let q = c.in-Some.problem in
    let after = c.solve_all.new.progress.kept.places.items in
    ends_not_placed s c.requires.can.setting c.args.known.now after q
    (ends_as s c.in_ok-known.field-0.places.items c.args.known.now after c.in_ok-end.end (Some q) c.in_ok-known.ensures.places c.in-Some.is c.in_ok-end.ensures.comes)
    c.in-Place.field-0 (subst (ProblemComesTo s q) c.in-Place.is c.in_ok-reason.ensures.comes)

pub returns-in-Refuted-clause-searched : goal.returns-in-Refuted-clause-searched
returns-in-Refuted-clause-searched g c =
    let s = c.args.problems.setting in
    let q = c.in-Some.problem in
    let after = c.solve_all.new.progress.kept.places.items in
    ends_refuted s c.requires.can.setting c.args.known.now after q
    (ends_as s c.in_ok-known.field-0.places.items c.args.known.now after c.in_ok-end.end (Some q) c.in_ok-known.ensures.places c.in-Some.is c.in_ok-end.ensures.comes)
    c.in-Refuted.reason (subst (ProblemComesTo s q) c.in-Refuted.is c.in_ok-reason.ensures.comes)

pub returns-in-Wide-clause-searched : goal.returns-in-Wide-clause-searched
returns-in-Wide-clause-searched g c =
    let s = c.args.problems.setting in
    let q = c.in-Some.problem in
    let after = c.solve_all.new.progress.kept.places.items in
    ends_wide s c.requires.can.setting c.args.known.now after q
    (ends_as s c.in_ok-known.field-0.places.items c.args.known.now after c.in_ok-end.end (Some q) c.in_ok-known.ensures.places c.in-Some.is c.in_ok-end.ensures.comes)
    c.in-Wide.at (subst (ProblemComesTo s q) c.in-Wide.is c.in_ok-reason.ensures.comes)
