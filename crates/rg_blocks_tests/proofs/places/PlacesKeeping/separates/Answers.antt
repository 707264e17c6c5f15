use Rattle.std.proofs.Common.{map, Any, sym, subst}
use Rattle.std.proofs.lemmas.Bool.{true≢false}
use Rattle.std.specs.Prelude.{◌↔◌, IsTrue}
use Rattle.rg_theory.specs.Problem.{IsProblem}
use Rattle.rg_net.specs.Shown.{shown_place}
use Rattle.rg_outcome.specs.Coming.{IsSeparated}
use Rattle.rg_blocks_tests.specs.Constant.{RegionStops}
use Rattle.rg_blocks_tests.proofs.ConstantLemmas.{some_separates, some_is_stopped, none_apart}
use Rattle.rg_blocks_tests.proofs.places.PlacesKeeping.separates.Goals as goal

pub returns-in-Event : goal.returns-in-Event
returns-in-Event c =
    let lts = c.args._lts.now in
    let kept = c.args.self.now.kept.items in
    let (reachable, all) = c.requires.system in
    let is = subst (IsProblem lts) c.in-Event.is c.requires.problem in
    let any = subst (λ xs. IsTrue c.is_stopped.result ↔ Any (RegionStops c.in-Event.t) xs) c.deref.ensures.value c.is_stopped.ensures in
    subst (λ p. IsTrue c.is_stopped.result ↔ IsSeparated lts (map (λ r. shown_place r.place) kept) p) (sym c.in-Event.is)
    ((λ yes. some_separates lts c.in-Event.field-0 c.in-Event.t kept all (any.0 yes)), (λ sep. any.1 (some_is_stopped lts reachable c.in-Event.field-0 c.in-Event.t kept is.0 all sep)))

pub returns-in-States : goal.returns-in-States
returns-in-States c =
    let lts = c.args._lts.now in
    let kept = c.args.self.now.kept.items in
    let (reachable, all) = c.requires.system in
    let is = subst (IsProblem lts) c.in-States.is c.requires.problem in
    let none = none_apart lts reachable c.in-States.field-0 c.in-States.field-1 kept is all in
    ((λ yes. absurd (true≢false (sym yes))), (λ sep. absurd (none (subst (IsSeparated lts (map (λ r. shown_place r.place) kept)) c.in-States.is sep))))
