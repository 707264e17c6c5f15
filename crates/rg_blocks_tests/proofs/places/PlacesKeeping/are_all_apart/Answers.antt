use Rattle.std.proofs.Common.{◌↔◌, IsTrue, nat_lt, map, sym, subst}
use Rattle.rg_net.specs.Shown.{shown_place}
use Rattle.rg_marks.specs.Cells.{AreAllApart}
use Rattle.rg_blocks_tests.proofs.ConstantLemmas.{all_apart}
use Rattle.rg_blocks_tests.proofs.places.PlacesKeeping.are_all_apart.Goals as goal

pub returns : goal.returns
returns c =
    let lts = c.args.lts.now in
    let kept = c.args.self.now.kept.items in
    let (reachable, all) = c.requires.system in
    subst (λ n. IsTrue (nat_lt n 2) ↔ AreAllApart lts (map (λ r. shown_place r.place) kept)) (sym c.states.ensures.value) (all_apart lts reachable kept all)
