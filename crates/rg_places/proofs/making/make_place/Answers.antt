use Rattle.std.proofs.Common.{rules, ◌≡◌, Err, Ok, map, unsigned_abs, ap, sym, ◌∙◌}
use Rattle.std.proofs.lemmas.List.{length-map}
use Rattle.rg_folds.specs.Fold.{Ratio, ratio_of}
use Rattle.rg_case_folds.specs.Shown.{IsLive}
use Rattle.rg_case_folds.specs.Placing.{place_fold}
use Rattle.rg_net.specs.Shown.{shown_place}
use Rattle.rg_places.specs.PointValues.{ratios_of, point_start, point_value, SolvesCase}
use Rattle.rg_places.specs.RegionPlaces.{IsRegionPlace, PlaceSeparates, AreTokensMade}
use Rattle.rg_marks.specs.declared.region_place.RegionPlace.{RegionPlace}
use Rattle.rg_places.proofs.RegionSteps.{region_made, if_both}
use Rattle.rg_case_folds.proofs.Comes.{comes_by, comes_unless, comes_value}
use Rattle.rg_places.proofs.PlaceSteps.{if_ok, tree_fails, shift_fails, before_length, shift_length, numbers_made, place_made_by}
use Rattle.rg_places.proofs.making.make_place.Goals as goal
use Rattle.rg_case_parts.specs.SettingViews.{shown_setting}

pub returns-in_err-numbers-clause-comes : goal.returns-in_err-numbers-clause-comes
returns-in_err-numbers-clause-comes c =
    let s = shown_setting c.args.setting in
    let start = point_start s.class c.args.point.now in
    let values = point_value s.lts s.basis s.class c.args.point.now in
    let same : c.from_residual-in_err-numbers.result ≡ Err c.in_err-numbers.field-0.0 = search rules in
    rw same (comes_unless (place_fold s c.args.problem start values) (λ (r : RegionPlace). shown_place r.place) c.in_err-numbers.field-0.0
    (λ w is. tree_fails s c.args.problem start values (ratios_of c.in_ok-found.found.items) c.in_ok-found.ensures.comes w
    (rw (c.arcs.ensures, c.deref.ensures.value) at (c.in_err-numbers.ensures.wide w (ap (λ x. Err x) is)))))

pub returns-in_err-numbers-2-clause-comes : goal.returns-in_err-numbers-2-clause-comes
returns-in_err-numbers-2-clause-comes c =
    let s = shown_setting c.args.setting in
    let start = point_start s.class c.args.point.now in
    let values = point_value s.lts s.basis s.class c.args.point.now in
    let same : c.from_residual-in_err-numbers-2.result ≡ Err c.in_err-numbers-2.field-0.0 = search rules in
    let along = rw (c.arcs.ensures, c.deref.ensures.value) at c.in_ok-numbers.ensures.value in
    rw same (comes_unless (place_fold s c.args.problem start values) (λ (r : RegionPlace). shown_place r.place) c.in_err-numbers-2.field-0.0
    (λ w is. shift_fails s c.args.problem start values (ratios_of c.in_ok-found.found.items) c.in_ok-found.ensures.comes
    (ratios_of c.in_ok-numbers.numbers.items) along w (rw is at c.in_err-numbers-2.ensures)))

pub place_of-requires-clause-numbers : goal.place_of-requires-clause-numbers
place_of-requires-clause-numbers c =
    let s = shown_setting c.args.setting in
    let start = point_start s.class c.args.point.now in
    let values = point_value s.lts s.basis s.class c.args.point.now in
    let along = rw (c.arcs.ensures, c.deref.ensures.value) at c.in_ok-numbers.ensures.value in
    let before = before_length s c.args.problem start values (ratios_of c.in_ok-found.found.items) c.in_ok-found.ensures.comes
    (ratios_of c.in_ok-numbers.numbers.items) along in
    let count = sym (length-map c.in_ok-numbers-2.numbers.items ratio_of)
    ∙ shift_length s.lts s.class c.args.problem (ratios_of c.in_ok-numbers.numbers.items) (ratios_of c.in_ok-numbers-2.numbers.items) c.in_ok-numbers-2.ensures ∙ before in
    rw c.deref-3.ensures.value count

pub returns-clause-comes : goal.returns-clause-comes
returns-clause-comes c =
    let s = shown_setting c.args.setting in
    let start = point_start s.class c.args.point.now in
    let values = point_value s.lts s.basis s.class c.args.point.now in
    let along = rw (c.arcs.ensures, c.deref.ensures.value) at c.in_ok-numbers.ensures.value in
    let made = rw (c.deref-2.ensures.value, c.deref-3.ensures.value) at c.place_of.ensures.comes in
    comes_by _ _ (λ (r : RegionPlace). shown_place r.place) c.place_of.result made
    (place_made_by s c.args.problem start values (ratios_of c.in_ok-found.found.items) c.in_ok-found.ensures.comes
    (ratios_of c.in_ok-numbers.numbers.items) along (ratios_of c.in_ok-numbers-2.numbers.items) c.in_ok-numbers-2.ensures)

pub returns-clause-tokens : goal.returns-clause-tokens
returns-clause-tokens c =
    let s = shown_setting c.args.setting in
    let start = point_start s.class c.args.point.now in
    let values = point_value s.lts s.basis s.class c.args.point.now in
    let along = rw (c.arcs.ensures, c.deref.ensures.value) at c.in_ok-numbers.ensures.value in
    let tokens = rw c.deref-3.ensures.value at c.place_of.ensures.tokens in
    if_ok (λ (r : RegionPlace). r.tokens.items ≡ map (λ (n : Ratio). unsigned_abs n.top) (ratios_of c.in_ok-numbers-2.numbers.items))
    (λ (r : RegionPlace). AreTokensMade s c.args.problem start values r.tokens.items)
    c.place_of.result
    (λ r h. record {
      numbers = ratios_of c.in_ok-numbers-2.numbers.items;
      made = numbers_made s c.args.problem start values (ratios_of c.in_ok-found.found.items) c.in_ok-found.ensures.comes
          (ratios_of c.in_ok-numbers.numbers.items) along (ratios_of c.in_ok-numbers-2.numbers.items) c.in_ok-numbers-2.ensures;
      tokens_are = h;
    }) tokens

pub returns-clause-region : goal.returns-clause-region
returns-clause-region c =
    let s = shown_setting c.args.setting in
    let start = point_start s.class c.args.point.now in
    let values = point_value s.lts s.basis s.class c.args.point.now in
    let along = rw (c.arcs.ensures, c.deref.ensures.value) at c.in_ok-numbers.ensures.value in
    let tokens = rw c.deref-3.ensures.value at c.place_of.ensures.tokens in
    let before = before_length s c.args.problem start values (ratios_of c.in_ok-found.found.items) c.in_ok-found.ensures.comes
    (ratios_of c.in_ok-numbers.numbers.items) along in
    let count = shift_length s.lts s.class c.args.problem (ratios_of c.in_ok-numbers.numbers.items) (ratios_of c.in_ok-numbers-2.numbers.items) c.in_ok-numbers-2.ensures ∙ before in
    let made = numbers_made s c.args.problem start values (ratios_of c.in_ok-found.found.items) c.in_ok-found.ensures.comes
    (ratios_of c.in_ok-numbers.numbers.items) along (ratios_of c.in_ok-numbers-2.numbers.items) c.in_ok-numbers-2.ensures in
    if_both (λ (r : RegionPlace). place_fold s c.args.problem start values (Ok (shown_place r.place)))
    (λ (r : RegionPlace). r.tokens.items ≡ map (λ (n : Ratio). unsigned_abs n.top) (ratios_of c.in_ok-numbers-2.numbers.items))
    (λ (r : RegionPlace). IsLive s.lts c.args.problem → SolvesCase s c.args.problem c.args.point.now → IsRegionPlace s.lts s.class r × PlaceSeparates c.args.problem r) c.place_of.result
    (λ r h t live solves. region_made s c.args.problem c.args.point.now r (ratios_of c.in_ok-numbers-2.numbers.items) c.requires.columns live solves made h t count)
    (comes_value (place_fold s c.args.problem start values) (λ (r : RegionPlace). shown_place r.place) _ c.place_of.result (returns-clause-comes c) (λ r h. h)) tokens

pub shift_and_lift-requires : goal.shift_and_lift-requires
shift_and_lift-requires c =
    let s = shown_setting c.args.setting in
    let start = point_start s.class c.args.point.now in
    let values = point_value s.lts s.basis s.class c.args.point.now in
    let along = rw (c.arcs.ensures, c.deref.ensures.value) at c.in_ok-numbers.ensures.value in
    sym (length-map c.in_ok-numbers.numbers.items ratio_of)
    ∙ before_length s c.args.problem start values (ratios_of c.in_ok-found.found.items) c.in_ok-found.ensures.comes
    (ratios_of c.in_ok-numbers.numbers.items) along
