use Rattle.std.proofs.Common.{map, refl, sym, ap, ◌∙◌}
use Rattle.std.proofs.lemmas.Result.{on_ok_weaker, IfErr-weaker}
use Rattle.rg_theory.specs.Net.{Net}
use Rattle.rg_net.specs.Shown.{shown_place}
use Rattle.rg_netfile.proofs.Weights.{has_weights}
use Rattle.rg_netfile.proofs.Ranges.{place_at, in_range_at, set_in_range, slot_in, is_inside, set_is}
use Rattle.rg_netfile.proofs.sums.Sums.add.Goals as goal

pub add_to-requires-clause-pre : goal.add_to-requires-clause-pre
add_to-requires-clause-pre c =
    let s = c.self.inside in
    let net : Net = record { labels = s.labels; places = map shown_place s.places.items } in
    let lt = is_inside s.labels s.places.items c.args.self.now c.args.i c.self.view_is c.requires.place in
    let w = has_weights s.places.items net c.args.i c.index_mut.result.now refl c.self.invariant.weights lt c.index_mut.ensures.value in
    slot_in c.args.self.now.labels _ c.args.slot (ap (λ (n : Net). n.labels) (sym c.self.view_is) ∙ sym w.0) c.requires.slot

pub add_to-requires-clause-post : goal.add_to-requires-clause-post
add_to-requires-clause-post c =
    let s = c.self.inside in
    let net : Net = record { labels = s.labels; places = map shown_place s.places.items } in
    let lt = is_inside s.labels s.places.items c.args.self.now c.args.i c.self.view_is c.requires.place in
    let w = has_weights s.places.items net c.args.i c.index_mut.result.now refl c.self.invariant.weights lt c.index_mut.ensures.value in
    slot_in c.args.self.now.labels _ c.args.slot (ap (λ (n : Net). n.labels) (sym c.self.view_is) ∙ sym w.1) c.requires.slot

pub add_to-requires-clause-in_range : goal.add_to-requires-clause-in_range
add_to-requires-clause-in_range c =
    let s = c.self.inside in
    in_range_at s.labels s.places.items c.args.i c.index_mut.result.now c.self.invariant
    (is_inside s.labels s.places.items c.args.self.now c.args.i c.self.view_is c.requires.place) c.index_mut.ensures.value

pub invariant_of-self : goal.invariant_of-self
invariant_of-self c =
    let s = c.self.inside in
    let net : Net = record { labels = s.labels; places = map shown_place s.places.items } in
    let lt = is_inside s.labels s.places.items c.args.self.now c.args.i c.self.view_is c.requires.place in
    let w = has_weights s.places.items net c.args.i c.index_mut.result.now refl c.self.invariant.weights lt c.index_mut.ensures.value in
    set_in_range s.labels s.places.items c.args.i c.index_mut.result.now c.add_to.new.place c.self.invariant w
    c.add_to.ensures.pre_stays c.add_to.ensures.post_stays c.add_to.ensures.in_range

pub returns-clause-ok : goal.returns-clause-ok
returns-clause-ok c =
    let s = c.self.inside in
    let p = c.index_mut.result.now in
    let lt = is_inside s.labels s.places.items c.args.self.now c.args.i c.self.view_is c.requires.place in
    on_ok_weaker c.add_to.result
    (λ e. (
      shown_place p,
      place_at s.labels s.places.items c.args.self.now c.args.i p (sym c.self.view_is) lt c.index_mut.ensures.value,
      set_is s.labels s.places.items c.args.self.now c.args.i c.add_to.new.place _ (sym c.self.view_is) e,
    )) c.add_to.ensures.ok

pub returns-clause-within : goal.returns-clause-within
returns-clause-within c =
    let s = c.self.inside in
    let p = c.index_mut.result.now in
    let lt = is_inside s.labels s.places.items c.args.self.now c.args.i c.self.view_is c.requires.place in
    on_ok_weaker c.add_to.result
    (λ h. (shown_place p, place_at s.labels s.places.items c.args.self.now c.args.i p (sym c.self.view_is) lt c.index_mut.ensures.value, h)) c.add_to.ensures.within

pub returns-clause-fault : goal.returns-clause-fault
returns-clause-fault c =
    let s = c.self.inside in
    let p = c.index_mut.result.now in
    let lt = is_inside s.labels s.places.items c.args.self.now c.args.i c.self.view_is c.requires.place in
    IfErr-weaker c.add_to.result _ _
    (λ f h. (h.0, (shown_place p, place_at s.labels s.places.items c.args.self.now c.args.i p (sym c.self.view_is) lt c.index_mut.ensures.value, h.1))) c.add_to.ensures.fault
