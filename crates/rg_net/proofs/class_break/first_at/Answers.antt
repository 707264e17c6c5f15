use Rattle.std.proofs.Common.{◌<◌, length, IfSome, refl, sym, ◌∙◌, rules}
use Rattle.std.proofs.lemmas.Option.{slice_get_within}
use Rattle.rg_net.specs.Shown.{shown_place}
use Rattle.rg_net.proofs.Placing.{weights_of}
use Rattle.rg_net.proofs.Overs.{over_here, not_before, never_over}
use Rattle.rg_net.proofs.class_break.first_at.Goals as goal

pub first_impure-requires-clause-pre : goal.first_impure-requires-clause-pre
first_impure-requires-clause-pre c = (weights_of c.args.net.now c.args.i (shown_place c.args.place.now) c.requires.in_range c.requires.at).0 ∙ sym c.labels.ensures

pub first_impure-requires-clause-post : goal.first_impure-requires-clause-post
first_impure-requires-clause-post c = (weights_of c.args.net.now c.args.i (shown_place c.args.place.now) c.requires.in_range c.requires.at).1 ∙ sym c.labels.ensures

pub first_heavy-requires-clause-pre : goal.first_heavy-requires-clause-pre
first_heavy-requires-clause-pre c = (weights_of c.args.net.now c.args.i (shown_place c.args.place.now) c.requires.in_range c.requires.at).0 ∙ sym c.labels-2.ensures

pub first_heavy-requires-clause-post : goal.first_heavy-requires-clause-post
first_heavy-requires-clause-post c = (weights_of c.args.net.now c.args.i (shown_place c.args.place.now) c.requires.in_range c.requires.at).1 ∙ sym c.labels-2.ensures

pub returns-3-clause-breaks : goal.returns-3-clause-breaks
returns-3-clause-breaks c = λ ms first.
    (let here = over_here ms c.args.class.bound (length c.args.net.now.places) c.args.i c.in-Some-over.first c.in-Some-over.s c.args.over c.in-Some-over.is c.if-first-i.true first in
    let (m, at, more) = here.shown in (m, at, here.within, more))

pub returns-3-clause-first : goal.returns-3-clause-first
returns-3-clause-first c = (
  refl,
  λ ms first.
      (let here = over_here ms c.args.class.bound (length c.args.net.now.places) c.args.i c.in-Some-over.first c.in-Some-over.s c.args.over c.in-Some-over.is c.if-first-i.true first in
      let none = not_before ms c.args.class.bound (length c.args.net.now.places) c.args.i c.in-Some-over.s here in
      search rules),
)

pub returns-4-clause-first : goal.returns-4-clause-first
returns-4-clause-first c =
    let ahead : IfSome c.args.over (λ f. c.args.i < f.0) = search rules in
    let within = slice_get_within c.args.net.now.places c.args.i (shown_place c.args.place.now) c.requires.at in
    (refl, λ ms first. (let none = never_over ms c.args.class.bound (length c.args.net.now.places) c.args.i c.args.over first ahead within in search rules))

pub returns-5-clause-first : goal.returns-5-clause-first
returns-5-clause-first c =
    let ahead : IfSome c.args.over (λ f. c.args.i < f.0) = search rules in
    let within = slice_get_within c.args.net.now.places c.args.i (shown_place c.args.place.now) c.requires.at in
    (refl, λ ms first. (let none = never_over ms c.args.class.bound (length c.args.net.now.places) c.args.i c.args.over first ahead within in search rules))

pub first_two_takers-requires : goal.first_two_takers-requires
first_two_takers-requires c = (weights_of c.args.net.now c.args.i (shown_place c.args.place.now) c.requires.in_range c.requires.at).0 ∙ sym c.labels-3.ensures
