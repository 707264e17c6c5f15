-- What comes of the label at the pair.
use Rattle.std.proofs.Common.{◌≡◌, ◌∙◌, ℕ}
use Rattle.std.proofs.lemmas.List.{get_or_default}
use Rattle.std.proofs.lemmas.Option.{slice_get_within}
use Rattle.rg_theory.specs.System.{HasArc}
use Rattle.rg_iso.specs.Pairing.{pair_at, pairs_in}
use Rattle.rg_iso.proofs.Leading.{at_none, pair_in_range, lacks_both, tells_first, tells_second, tells_targets, leads_to_pair, still_within}
use Rattle.rg_iso.proofs.comparing.lead_on.Goals as goal
use Rattle.rg_iso.proofs.comparing.lead_on.Goals.{After-index}

here : (c : After-index) → c.index.result.now ≡ pair_at c.args.pairing.now.order.items c.args.index
here c = c.index.ensures ∙ get_or_default c.args.pairing.now.order.items c.args.index c.index.result.now (0, 0) c.requires.within

pub arc_at-requires-clause-state : goal.arc_at-requires-clause-state
arc_at-requires-clause-state c =
    (pair_in_range c.args.a.now c.args.b.now c.requires.comparable (pairs_in c.args.pairing.now) c.args.index c.args.t c.requires.followed c.requires.within c.args.u c.requires.name
    c.index.result.now (here (goal.at.arc_at-requires-clause-state c).After-index)).0

pub arc_at-requires-clause-label : goal.arc_at-requires-clause-label
arc_at-requires-clause-label c = slice_get_within c.args.a.now.label_names c.args.t c.requires.name.0 c.requires.name.1

pub arc_at-requires-2-clause-state : goal.arc_at-requires-2-clause-state
arc_at-requires-2-clause-state c =
    (pair_in_range c.args.a.now c.args.b.now c.requires.comparable (pairs_in c.args.pairing.now) c.args.index c.args.t c.requires.followed c.requires.within c.args.u c.requires.name
    c.index.result.now (here (goal.at.arc_at-requires-2-clause-state c).After-index)).1

pub arc_at-requires-2-clause-label : goal.arc_at-requires-2-clause-label
arc_at-requires-2-clause-label c = slice_get_within c.args.b.now.label_names c.args.u c.requires.name.0 c.requires.name.2

pub returns-in-None-None-clause-none : goal.returns-in-None-None-clause-none
returns-in-None-None-clause-none c =
    let r = c.index.result.now in
    lacks_both c.args.a.now c.args.b.now c.requires.comparable (pairs_in c.args.pairing.now) c.args.index c.args.t c.requires.followed c.requires.within c.args.u c.requires.name
    r (here (goal.at.returns-in-None-None-clause-none c).After-index)
    (at_none ((to : ℕ) → HasArc c.args.a.now r.0 c.args.t to → ⊥) c.arc_at.result c.in-None-None.is-0 c.arc_at.ensures.none)
    (at_none ((to : ℕ) → HasArc c.args.b.now r.1 c.args.u to → ⊥) c.arc_at-2.result c.in-None-None.is-1 c.arc_at-2.ensures.none)

pub returns-in-None-Some-clause-found : goal.returns-in-None-Some-clause-found
returns-in-None-Some-clause-found c =
    let r = c.index.result.now in
    tells_second c.args.a.now c.args.b.now c.requires.comparable (pairs_in c.args.pairing.now) c.args.index c.args.t c.requires.followed c.requires.within c.args.u c.requires.name
    r (here (goal.at.returns-in-None-Some-clause-found c).After-index) c.in-None-Some.field-0-1
    (at_none ((to : ℕ) → HasArc c.args.a.now r.0 c.args.t to → ⊥) c.arc_at.result c.in-None-Some.is-0 c.arc_at.ensures.none) c.in-None-Some.ensures.found

pub returns-in-Some-None-clause-found : goal.returns-in-Some-None-clause-found
returns-in-Some-None-clause-found c =
    let r = c.index.result.now in
    tells_first c.args.a.now c.args.b.now c.requires.comparable (pairs_in c.args.pairing.now) c.args.index c.args.t c.requires.followed c.requires.within c.args.u c.requires.name
    r (here (goal.at.returns-in-Some-None-clause-found c).After-index) c.in-Some-None.field-0-0 c.in-Some-None.ensures.found
    (at_none ((to : ℕ) → HasArc c.args.b.now r.1 c.args.u to → ⊥) c.arc_at-2.result c.in-Some-None.is-1 c.arc_at-2.ensures.none)

pub returns-then-branch-clause-none : goal.returns-then-branch-clause-none
returns-then-branch-clause-none c =
    leads_to_pair c.args.a.now c.args.b.now c.requires.comparable (pairs_in c.args.pairing.now) c.args.index c.args.t c.requires.followed c.requires.within c.args.u c.requires.name
    c.index.result.now (here (goal.at.returns-then-branch-clause-none c).After-index) c.in-Some-Some.to c.in-Some-Some.other
    (pairs_in c.become_pair.new.pairing) c.in_ok-become_pair-in-Some-Some.field-0
    c.in-Some-Some.ensures.found c.in-Some-Some.ensures'.found c.in_ok-become_pair-in-Some-Some.ensures c.if-branch.true

pub returns-then-branch-clause-within : goal.returns-then-branch-clause-within
returns-then-branch-clause-within c =
    still_within (pairs_in c.args.pairing.now) (pairs_in c.become_pair.new.pairing) c.in-Some-Some.to c.in-Some-Some.other c.args.index c.in_ok-become_pair-in-Some-Some.field-0
    c.in_ok-become_pair-in-Some-Some.ensures c.requires.within

pub returns-else-branch-clause-found : goal.returns-else-branch-clause-found
returns-else-branch-clause-found c =
    tells_targets c.args.a.now c.args.b.now c.requires.comparable (pairs_in c.args.pairing.now) c.args.index c.args.t c.requires.followed c.requires.within c.args.u c.requires.name
    c.index.result.now (here (goal.at.returns-else-branch-clause-found c).After-index) c.in-Some-Some.to c.in-Some-Some.other
    (pairs_in c.become_pair.new.pairing) c.in_ok-become_pair-in-Some-Some.field-0
    c.in-Some-Some.ensures.found c.in-Some-Some.ensures'.found c.in_ok-become_pair-in-Some-Some.ensures c.if-branch.false

pub returns-else-branch-clause-within : goal.returns-else-branch-clause-within
returns-else-branch-clause-within c =
    still_within (pairs_in c.args.pairing.now) (pairs_in c.become_pair.new.pairing) c.in-Some-Some.to c.in-Some-Some.other c.args.index c.in_ok-become_pair-in-Some-Some.field-0
    c.in_ok-become_pair-in-Some-Some.ensures c.requires.within
