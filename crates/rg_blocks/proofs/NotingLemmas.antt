-- What a part of a block notes, and places that wait.
use Rattle.std.proofs.Common.{◌≡◌, List, ◌∷◌, sym, subst}
use Rattle.rg_theory.specs.System.{System}
use Rattle.rg_theory.specs.Net.{Place}
use Rattle.rg_theory.specs.declared.Problem.{Problem}
use Rattle.rg_net.specs.Shown.{shown_place}
use Rattle.rg_marks.specs.Separated.{AddsOne, SeparateSoMuch, AreSome}
use Rattle.rg_marks.specs.declared.region_place.RegionPlace.{RegionPlace}
use Rattle.rg_marks.specs.declared.separated.Separated.{Separated}
use Rattle.rg_marks.proofs.Members.{adds_front}
use Rattle.rg_outcome.specs.Solving.{Solved, Solved.placed}
use Rattle.rg_blocks.specs.Taking.{IsMade, AreKeepable}

-- one more place is noted
pub one_noted : (lts : System) (p : Place) (before now : Separated) → AreSome lts before
    → ((places more : List Place) → AddsOne p places more → SeparateSoMuch lts places before → SeparateSoMuch lts more now) → AreSome lts now
one_noted lts p before now some adds = record { places = p ∷ some.places; so_much = adds some.places (p ∷ some.places) (adds_front p some.places) some.so_much }

-- a place that is made, and that waits without its tokens
pub place_waits : (comes : Problem → Solved → Type 0) (makes : RegionPlace → Type 0) (problem : Problem) (r : RegionPlace) (p : Place) → p ≡ shown_place r.place
    → comes problem (placed (shown_place r.place)) × makes r → comes problem (placed p) × IsMade makes p
place_waits comes makes problem r p same is = (subst (λ q. comes problem (placed q)) (sym same) is.0, record { r = r; shown = sym same; made = is.1 })

-- such a place may be kept
pub made_keepable : (makes may_keep : RegionPlace → Type 0) (may_keep_compact : Place → Type 0) (p : Place)
    → AreKeepable makes may_keep may_keep_compact → IsMade makes p → may_keep_compact p
made_keepable makes may_keep may_keep_compact p keepable is = subst may_keep_compact is.shown (keepable.compact is.r is.made)
