-- Systems whose first labels have no arc. Each of these labels asks for a place that stops it at every state.
use Rattle.std.specs.Prelude.{◌≡◌, ℕ, ◌<◌, ◌≤◌, [], length, replicate, pos}
use Rattle.rg_theory.specs.System.{System, states, labels, HasArc}
use Rattle.rg_theory.specs.Net.{Place, pre_weight, post_weight}
use Rattle.rg_theory.specs.declared.Problem.{Problem}
use Rattle.rg_theory.specs.declared.Problem.TheVariants.{Event, States}
use Rattle.rg_net.specs.Shown.{shown_place}
use Rattle.rg_marks.specs.declared.region_place.RegionPlace.{RegionPlace}
use Rattle.rg_case_folds.specs.Shown.{Stage, Shown}
use Rattle.rg_outcome.specs.Casing.{step_at}
use Rattle.rg_outcome.specs.Solving.{Solved, Solved.placed, Solved.refuted, Solved.passed}

-- the system has so many labels at least, and the first ones have no arc
pub record HasDead (n : ℕ) (lts : System) : Type 0 where
  pub few : n ≤ labels lts
  pub dead : (s t s' : ℕ) → HasArc lts s t s' → n ≤ t

-- no arc takes a token from the place or gives it one
pub record IsConstant (lts : System) (p : Place) : Type 0 where
  pub pre : (s t s' : ℕ) → HasArc lts s t s' → pre_weight p t ≡ 0
  pub post : (s t s' : ℕ) → HasArc lts s t s' → post_weight p t ≡ 0

-- a place that has its first tokens at every state stops the label
abbrev pub Stops : ℕ → Place → Type 0
Stops t p = p.start < pre_weight p t

abbrev pub RegionStops : ℕ → RegionPlace → Type 0
RegionStops t r = Stops t (shown_place r.place)

abbrev pub RegionIsConstant : System → RegionPlace → Type 0
RegionIsConstant lts r = IsConstant lts (shown_place r.place)

-- the place has no token at any state, and weights for all labels
pub record HasNoToken (lts : System) (r : RegionPlace) : Type 0 where
  pub constant : RegionIsConstant lts r
  pub start : r.place.start ≡ 0
  pub pre : length r.place.pre.items ≡ labels lts
  pub post : length r.place.post.items ≡ labels lts
  pub tokens : r.tokens.items ≡ replicate (states lts) 0

-- a problem may come to anything but a place that doesn't stop its label
abbrev pub MayCome : System → Problem → Solved → Type 0
MayCome lts (Event s t) (placed p) = IsConstant lts p × Stops t p
MayCome lts (States s r) (placed p) = ⊥
MayCome lts problem (refuted trees) = Unit {0}
MayCome lts problem (passed w) = Unit {0}

-- some term, since none is shown here
abbrev pub some_term : Shown
some_term = step_at Stage.row (Event 0 0) 0 [] (record { a = pos 0; b = pos 0; c = pos 0; d = pos 0 })
