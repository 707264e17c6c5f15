-- Places with their tokens at the states, tried arc by arc.
use Rattle.std.specs.Prelude.{◌≡◌, ℕ, ◌+◌, ◌-◌, ◌≤◌, List, length, All, slice_index}
use Rattle.rg_theory.specs.declared.Arc.{Arc}
use Rattle.rg_theory.specs.System.{System, states, labels}
use Rattle.rg_theory.specs.Net.{Place, pre_weight, post_weight}
use Rattle.rg_integers.specs.Range.{greatest}

-- there are enough tokens for the arc, and it moves them as a firing does
pub record Moves (p : Place) (tokens : List ℕ) (a : Arc) : Type 0 where
  pub enough : pre_weight p a.label ≤ slice_index tokens a.from
  pub moved : slice_index tokens a.to ≡ slice_index tokens a.from - pre_weight p a.label + post_weight p a.label

-- one weight of each kind for each label and one number for each state, which begin at the start and follow all arcs; none is over 2^127 - 1
pub record IsRegionBy (lts : System) (p : Place) (tokens : List ℕ) : Type 0 where
  pub pre : length p.pre ≡ labels lts
  pub post : length p.post ≡ labels lts
  pub one_each : length tokens ≡ states lts
  pub start : slice_index tokens lts.initial ≡ p.start
  pub few : All (λ n. n ≤ greatest) tokens
  pub arcs : All (Moves p tokens) lts.arcs
