-- Markings of the states as rows.
use Rattle.std.specs.Prelude.{◌≡◌, ◌-◌, ◌≤◌, List, length, All, pos, neg_ℤ}
use Rattle.rg_integers.specs.Range.{greatest}
use Rattle.rg_theory.specs.declared.Arc.{Arc}
use Rattle.rg_theory.specs.System.{System, states}
use Rattle.rg_theory.specs.Net.{Net, Marking, pre_weight, post_weight, tokens}
use Rattle.rg_net.specs.Firing.{IsFirstPassed}
use Rattle.rg_net_verdict.specs.declared.verdict.CheckWide.{CheckWide}

-- a row for each state, with a number for each place, in range
pub record AreRows (lts : System) (net : Net) (rows : List Marking) : Type 0 where
  pub one_each : length rows ≡ states lts
  pub places : All (λ m. length m ≡ length net.places) rows
  pub in_range : All (λ m. All (λ n. n ≤ greatest) m) rows

-- the firing along the arc from this marking passes: the state that it enters, the first place on which it does, and the numbers there
pub record IsShownPassed (net : Net) (m : Marking) (a : Arc) (w : CheckWide) : Type 0 where
  pub state : a.to ≡ w.state
  pub passed : IsFirstPassed net m a.label w.place
  pub shown : w.wide ≡ record { a = pos (tokens m w.place - pre_weight passed.place a.label); b = pos 1; c = neg_ℤ (pos (post_weight passed.place a.label)); d = pos 1 }
