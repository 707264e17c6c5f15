-- Cells of states that places don't distinguish.
use Rattle.std.specs.Prelude.{◌≡◌, ◌≢◌, ◌↔◌, ℕ, ◌<◌, List, length, Any, slice_index}
use Rattle.rg_theory.specs.System.{System, states}
use Rattle.rg_theory.specs.Net.{Place}
use Rattle.rg_theory.specs.declared.Problem.TheVariants.{States}
use Rattle.rg_theory.specs.Problem.{IsProblem, IsSeparatedBy}

-- each state has the number of a cell, and two have different ones exactly where one of the places distinguishes them
pub record AreCells (lts : System) (places : List Place) (cells : List ℕ) : Type 0 where
  pub one_each : length cells ≡ states lts
  pub apart : (s s' : ℕ) → s < states lts → s' < states lts → (slice_index cells s ≢ slice_index cells s') ↔ Any (IsSeparatedBy lts (States s s')) places

-- each cell is numbered by one of its states
pub record AreNumbered (cells : List ℕ) : Type 0 where
  pub within : (s : ℕ) → s < length cells → slice_index cells s < length cells
  pub own : (s : ℕ) → s < length cells → slice_index cells (slice_index cells s) ≡ slice_index cells s

-- each state is alone in its cell, which is numbered by it
abbrev pub AreSingle : List ℕ → Type 0
AreSingle cells = (s : ℕ) → s < length cells → slice_index cells s ≡ s

-- the places distinguish every two states: each state problem is separated
abbrev pub AreAllApart : System → List Place → Type 0
AreAllApart lts places = (s s' : ℕ) → IsProblem lts (States s s') → Any (IsSeparatedBy lts (States s s')) places

-- the new cells: two states are in one cell exactly where they were and have the same number of tokens; they are
-- numbered by their states where the former ones were
pub record AreRefined (cells tokens refined : List ℕ) : Type 0 where
  pub one_each : length refined ≡ length cells
  pub same : (s s' : ℕ) → s < length cells → s' < length cells
      → (slice_index refined s ≡ slice_index refined s') ↔ ((slice_index cells s ≡ slice_index cells s') × (slice_index tokens s ≡ slice_index tokens s'))
  pub numbered : AreNumbered cells → AreNumbered refined
