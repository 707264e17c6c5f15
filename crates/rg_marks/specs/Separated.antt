-- What some places separate.
use Rattle.std.specs.Prelude.{◌≡◌, ◌⊎◌, List, Contains}
use Rattle.rg_theory.specs.System.{System}
use Rattle.rg_theory.specs.Net.{Place}
use Rattle.rg_marks.specs.Stops.{rows_in, MarksStops}
use Rattle.rg_marks.specs.Cells.{AreCells, AreNumbered}
use Rattle.rg_marks.specs.declared.separated.Separated.{Separated}

-- the labels that the places stop, and the states that they don't distinguish
pub record SeparateSoMuch (lts : System) (places : List Place) (separated : Separated) : Type 0 where
  pub stops : MarksStops lts places (rows_in separated.stops.items)
  pub cells : AreCells lts places separated.cells.items
  pub numbered : AreNumbered separated.cells.items

-- some places separate so much
pub record AreSome (lts : System) (separated : Separated) : Type 0 where
  pub places : List Place
  pub so_much : SeparateSoMuch lts places separated

-- the longer list has this one, those of the other list, and no more, in any order
pub record AddsOne {X : Type 0} (x : X) (xs more : List X) : Type 0 where
  pub here : Contains more x
  pub stay : (y : X) → Contains xs y → Contains more y
  pub only : (y : X) → Contains more y → (x ≡ y) ⊎ Contains xs y
