-- What a dictionary shows.
use Rattle.std.specs.Prelude.{ℕ, ◌+◌, ◌^◌, ◌<◌, Option}
use Rattle.rg_feasible.specs.Contents.{Contents}

-- a table of relations, and after a refutation the row that fails, counted among the rows
pub record DescentState : Type 0 where
  pub table : Contents
  pub failing : Option ℕ

-- what a dictionary stores: few variables, and a stack with room for a row a column and one more
pub record HasStack (d : DescentState) (room : ℕ) : Type 0 where
  pub few : d.table.columns + d.table.rows < 2 ^ 32
  pub space : d.table.columns < room
