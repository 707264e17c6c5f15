-- A place, and the places after it that may separate its problems.
use Rattle.std.specs.Prelude.{List}
use Rattle.rg_theory.specs.System.{System}
use Rattle.rg_theory.specs.Net.{Place}
use Rattle.rg_marks.specs.Firsts.{AreFirsts}
use Rattle.rg_marks.specs.Separated.{SeparateSoMuch}
use Rattle.rg_marks.specs.declared.firsts.Firsts.{Firsts}
use Rattle.rg_marks.specs.declared.separated.Separated.{Separated}

-- a place that is the first to separate some problems, and places after it that separate so much
pub record IsPending (lts : System) (firsts : Firsts) (separated : Separated) : Type 0 where
  pub front : List Place
  pub p : Place
  pub behind : List Place
  pub are_firsts : AreFirsts lts front p firsts
  pub so_much : SeparateSoMuch lts behind separated
