-- Places of the code as places of the theory.
use Rattle.rg_theory.specs.Net.{Place as PlaceOfTheory}
use Rattle.rg_net.specs.declared.net.Place.{Place}

-- the place with its weights as lists
abbrev pub shown_place : Place → PlaceOfTheory
shown_place p = record { start = p.start; pre = p.pre.items; post = p.post.items }
