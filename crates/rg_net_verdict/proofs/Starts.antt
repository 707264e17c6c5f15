-- The starts of the places.
use Rattle.std.proofs.Common.{◌≡◌, List, [], ◌∷◌, map, refl, ap, ◌∙◌}
use Rattle.rg_theory.specs.Net.{Net, start_marking}
use Rattle.rg_net.specs.declared.net.Place.{Place}
use Rattle.rg_net.specs.Shown.{shown_place}

starts_shown : (ps : List Place) → map (λ (p : Place). p.start) ps ≡ map (λ p. p.start) (map shown_place ps)
starts_shown [] = refl
starts_shown (p ∷ ps) = ap (λ l. p.start ∷ l) (starts_shown ps)

pub starts_are : (net : Net) (ps : List Place) → map shown_place ps ≡ net.places → map (λ (p : Place). p.start) ps ≡ start_marking net
starts_are net ps are = starts_shown ps ∙ ap (map (λ p. p.start)) are
