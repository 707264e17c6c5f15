-- The places of a net that solves a system, as pruning wants them.
use Rattle.std.proofs.Common.{◌≡◌, ◌<◌, List, length, map, get_or, All, Some, slice_get, ap, sym, subst, ◌∙◌}
use Rattle.std.proofs.lemmas.List.{length-map, get_or-map}
use Rattle.std.proofs.lemmas.Option.{slice_get-get_or}
use Rattle.rg_integers.specs.Range.{greatest}
use Rattle.rg_theory.specs.System.{System, IsInRange}
use Rattle.rg_theory.specs.Net.{Net, IsPlaceAt, tokens}
use Rattle.rg_theory.specs.Solves.{Solves, marking_of}
use Rattle.rg_theory.specs.Class.{IsBounded}
use Rattle.rg_theory.proofs.Markings.{IsSolution}
use Rattle.rg_theory.proofs.Solution.{solution_of, places_are_regions}
use Rattle.rg_net.specs.Range.{IsNetInRange}
use Rattle.rg_net.specs.Shown.{shown_place}
use Rattle.rg_net.specs.declared.net.Place.{Place as PlaceOfCode}
use Rattle.rg_net.proofs.Placing.{weights_of}
use Rattle.rg_marks.specs.Tokens.{IsNarrow}

pub narrow_places : (lts : System) (net : Net) (places : List PlaceOfCode) → IsInRange lts → IsNetInRange net → Solves net lts
    → IsBounded net greatest → map shown_place places ≡ net.places → All (λ p. IsNarrow lts (shown_place p)) places
narrow_places lts net places fine range sol bounded are k d lt = record {
  m = λ s. tokens (marking_of sol.markings s) k;
  region = places_are_regions lts net (marking_of sol.markings) is k (shown_place (get_or places k d)) at;
  narrow = λ s lt'. bounded (marking_of sol.markings s) (is.all s lt') k (shown_place (get_or places k d)) at;
  pre = weights.0 ∙ sol.transitions;
  post = weights.1 ∙ sol.transitions;
}
  where
    is : IsSolution net lts (marking_of sol.markings)
    is = solution_of lts net fine sol

    at : IsPlaceAt net k (shown_place (get_or places k d))
    at =
        subst (λ l. slice_get l k ≡ Some (shown_place (get_or places k d))) are
        (slice_get-get_or (map shown_place places) k (shown_place d) (subst (λ n. k < n) (sym (length-map places shown_place)) lt)
        ∙ ap Some (get_or-map shown_place places k d (shown_place d) lt))

    weights : (length (get_or places k d).pre.items ≡ net.labels) × (length (get_or places k d).post.items ≡ net.labels)
    weights = weights_of net k (shown_place (get_or places k d)) range at
