-- The weights of places for one label.
use Rattle.std.proofs.Common.{◌≡◌, ℕ, ◌<◌, List, length, map, get_or, sym, ap, ◌∙◌, subst, All}
use Rattle.std.proofs.lemmas.List.{length-map, get_or-map}
use Rattle.std.proofs.lemmas.List.Elements.{All-get_or}
use Rattle.rg_theory.specs.Net.{Net, HasAllWeights}
use Rattle.rg_net.specs.declared.net.Place.{Place}
use Rattle.rg_net.specs.Shown.{shown_place}

-- a place that is read has a weight of each kind for each label
pub has_weights : (places : List Place) (net : Net) (i : ℕ) (p : Place) → map shown_place places ≡ net.places → HasAllWeights net
    → i < length places → p ≡ get_or places i p
    → (length p.pre.items ≡ net.labels) × (length p.post.items ≡ net.labels)
has_weights places net i p shown all less is =
    subst (λ q. (length q.pre ≡ net.labels) × (length q.post ≡ net.labels))
    (get_or-map shown_place places i p (shown_place p) less ∙ ap shown_place (sym is))
    (All-get_or (λ q. (length q.pre ≡ net.labels) × (length q.post ≡ net.labels)) (map shown_place places) i (shown_place p)
    (subst (λ n. i < n) (sym (length-map places shown_place)) less)
    (subst (λ l. All (λ q. (length q.pre ≡ net.labels) × (length q.post ≡ net.labels)) l) (sym shown) all))
