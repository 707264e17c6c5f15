-- The places of a net whose numbers grow: their weights and ranges.
use Rattle.std.proofs.Common.{◌≡◌, ℕ, ◌<◌, ◌≤◌, List, length, map, get_or, set, Some, replicate, sym, ap, subst, ◌∙◌, arith}
use Rattle.std.proofs.lemmas.List.{map-set, length-map, length-set, get_or-map, length-replicate}
use Rattle.std.proofs.lemmas.List.Elements.{All-set, All-get_or, All-replicate}
use Rattle.std.proofs.lemmas.Option.{slice_get-get_or}
use Rattle.rg_theory.specs.Net.{Place as PlaceOfTheory, Net, IsPlaceAt}
use Rattle.rg_net.specs.Range.{IsNetInRange, IsPlaceInRange}
use Rattle.rg_integers.specs.Range.{greatest}
use Rattle.rg_net.specs.Shown.{shown_place}
use Rattle.rg_net.specs.declared.net.Place.{Place}
use Rattle.rg_netfile.specs.declared.slot.Slot.{Slot}
use Rattle.rg_netfile.specs.Built.{IsSlotIn}

-- a place whose numbers are all 0
abbrev pub zero_place : ℕ → PlaceOfTheory
zero_place labels = record { start = 0; pre = replicate labels 0; post = replicate labels 0 }

pub zeros_in_range : (labels count : ℕ) (places : List PlaceOfTheory) → places ≡ replicate count (zero_place labels) → count < 4294967296
    → IsNetInRange (record { labels = labels; places = places })
zeros_in_range labels count places is few = subst (λ ps. IsNetInRange (record { labels = labels; places = ps })) (sym is) (record {
  weights = All-replicate (λ p. (length p.pre ≡ labels) × (length p.post ≡ labels)) count (zero_place labels)
      (length-replicate labels 0, length-replicate labels 0);
  places = All-replicate IsPlaceInRange count (zero_place labels) (record {
    start = omega arith;
    pre = All-replicate (λ w. w ≤ greatest) labels 0 (omega arith);
    post = All-replicate (λ w. w ≤ greatest) labels 0 (omega arith);
  });
  few = omega (arith, length-replicate count (zero_place labels));
})

-- a place that is read stands in the net
pub place_at : (labels : ℕ) (places : List Place) (net : Net) (i : ℕ) (p : Place) → net ≡ record { labels = labels; places = map shown_place places }
    → i < length places → p ≡ get_or places i p → IsPlaceAt net i (shown_place p)
place_at labels places net i p is lt read =
    subst (λ n. IsPlaceAt n i (shown_place p)) (sym is)
    (slice_get-get_or (map shown_place places) i (shown_place p) (subst (λ n. i < n) (sym (length-map places shown_place)) lt)
    ∙ ap Some (get_or-map shown_place places i p (shown_place p) lt ∙ ap shown_place (sym read)))

pub in_range_at : (labels : ℕ) (places : List Place) (i : ℕ) (p : Place) → IsNetInRange (record { labels = labels; places = map shown_place places })
    → i < length places → p ≡ get_or places i p → IsPlaceInRange (shown_place p)
in_range_at labels places i p range lt read =
    subst IsPlaceInRange (get_or-map shown_place places i p (shown_place p) lt ∙ ap shown_place (sym read))
    (All-get_or IsPlaceInRange (map shown_place places) i (shown_place p) (subst (λ n. i < n) (sym (length-map places shown_place)) lt) range.places)

-- a place in range with as many weights goes in
pub set_in_range : (labels : ℕ) (places : List Place) (i : ℕ) (p new : Place) → IsNetInRange (record { labels = labels; places = map shown_place places })
    → (length p.pre.items ≡ labels) × (length p.post.items ≡ labels)
    → length new.pre.items ≡ length p.pre.items → length new.post.items ≡ length p.post.items → IsPlaceInRange (shown_place new)
    → IsNetInRange (record { labels = labels; places = map shown_place (set places i new) })
set_in_range labels places i p new range weights pre post fine =
    subst (λ ps. IsNetInRange (record { labels = labels; places = ps })) (sym (map-set shown_place places i new)) (record {
      weights = All-set (λ (q : PlaceOfTheory). (length q.pre ≡ labels) × (length q.post ≡ labels)) (map shown_place places) i (shown_place new)
          (pre ∙ weights.0, post ∙ weights.1) range.weights;
      places = All-set IsPlaceInRange (map shown_place places) i (shown_place new) fine range.places;
      few = subst (λ n. n < 4294967296) (sym (length-set (map shown_place places) i (shown_place new))) range.few;
    })

pub slot_in : (m n : ℕ) (slot : Slot) → m ≡ n → IsSlotIn m slot → IsSlotIn n slot
slot_in m n slot e h = subst (λ k. IsSlotIn k slot) e h

pub is_inside : (labels : ℕ) (places : List Place) (net : Net) (i : ℕ) → record { labels = labels; places = map shown_place places } ≡ net
    → i < length net.places → i < length places
is_inside labels places net i is lt = subst (λ n. i < n) (ap (λ (n : Net). length n.places) (sym is) ∙ length-map places shown_place) lt

-- the net with one place changed
pub set_is : (labels : ℕ) (places : List Place) (net : Net) (i : ℕ) (new : Place) (p : PlaceOfTheory) → net ≡ record { labels = labels; places = map shown_place places }
    → shown_place new ≡ p → record { labels = labels; places = map shown_place (set places i new) } ≡ record net { places = set net.places i p }
set_is labels places net i new p is shown =
    ap (λ ps. record { labels = labels; places = ps }) (map-set shown_place places i new ∙ ap (set (map shown_place places) i) shown)
    ∙ ap (λ (n : Net). record n { places = set n.places i p }) (sym is)
