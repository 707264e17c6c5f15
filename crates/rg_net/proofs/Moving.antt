-- The marking after a firing, place by place.
use Rattle.std.proofs.Common.{◌≡◌, ℕ, ◌+◌, ◌<◌, ◌≤◌, [], ◌∷◌, ◌++◌, length, All, sym, ap, ◌∙◌, arith, length-append}
use Rattle.std.proofs.lemmas.Grind.{get_or_default_zero}
use Rattle.std.proofs.lemmas.Option.{slice_get_within}
use Rattle.rg_integers.specs.Range.{greatest}
use Rattle.rg_theory.specs.Net.{Place, Net, Marking, IsPlaceAt, IsEnabled, Fires, tokens}
use Rattle.rg_theory.proofs.Lists.{slice_get_some, last_of, first_of}
use Rattle.rg_net.specs.Firing.{left_on, StaysInRange}
use Rattle.rg_net.proofs.Placing.{placed_more}

-- the places below i have what the firing leaves on them
pub record MovedSoFar (net : Net) (m : Marking) (t : ℕ) (after : Marking) (i : ℕ) : Type 0 where
  pub long : length after ≡ i
  pub moved : (j : ℕ) (p : Place) → j < i → IsPlaceAt net j p → tokens after j ≡ left_on m j p t

pub moved_next : (net : Net) (m : Marking) (t : ℕ) (after : Marking) (i : ℕ) (p : Place) (n : ℕ) → MovedSoFar net m t after i → IsPlaceAt net i p
    → n ≡ left_on m i p t → MovedSoFar net m t (after ++ n ∷ []) (i + 1)
moved_next net m t after i p n so_far at is =
    record {
      long = length-append after (n ∷ []) ∙ ap (λ k. k + 1) so_far.long;
      moved = placed_more (λ j q. tokens (after ++ n ∷ []) j ≡ left_on m j q t) net i p
          (λ j q lt at'. first_of after n j (let long = so_far.long in omega arith) ∙ so_far.moved j q lt at') at (last_of after n i (sym so_far.long) ∙ is);
    }

pub moved_fires : (net : Net) (m : Marking) (t : ℕ) (after : Marking) (i : ℕ) → t < net.labels → IsEnabled net m t → i ≡ length net.places → MovedSoFar net m t after i → Fires net m t after
moved_fires net m t after i label enabled all so_far =
    record {
      label = label;
      enabled = enabled;
      places = so_far.long ∙ all;
      moved = λ j p at. so_far.moved j p (let lt = slice_get_within net.places j p at in omega arith) at;
    }

pub moved_in_range : (net : Net) (m : Marking) (t : ℕ) (after : Marking) (i : ℕ) → StaysInRange net m t → i ≡ length net.places → MovedSoFar net m t after i → All (λ n. n ≤ greatest) after
moved_in_range net m t after i stays all so_far = λ j d lt.
    (let long = so_far.long in
    let (p, at) = slice_get_some net.places j (omega arith) in
    let is = so_far.moved j p (omega arith) at in
    let most = stays j p at in
    let same = get_or_default_zero after j d lt in
    omega arith)
