-- Labels without an arc.
use Rattle.std.proofs.Common.{◌≡◌, ◌≢◌, ◌↔◌, ℕ, ◌<◌, ◌≤◌, List, length, get_or, replicate, All, Contains, refl, sym, ap, ◌∙◌, subst, ⊎_elim, arith}
use Rattle.std.specs.Prelude.{slice_index}
use Rattle.std.proofs.Math.ListN.{length-set}
use Rattle.std.proofs.lemmas.Bool.{cases_eq, cases_lt}
use Rattle.std.proofs.lemmas.List.{get_or-set_same, get_or-set_other, get_or-replicate, get_or_past, length-replicate}
use Rattle.std.proofs.lemmas.List.Elements.{All-from_get_or, All-contains, Contains-get_or}
use Rattle.rg_theory.specs.declared.Arc.{Arc}
use Rattle.rg_theory.specs.System.{System, states, labels, arc, IsDead}
use Rattle.rg_theory.specs.Net.{pre_weight, post_weight}
use Rattle.rg_theory.specs.declared.Class.{Class}
use Rattle.rg_theory.specs.declared.Problem.TheVariants.{Event}
use Rattle.rg_theory.specs.Region.{RegionIn, blocking}
use Rattle.rg_theory.proofs.Dead.{blocking_region}
use Rattle.rg_net.specs.Range.{IsPlaceInRange}
use Rattle.rg_integers.specs.Range.{greatest}
use Rattle.rg_net.specs.Shown.{shown_place}
use Rattle.rg_marks.specs.declared.region_place.RegionPlace.{RegionPlace}
use Rattle.rg_places.specs.RegionPlaces.{region_tokens, IsRegionPlace, PlaceSeparates}

arc_there : (arcs : List Arc) (k t : ℕ) (d : Arc) → k < length arcs → (get_or arcs k d).label ≡ t → Contains arcs (arc (get_or arcs k d).from t (get_or arcs k d).to)
arc_there arcs k t d lt e = subst (λ u. Contains arcs (arc (get_or arcs k d).from u (get_or arcs k d).to)) e (Contains-get_or arcs k d lt)

pub dead_from_arcs : (lts : System) (arcs : List Arc) (t : ℕ) → arcs ≡ lts.arcs → All (λ a. a.label ≢ t) arcs ↔ IsDead lts t
dead_from_arcs lts arcs t same = (
  (λ all s s' has. All-contains (λ a. a.label ≢ t) arcs (arc s t s') all (subst (λ xs. Contains xs (arc s t s')) (sym same) has) refl),
  (λ dead k d lt e. dead _ _ (subst (λ xs. Contains xs (arc (get_or arcs k d).from t (get_or arcs k d).to)) same (arc_there arcs k t d lt e))),
)

zero_at : (n s : ℕ) → slice_index (replicate n 0) s ≡ 0
zero_at n s = ⊎_elim
    (λ lt. get_or-replicate n s 0 0 lt)
    (λ past. get_or_past (replicate n 0) s 0 (subst (λ k. k ≤ s) (sym (length-replicate n 0)) past))
    (cases_lt s n)

-- the numbers of a list of zeros
no_tokens : (n : ℕ) (tokens : List ℕ) → tokens ≡ replicate n 0 → (s : ℕ) → 0 ≡ slice_index tokens s
no_tokens n tokens e s = sym (ap (λ xs. slice_index xs s) e ∙ zero_at n s)

blocked_in : (lts : System) (class : Class) (t : ℕ) (r : RegionPlace) → t < labels lts → IsDead lts t → shown_place r.place ≡ blocking (labels lts) t
    → r.tokens.items ≡ replicate (states lts) 0 → RegionIn lts class (shown_place r.place) (region_tokens r)
blocked_in lts class t r lt dead place tokens =
    let same : (λ (s : ℕ). 0) ≡ slice_index r.tokens.items = λ i s. no_tokens (states lts) r.tokens.items tokens s i in
    subst (λ p. RegionIn lts class p (region_tokens r)) (sym place) (subst (RegionIn lts class (blocking (labels lts) t)) same (blocking_region lts class t lt dead))

weights_small : (n t : ℕ) → t < n → (u : ℕ) → (pre_weight (blocking n t) u ≤ 1) × (post_weight (blocking n t) u ≡ 0)
weights_small n t lt u = (
  ⊎_elim
      (λ e. (let h : pre_weight (blocking n t) t ≡ 1 = get_or-set_same (replicate n 0) t 1 0 (subst (λ k. t < k) (sym (length-replicate n 0)) lt) in
      subst (λ v. pre_weight (blocking n t) v ≤ 1) (sym e) (omega arith)))
      (λ differ. (let h : pre_weight (blocking n t) u ≡ slice_index (replicate n 0) u = get_or-set_other (replicate n 0) t u 1 0 differ in let z = zero_at n u in omega arith))
      (cases_eq u t),
  zero_at n u,
)

-- the place that blocks a dead label is a region of every class
pub blocked_region : (lts : System) (class : Class) (t : ℕ) (r : RegionPlace) → t < labels lts → IsDead lts t
    → shown_place r.place ≡ blocking (labels lts) t → r.tokens.items ≡ replicate (states lts) 0 → IsRegionPlace lts class r
blocked_region lts class t r lt dead place tokens =
    record {
      states = ap length tokens ∙ length-replicate (states lts) 0;
      pre = ap (λ p. length p.pre) place ∙ length-set (replicate (labels lts) 0) t 1 ∙ length-replicate (labels lts) 0;
      post = ap (λ p. length p.post) place ∙ length-replicate (labels lts) 0;
      region = blocked_in lts class t r lt dead place tokens;
      in_range = subst IsPlaceInRange (sym place) (record {
        start = omega arith;
        pre = All-from_get_or (λ w. w ≤ greatest) (blocking (labels lts) t).pre 0 (λ u lt'. (let h = (weights_small (labels lts) t lt u).0 in omega arith));
        post = All-from_get_or (λ w. w ≤ greatest) (blocking (labels lts) t).post 0 (λ u lt'. (let h = (weights_small (labels lts) t lt u).1 in omega arith));
      });
      few_tokens = All-from_get_or (λ w. w ≤ greatest) r.tokens.items 0 (λ u lt'. (let h = no_tokens (states lts) r.tokens.items tokens u in omega arith));
    }

pub blocked_separates : (lts : System) (s t : ℕ) (r : RegionPlace) → t < labels lts → shown_place r.place ≡ blocking (labels lts) t
    → r.tokens.items ≡ replicate (states lts) 0 → PlaceSeparates (Event s t) r
blocked_separates lts s t r lt place tokens =
    let one : pre_weight (blocking (labels lts) t) t ≡ 1 = get_or-set_same (replicate (labels lts) 0) t 1 0 (subst (λ k. t < k) (sym (length-replicate (labels lts) 0)) lt) in
    let none = no_tokens (states lts) r.tokens.items tokens s in
    subst (λ p. region_tokens r s < pre_weight p t) (sym place) (omega arith)
