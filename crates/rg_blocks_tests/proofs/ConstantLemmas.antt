-- What places give that no arc changes.
use Rattle.std.specs.Prelude.{slice_index}
use Rattle.std.proofs.Common.{◌≡◌, ◌⊎◌, ◌↔◌, inl, inr, IsTrue, nat_lt, ltb-true, ℕ, zero, suc, ◌<◌, ◌≤◌, List, [], ◌∷◌, ◌++◌, map, All, Any, length, replicate, refl, sym, ap, subst, ◌∙◌, arith}
use Rattle.std.proofs.lemmas.Bool.{cases_lt, lt-ltb}
use Rattle.std.proofs.lemmas.List.{length-replicate, get_or-replicate, map-append}
use Rattle.std.proofs.lemmas.List.Elements.{All-append, All-cons, All-map}
use Rattle.rg_theory.specs.System.{System, states, labels, IsAllReachable}
use Rattle.rg_theory.specs.Net.{Place, pre_weight}
use Rattle.rg_theory.specs.Region.{Region, IsRegion}
use Rattle.rg_theory.specs.declared.Problem.{Problem}
use Rattle.rg_theory.specs.declared.Problem.TheVariants.{Event, States}
use Rattle.rg_theory.specs.Problem.{IsProblem, IsSeparatedBy}
use Rattle.rg_theory.proofs.Yes.{region_unique}
use Rattle.rg_net.specs.Shown.{shown_place}
use Rattle.rg_marks.specs.declared.region_place.RegionPlace.{RegionPlace}
use Rattle.rg_outcome.specs.Solving.{Solved.placed}
use Rattle.rg_outcome.specs.Coming.{IsSeparated}
use Rattle.rg_marks.specs.Cells.{AreAllApart}
use Rattle.rg_marks.specs.Tokens.{IsNarrow, AreTokens}
use Rattle.rg_blocks.specs.Taking.{AreNotable}
use Rattle.rg_blocks.specs.Separating.{EachPlaceSeparates}
use Rattle.rg_blocks_tests.specs.Constant.{HasDead, IsConstant, Stops, RegionStops, RegionIsConstant, HasNoToken, MayCome}

-- a place that no arc changes is a region, with the same number at each state
pub constant_region : (lts : System) (p : Place) → IsConstant lts p → Region lts p (λ q. p.start)
constant_region lts p constant = record {
  start = refl;
  enabled = λ s t s' has. (let e = constant.pre s t s' has in omega arith);
  moved = λ s t s' has. (let e = constant.pre s t s' has in let f = constant.post s t s' has in omega arith);
}

pub separates : (lts : System) (s t : ℕ) (p : Place) → IsConstant lts p → Stops t p → IsSeparatedBy lts (Event s t) p
separates lts s t p constant stops = ((λ q. p.start), constant_region lts p constant, stops)

-- the places as places of the theory
abbrev pub shown : List RegionPlace → List Place
shown kept = map (λ r. shown_place r.place) kept

pub some_separates : (lts : System) (s t : ℕ) (kept : List RegionPlace) → All (RegionIsConstant lts) kept → Any (RegionStops t) kept → IsSeparated lts (shown kept) (Event s t)
some_separates lts s t [] all (k, r, below, e, stops) = absurd (omega arith)
some_separates lts s t (x ∷ kept) all (zero, r, below, e, stops) =
    (0, shown_place x.place, omega arith, refl, separates lts s t (shown_place x.place) (all 0 x (omega arith)) (subst (RegionStops t) (sym e) stops))
some_separates lts s t (x ∷ kept) all (suc k, r, below, e, stops) =
    let (j, p, below', e', sep) = some_separates lts s t kept (λ i y less. all (suc i) y (omega arith)) (k, r, omega arith, e, stops) in (suc j, p, omega arith, e', sep)

module _ (lts : System) (reachable : IsAllReachable lts) where
  -- any numbers that fit the place are that one
  pub has_start : (p : Place) (m : ℕ → ℕ) → IsConstant lts p → Region lts p m → (s : ℕ) → s < states lts → m s ≡ p.start
  has_start p m constant region s lt = region_unique lts p m (λ q. p.start) region (constant_region lts p constant) s (reachable.each s lt)

  pub is_stopped : (s t : ℕ) (p : Place) → s < states lts → IsConstant lts p → IsSeparatedBy lts (Event s t) p → Stops t p
  is_stopped s t p lt constant (m, region, less) = subst (λ n. n < pre_weight p t) (has_start p m constant region s lt) less

  pub never_apart : (s r : ℕ) (p : Place) → IsProblem lts (States s r) → IsConstant lts p → ¬ IsSeparatedBy lts (States s r) p
  never_apart s r p is constant (m, region, differ) =
      differ (has_start p m constant region s (let a = is.0 in let b = is.1 in omega arith) ∙ sym (has_start p m constant region r is.1))

  pub some_is_stopped : (s t : ℕ) (kept : List RegionPlace) → s < states lts → All (RegionIsConstant lts) kept → IsSeparated lts (shown kept) (Event s t) → Any (RegionStops t) kept
  some_is_stopped s t [] lt all (k, p, below, e, sep) = absurd (omega arith)
  some_is_stopped s t (x ∷ kept) lt all (zero, p, below, e, sep) =
      (0, x, omega arith, refl, is_stopped s t (shown_place x.place) lt (all 0 x (omega arith)) (subst (IsSeparatedBy lts (Event s t)) (sym e) sep))
  some_is_stopped s t (x ∷ kept) lt all (suc k, p, below, e, sep) =
      let (j, r, below', e', stops) = some_is_stopped s t kept lt (λ i y less. all (suc i) y (omega arith)) (k, p, omega arith, e, sep) in (suc j, r, omega arith, e', stops)

  pub none_apart : (s r : ℕ) (kept : List RegionPlace) → IsProblem lts (States s r) → All (RegionIsConstant lts) kept → ¬ IsSeparated lts (shown kept) (States s r)
  none_apart s r [] is all (k, p, below, e, sep) = absurd (omega arith)
  none_apart s r (x ∷ kept) is all (zero, p, below, e, sep) = never_apart s r (shown_place x.place) is (all 0 x (omega arith)) (subst (IsSeparatedBy lts (States s r)) (sym e) sep)
  none_apart s r (x ∷ kept) is all (suc k, p, below, e, sep) = none_apart s r kept is (λ i y less. all (suc i) y (omega arith)) (k, p, omega arith, e, sep)

  -- such places distinguish every two states only where there is at most one
  pub all_apart : (kept : List RegionPlace) → All (RegionIsConstant lts) kept → IsTrue (nat_lt (states lts) 2) ↔ AreAllApart lts (shown kept)
  all_apart kept all = (to, from)
    where
      to : IsTrue (nat_lt (states lts) 2) → AreAllApart lts (shown kept)
      to is s s' (order, last) = let few = ltb-true (states lts) 2 is in absurd (omega arith)

      from : AreAllApart lts (shown kept) → IsTrue (nat_lt (states lts) 2)
      from apart = go (cases_lt (states lts) 2)
        where
          go : (states lts < 2) ⊎ (2 ≤ states lts) → IsTrue (nat_lt (states lts) 2)
          go (inl less) = lt-ltb (states lts) 2 less
          go (inr most) = let has : IsProblem lts (States 0 1) = (omega arith, omega arith) in absurd (none_apart 0 1 kept has all (apart 0 1 has))

  -- a place without a token is a region, and what it has at each state is told
  pub notable : AreNotable lts (HasNoToken lts)
  notable = record { each = λ r is. (narrow r is, tokens r is) }
    where
      narrow : (r : RegionPlace) → HasNoToken lts r → IsNarrow lts (shown_place r.place)
      narrow r is = record {
        m = λ q. r.place.start;
        region = constant_region lts (shown_place r.place) is.constant;
        narrow = λ s lt. (let z = is.start in omega arith);
        pre = is.pre;
        post = is.post;
      }

      tokens : (r : RegionPlace) → HasNoToken lts r → AreTokens lts (shown_place r.place) r.tokens.items
      tokens r is = record {
        one_each = ap length is.tokens ∙ length-replicate (states lts) 0;
        each = λ m region s lt.
            ap (λ xs. slice_index xs s) is.tokens ∙ get_or-replicate (states lts) s 0 0 lt ∙ sym is.start
            ∙ sym (has_start (shown_place r.place) m is.constant region s lt);
      }

pub separating : (lts : System) → EachPlaceSeparates lts (MayCome lts)
separating lts = record { separate = separate }
  where
    separate : (problem : Problem) (p : Place) → IsProblem lts problem → MayCome lts problem (placed p) → IsSeparatedBy lts problem p
    separate (Event s t) p is (constant, stops) = separates lts s t p constant stops
    separate (States s r) p is never = absurd never

-- one more place that no arc changes
pub one_more : (lts : System) (kept after : List RegionPlace) (r : RegionPlace) → All (RegionIsConstant lts) kept → RegionIsConstant lts r → after ≡ kept ++ r ∷ [] → All (RegionIsConstant lts) after
one_more lts kept after r all one is =
    subst (All (RegionIsConstant lts)) (sym is) (All-append (RegionIsConstant lts) kept (r ∷ []) all (All-cons (RegionIsConstant lts) r [] one (λ k d lt. absurd (omega arith))))

-- the places that are kept are those before, and the one that is given without its tokens
pub one_more_shown : (kept after : List RegionPlace) (r : RegionPlace) (p : Place) → after ≡ kept ++ r ∷ [] → shown_place r.place ≡ p → shown after ≡ shown kept ++ p ∷ []
one_more_shown kept after r p is same = ap shown is ∙ map-append (λ x. shown_place x.place) kept (r ∷ []) ∙ ap (λ q. shown kept ++ q ∷ []) same

-- places that no arc changes are regions
pub all_regions : (lts : System) (kept : List RegionPlace) → All (RegionIsConstant lts) kept → All (IsRegion lts) (shown kept)
all_regions lts kept all = All-map (IsRegion lts) (λ r. shown_place r.place) kept (λ k r lt. (_, constant_region lts _ (all k r lt)))

no_weight : (n t : ℕ) → slice_index (replicate n 0) t ≡ 0
no_weight zero t = refl
no_weight (suc n) zero = refl
no_weight (suc n) (suc t) = no_weight n t

-- a place without tokens that takes some with the first labels alone, which have no arc, and gives none
pub has_no_token : (lts : System) (n : ℕ) (r : RegionPlace) → HasDead n lts → r.place.start ≡ 0 → length r.place.pre.items ≡ labels lts → ((t : ℕ) → n ≤ t → slice_index r.place.pre.items t ≡ 0)
    → r.place.post.items ≡ replicate (labels lts) 0 → r.tokens.items ≡ replicate (states lts) 0 → HasNoToken lts r
has_no_token lts n r has start long pre post tokens = record {
  constant = record {
    pre = λ s t s' arc. pre t (has.dead s t s' arc);
    post = λ s t s' arc. ap (λ xs. slice_index xs t) post ∙ no_weight (labels lts) t;
  };
  start = start;
  pre = long;
  post = ap length post ∙ length-replicate (labels lts) 0;
  tokens = tokens;
}
