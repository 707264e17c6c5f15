-- Nets of the factors side by side: their places are regions of the product that separate all its problems.
use Rattle.std.proofs.Common.{false, ◌≡◌, ◌≢◌, ℕ, zero, suc, ◌+◌, ◌-◌, ◌<◌, ◌≤◌, IsTrue, ◌⊎◌, inl, inr, List, [], ◌∷◌, map, Some, None, All, Any, Contains, get_or, slice_get, slice_index, refl, sym, ap, subst, ◌∙◌, arith}
use Rattle.std.specs.List.{AllZip}
use Rattle.std.proofs.lemmas.Bool.{cases_eq, cases_lt}
use Rattle.std.proofs.lemmas.Option.{same_Some, none-some, IfSome_then}
use Rattle.std.proofs.lemmas.List.Elements.{All-append, All-map, All-nil, Contains-append_left, Contains-append_right}
use Rattle.rg_theory.specs.System.{System, states, labels, HasArc, IsInRange, IsAllReachable}
use Rattle.rg_theory.specs.Net.{Place, Net, pre_weight, post_weight}
use Rattle.rg_theory.specs.Solves.{Solves}
use Rattle.rg_theory.specs.declared.Class.{Class}
use Rattle.rg_theory.specs.Class.{IsBounded, IsPlaceInClass, InClass}
use Rattle.rg_theory.specs.Region.{Region, IsRegionIn}
use Rattle.rg_theory.specs.declared.Problem.{Problem}
use Rattle.rg_theory.specs.declared.Problem.TheVariants.{Event, States}
use Rattle.rg_theory.specs.Problem.{IsProblem, Separates, IsSeparatedBy, SeparateAll}
use Rattle.rg_theory.proofs.Arcs.{arc_in_range}
use Rattle.rg_theory.proofs.Lists.{slice_get_some}
use Rattle.rg_theory.proofs.Solution.{solved_separates}
use Rattle.rg_theory.proofs.Classes.{solved_in_class, yes_in_class}
use Rattle.rg_product.specs.Product.{Factor, IsFactorAt, IsLabelAt, tuple_of, Moves, Product, AreInRange}
use Rattle.rg_product.specs.Beside.{widened, places_beside, net_beside, SolveEach}
use Rattle.rg_product.proofs.Tuples.{differ_at, tuple_is, moved, arc_of_entry, initial_entry, label_in_range}
use Rattle.rg_product.proofs.Weights.{StandsOnce, HasWeights, LacksWeights, widened_there, widened_absent, widened_weights}
use Rattle.rg_theory.proofs.Among.{any_of as any_from_contains}

-- ---- two lists with one entry for each of the other

pub zip_from : {A B : Type 0} (R Q : A → B → Type 0) (xs : List A) (ys : List B) → AllZip R xs ys → ((i : ℕ) (x : A) (y : B) → slice_get xs i ≡ Some x → R x y → Q x y) → AllZip Q xs ys
zip_from R Q [] [] zip go = tt
zip_from R Q [] (y ∷ ys) zip go = absurd zip
zip_from R Q (x ∷ xs) [] zip go = absurd zip
zip_from R Q (x ∷ xs) (y ∷ ys) zip go = (go zero x y refl zip.0, zip_from R Q xs ys zip.1 (λ i a b at. go (suc i) a b at))

pub zip_at : {A B : Type 0} (R : A → B → Type 0) (xs : List A) (ys : List B) → AllZip R xs ys → (i : ℕ) (x : A) → slice_get xs i ≡ Some x → (y : B) × (slice_get ys i ≡ Some y) × R x y
zip_at R [] [] zip i x at = absurd (none-some x at)
zip_at R [] (y ∷ ys) zip i x at = absurd zip
zip_at R (a ∷ xs) [] zip i x at = absurd zip
zip_at R (a ∷ xs) (y ∷ ys) zip zero x at = (y, refl, subst (λ z. R z y) (same_Some a x at) zip.0)
zip_at R (a ∷ xs) (y ∷ ys) zip (suc i) x at = zip_at R xs ys zip.1 i x at

-- a fact about all places of the nets, and about one
all_beside : (P : Place → Type 0) (n : ℕ) (factors : List Factor) (nets : List Net)
    → AllZip (λ f net. All (λ p. P (widened n f.labels p)) net.places) factors nets → All P (places_beside n factors nets)
all_beside P n [] [] zip = All-nil P
all_beside P n [] (net ∷ nets) zip = All-nil P
all_beside P n (f ∷ factors) [] zip = All-nil P
all_beside P n (f ∷ factors) (net ∷ nets) zip =
    All-append P (map (widened n f.labels) net.places) (places_beside n factors nets) (All-map P (widened n f.labels) net.places zip.0) (all_beside P n factors nets zip.1)

map_has : {A B : Type 0} (g : A → B) (xs : List A) (x : A) → Contains xs x → Contains (map g xs) (g x)
map_has g [] x (k, lt, e) = absurd (omega arith)
map_has g (a ∷ xs) x (zero, lt, e) = (zero, omega arith, ap g e)
map_has g (a ∷ xs) x (suc k, lt, e) = let (i, within, f) = map_has g xs x (k, omega arith, e) in (suc i, omega arith, f)

beside_has : (n : ℕ) (factors : List Factor) (nets : List Net) (i : ℕ) (f : Factor) (net : Net) (p : Place) → slice_get factors i ≡ Some f → slice_get nets i ≡ Some net → Contains net.places p
    → Contains (places_beside n factors nets) (widened n f.labels p)
beside_has n [] nets i f net p at at' has = absurd (none-some f at)
beside_has n (g ∷ factors) [] i f net p at at' has = absurd (none-some net at')
beside_has n (g ∷ factors) (other ∷ nets) zero f net p at at' has =
    let here = Contains-append_left (map (widened n g.labels) other.places) (places_beside n factors nets) (widened n g.labels p)
    (map_has (widened n g.labels) other.places p (subst (λ (x : Net). Contains x.places p) (sym (same_Some other net at')) has)) in
    subst (λ (x : Factor). Contains (places_beside n (g ∷ factors) (other ∷ nets)) (widened n x.labels p)) (same_Some g f at) here
beside_has n (g ∷ factors) (other ∷ nets) (suc i) f net p at at' has =
    Contains-append_right (map (widened n g.labels) other.places) (places_beside n factors nets) (widened n f.labels p) (beside_has n factors nets i f net p at at' has)

module _ (lts : System) (factors : List Factor) (tuples : List (List ℕ)) (fine : IsInRange lts) (inside : AreInRange factors) (product : Product lts factors tuples) where
  -- the numbers of a factor's states, at the states of the product
  abbrev pub lifted : (ℕ → ℕ) → ℕ → ℕ → ℕ
  lifted m i s = m (slice_index (tuple_of tuples s) i)

  pub once : (i : ℕ) (f : Factor) → IsFactorAt factors i f → (t : ℕ) → StandsOnce f.labels t
  once i f at t k l label label' = (product.shared.one t i k i l f f at label at label').1

  -- a label of another factor doesn't stand among those of this one
  pub elsewhere : (i j l t : ℕ) (f g : Factor) → IsFactorAt factors i f → IsFactorAt factors j g → IsLabelAt g l t → i ≢ j → (k : ℕ) → slice_get f.labels k ≡ Some t → ⊥
  elsewhere i j l t f g at at' label' other k label = other (product.shared.one t i k j l f g at label at' label').0

  pub lifted_region : (i : ℕ) (f : Factor) (p : Place) (m : ℕ → ℕ) → IsFactorAt factors i f → Region f.lts p m → Region lts (widened (labels lts) f.labels p) (lifted m i)
  lifted_region i f p m at region = record {
    start = ap m (initial_entry lts factors tuples fine inside product i f at) ∙ region.start;
    enabled = λ s t s' has. (by_label s t s' has).0;
    moved = λ s t s' has. (by_label s t s' has).1;
  }
    where
      own : (s t s' k : ℕ) → t < labels lts → IsLabelAt f k t → Moves f i k (tuple_of tuples s) (tuple_of tuples s')
          → (pre_weight (widened (labels lts) f.labels p) t ≤ lifted m i s)
          × (lifted m i s' ≡ lifted m i s - pre_weight (widened (labels lts) f.labels p) t + post_weight (widened (labels lts) f.labels p) t)
      own s t s' k lt label moves =
          let w = widened_there (labels lts) f.labels p t k lt (once i f at t) label in
          let enough = region.enabled (slice_index (tuple_of tuples s) i) k (slice_index (tuple_of tuples s') i) moves.1 in
          let steps = region.moved (slice_index (tuple_of tuples s) i) k (slice_index (tuple_of tuples s') i) moves.1 in (
            subst (λ n. n ≤ lifted m i s) (sym w.pre) enough,
            steps ∙ ap (λ n. lifted m i s - n + post_weight p k) (sym w.pre)
                ∙ ap (λ n. lifted m i s - pre_weight (widened (labels lts) f.labels p) t + n) (sym w.post),
          )

      away : (s t s' : ℕ) → t < labels lts → ((k : ℕ) → slice_get f.labels k ≡ Some t → ⊥) → slice_index (tuple_of tuples s) i ≡ slice_index (tuple_of tuples s') i
          → (pre_weight (widened (labels lts) f.labels p) t ≤ lifted m i s)
          × (lifted m i s' ≡ lifted m i s - pre_weight (widened (labels lts) f.labels p) t + post_weight (widened (labels lts) f.labels p) t)
      away s t s' lt none same =
          let w = widened_absent (labels lts) f.labels p t lt none in
          let a = w.pre in
          let b = w.post in
          let e : lifted m i s ≡ lifted m i s' = ap m same in
          (omega arith, omega arith)

      by_label : (s t s' : ℕ) → HasArc lts s t s'
          → (pre_weight (widened (labels lts) f.labels p) t ≤ lifted m i s)
          × (lifted m i s' ≡ lifted m i s - pre_weight (widened (labels lts) f.labels p) t + post_weight (widened (labels lts) f.labels p) t)
      by_label s t s' has =
          let (_, tl, _) = arc_in_range lts fine s t s' has in
          let (j, k, g, at', label) = product.shared.each t tl in
          which j k g tl at' label (cases_eq i j)
        where
          which : (j k : ℕ) (g : Factor) → t < labels lts → IsFactorAt factors j g → IsLabelAt g k t → (i ≡ j) ⊎ (i ≡ j → ⊥)
              → (pre_weight (widened (labels lts) f.labels p) t ≤ lifted m i s)
              × (lifted m i s' ≡ lifted m i s - pre_weight (widened (labels lts) f.labels p) t + post_weight (widened (labels lts) f.labels p) t)
          which j k g tl at' label (inl e) =
              let same : g ≡ f = same_Some g f (sym at' ∙ subst (λ n. IsFactorAt factors n f) e at) in
              let label' : IsLabelAt f k t = subst (λ (x : Factor). IsLabelAt x k t) same label in
              own s t s' k tl label' (moved lts factors tuples fine inside product s t s' i k f at label' has)
          which j k g tl at' label (inr other) =
              let moves = moved lts factors tuples fine inside product s t s' j k g at' label has in
              away s t s' tl (elsewhere i j k t f g at at' label other) (moves.0 i other)

  weights_in_class : (class : Class) (i : ℕ) (f : Factor) (p : Place) → IsFactorAt factors i f → IsPlaceInClass class (labels f.lts) p
      → IsPlaceInClass class (labels lts) (widened (labels lts) f.labels p)
  weights_in_class class i f p at of_class = record {
    pure = λ is t lt takes makes. no_loop is t takes makes (has t lt);
    plain = λ is t lt. small is t (has t lt);
    marking = of_class.marking;
    nonbranching = λ is t t' lt lt' takes takes'. one is t t' takes takes' (has t lt) (has t' lt');
  }
    where
      has : (t : ℕ) → t < labels lts → ((k : ℕ) × HasWeights f.labels p (widened (labels lts) f.labels p) t k) ⊎ LacksWeights f.labels (widened (labels lts) f.labels p) t
      has t lt = widened_weights (labels lts) f.labels p t lt (once i f at t)

      no_loop : IsTrue class.pure → (t : ℕ) → 0 < pre_weight (widened (labels lts) f.labels p) t → 0 < post_weight (widened (labels lts) f.labels p) t
          → ((k : ℕ) × HasWeights f.labels p (widened (labels lts) f.labels p) t k) ⊎ LacksWeights f.labels (widened (labels lts) f.labels p) t → ⊥
      no_loop is t takes makes (inl (k, w)) = of_class.pure is k (label_in_range lts factors tuples fine inside product i k t f at w.at) (let e = w.pre in omega arith) (let e = w.post in omega arith)
      no_loop is t takes makes (inr w) = let e = w.pre in omega arith

      small : IsTrue class.plain → (t : ℕ) → ((k : ℕ) × HasWeights f.labels p (widened (labels lts) f.labels p) t k) ⊎ LacksWeights f.labels (widened (labels lts) f.labels p) t
          → (pre_weight (widened (labels lts) f.labels p) t ≤ 1) × (post_weight (widened (labels lts) f.labels p) t ≤ 1)
      small is t (inl (k, w)) =
          let (a, b) = of_class.plain is k (label_in_range lts factors tuples fine inside product i k t f at w.at) in
          let e = w.pre in
          let e' = w.post in
          (omega arith, omega arith)
      small is t (inr w) = let e = w.pre in let e' = w.post in (omega arith, omega arith)

      one : IsTrue class.nonbranching → (t t' : ℕ) → 0 < pre_weight (widened (labels lts) f.labels p) t → 0 < pre_weight (widened (labels lts) f.labels p) t'
          → ((k : ℕ) × HasWeights f.labels p (widened (labels lts) f.labels p) t k) ⊎ LacksWeights f.labels (widened (labels lts) f.labels p) t
          → ((k : ℕ) × HasWeights f.labels p (widened (labels lts) f.labels p) t' k) ⊎ LacksWeights f.labels (widened (labels lts) f.labels p) t' → t ≡ t'
      one is t t' takes takes' (inr w) other = absurd (let e = w.pre in omega arith)
      one is t t' takes takes' (inl (k, w)) (inr v) = absurd (let e = v.pre in omega arith)
      one is t t' takes takes' (inl (k, w)) (inl (l, v)) =
          let same = of_class.nonbranching is k l (label_in_range lts factors tuples fine inside product i k t f at w.at) (label_in_range lts factors tuples fine inside product i l t' f at v.at)
          (let e = w.pre in omega arith) (let e = v.pre in omega arith) in
          same_Some t t' (sym w.at ∙ ap (slice_get f.labels) same ∙ v.at)

  pub lifted_in_class : (class : Class) (i : ℕ) (f : Factor) (p : Place) → IsFactorAt factors i f → IsRegionIn f.lts class p → IsRegionIn lts class (widened (labels lts) f.labels p)
  lifted_in_class class i f p at (m, is) = (
    lifted m i,
    record {
      region = lifted_region i f p m at is.region;
      allowed = record {
        weights = weights_in_class class i f p at is.allowed.weights;
        bounded = IfSome_then class.bound is.allowed.bounded (λ k below s lt. below (slice_index (tuple_of tuples s) i) ((tuple_is lts factors tuples fine inside product s lt).within i f at));
      };
    },
  )

  module _ (class : Class) (nets : List Net) (each : SolveEach class factors nets) where
    -- a place of a factor's net that separates a problem of the factor
    separates_above : (problem above : Problem) (i : ℕ) (f : Factor) → IsFactorAt factors i f → IsProblem f.lts problem
        → ((p : Place) (m : ℕ → ℕ) → Separates p m problem → Separates (widened (labels lts) f.labels p) (lifted m i) above)
        → Any (IsSeparatedBy lts above) (places_beside (labels lts) factors nets)
    separates_above problem above i f at is goes =
        let (net, at', (solves, of_class)) = zip_at (λ (x : Factor) (y : Net). Solves y x.lts × InClass y class) factors nets each i f at in
        let (k, p, lt, e, (m, region, sep)) = solved_separates f.lts net (inside i f at) solves problem is in
        any_from_contains (IsSeparatedBy lts above) (places_beside (labels lts) factors nets) (widened (labels lts) f.labels p)
        (beside_has (labels lts) factors nets i f net p at at' (k, lt, e)) (lifted m i, lifted_region i f p m at region, goes p m sep)

    events : (s t : ℕ) → IsProblem lts (Event s t) → Any (IsSeparatedBy lts (Event s t)) (places_beside (labels lts) factors nets)
    events s t (lt, tl, none) =
        let (i, k, f, at, label) = product.shared.each t tl in
        let here : slice_index (tuple_of tuples s) i < states f.lts = (tuple_is lts factors tuples fine inside product s lt).within i f at in
        let below : k < labels f.lts = label_in_range lts factors tuples fine inside product i k t f at label in
        separates_above (Event (slice_index (tuple_of tuples s) i) k) (Event s t) i f at
        (here, below, λ q has. (let (s', arc', _, _) = arc_of_entry lts factors tuples fine inside product s t i k q f lt at label has in none s' arc'))
        (λ p m sep. (let w = widened_there (labels lts) f.labels p t k tl (once i f at t) label in subst (λ n. lifted m i s < n) (sym w.pre) sep))

    pairs : (s s' : ℕ) → IsProblem lts (States s s') → Any (IsSeparatedBy lts (States s s')) (places_beside (labels lts) factors nets)
    pairs s s' (less, lt') =
        let lt : s < states lts = omega arith in
        let a = tuple_is lts factors tuples fine inside product s lt in
        let b = tuple_is lts factors tuples fine inside product s' lt' in
        let (i, within, differ) = differ_at (tuple_of tuples s) (tuple_of tuples s') (a.one_each ∙ sym b.one_each) (product.different s s' [] less (subst (λ n. s' < n) (sym product.one_each) lt')) in
        let (f, at) = slice_get_some factors i (let e = a.one_each in omega arith) in
        ordered i f at differ (a.within i f at) (b.within i f at) (cases_lt (slice_index (tuple_of tuples s) i) (slice_index (tuple_of tuples s') i))
      where
        ordered : (i : ℕ) (f : Factor) → IsFactorAt factors i f → slice_index (tuple_of tuples s) i ≢ slice_index (tuple_of tuples s') i → slice_index (tuple_of tuples s) i < states f.lts
            → slice_index (tuple_of tuples s') i < states f.lts
            → (slice_index (tuple_of tuples s) i < slice_index (tuple_of tuples s') i) ⊎ (slice_index (tuple_of tuples s') i ≤ slice_index (tuple_of tuples s) i)
            → Any (IsSeparatedBy lts (States s s')) (places_beside (labels lts) factors nets)
        ordered i f at differ lt lt' (inl rises) = separates_above (States (slice_index (tuple_of tuples s) i) (slice_index (tuple_of tuples s') i)) (States s s') i f at (rises, lt') (λ p m sep. sep)
        ordered i f at differ lt lt' (inr falls) =
            separates_above (States (slice_index (tuple_of tuples s') i) (slice_index (tuple_of tuples s) i)) (States s s') i f at (below differ falls, lt) (λ p m sep e. sep (sym e))
          where
            below : slice_index (tuple_of tuples s) i ≢ slice_index (tuple_of tuples s') i
                → slice_index (tuple_of tuples s') i ≤ slice_index (tuple_of tuples s) i → slice_index (tuple_of tuples s') i < slice_index (tuple_of tuples s) i
            below other le = omega arith

    all_separated : SeparateAll (places_beside (labels lts) factors nets) lts
    all_separated (Event s t) is = events s t is
    all_separated (States s s') is = pairs s s' is

    pub beside_solves : IsAllReachable lts → Solves (net_beside lts factors nets) lts × InClass (net_beside lts factors nets) class
    beside_solves reach =
        yes_in_class lts (net_beside lts factors nets) class fine reach refl
        (all_beside (IsRegionIn lts class) (labels lts) factors nets
        (zip_from (λ (x : Factor) (y : Net). Solves y x.lts × InClass y class) (λ (x : Factor) (y : Net). All (λ p. IsRegionIn lts class (widened (labels lts) x.labels p)) y.places) factors nets each
        (λ i f net at (solves, of_class). of_factor i f net at solves of_class)))
        all_separated
      where
        of_factor : (i : ℕ) (f : Factor) (net : Net) → IsFactorAt factors i f → Solves net f.lts → InClass net class → All (λ p. IsRegionIn lts class (widened (labels lts) f.labels p)) net.places
        of_factor i f net at solves of_class k d lt = lifted_in_class class i f (get_or net.places k d) at (solved_in_class f.lts net class (inside i f at) solves of_class k d lt)

-- ---- bounds

-- the class with no condition but this bound
abbrev pub bounded_class : ℕ → Class
bounded_class k = record { pure = false; plain = false; bound = Some k; marking = None; nonbranching = false }

bounded_in_class : (net : Net) (k : ℕ) → IsBounded net k → InClass net (bounded_class k)
bounded_in_class net k bounded = record {
  weights = λ i p at. record { pure = λ is. absurd (never is); plain = λ is. absurd (never is); marking = tt; nonbranching = λ is. absurd (never is) };
  bounded = bounded;
}
  where
    never : IsTrue false → ⊥
    never is = cc

-- where no net passes a bound, the nets side by side don't
pub beside_bounded : (lts : System) (factors : List Factor) (tuples : List (List ℕ)) (k : ℕ) (nets : List Net) → IsInRange lts → AreInRange factors → Product lts factors tuples → IsAllReachable lts
    → AllZip (λ f net. Solves net f.lts × IsBounded net k) factors nets → IsBounded (net_beside lts factors nets) k
beside_bounded lts factors tuples k nets fine inside product reach each =
    let both = zip_from (λ (f : Factor) (net : Net). Solves net f.lts × IsBounded net k) (λ (f : Factor) (net : Net). Solves net f.lts × InClass net (bounded_class k)) factors nets each
    (λ i f net at (solves, bounded). (solves, bounded_in_class net k bounded)) in
    (beside_solves lts factors tuples fine inside product (bounded_class k) nets both reach).1.bounded
