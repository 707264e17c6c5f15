-- No place of nets side by side can be left out where no place of each net can.
use Rattle.std.proofs.Common.{◌≡◌, ◌≢◌, ℕ, zero, suc, ◌+◌, ◌<◌, ◌≤◌, ◌⊎◌, inl, inr, List, [], ◌∷◌, ◌++◌, length, map, Any, Contains, Some, get_or, slice_get, refl, sym, ap, subst, ◌∙◌, arith}
use Rattle.std.specs.List.{AllZip}
use Rattle.std.proofs.lemmas.Bool.{cases_eq, cases_lt}
use Rattle.std.proofs.lemmas.Option.{same_Some, none-some, slice_get_within, get_or_from_slice_get}
use Rattle.std.proofs.lemmas.List.Elements.{All-contains, Contains-get_or}
use Rattle.rg_theory.specs.System.{System, states, labels, IsInRange, IsAllReachable}
use Rattle.rg_theory.specs.Net.{Place, Net, pre_weight}
use Rattle.rg_theory.specs.Solves.{Solves}
use Rattle.rg_theory.specs.Region.{Region, IsRegion}
use Rattle.rg_theory.specs.declared.Problem.{Problem}
use Rattle.rg_theory.specs.declared.Problem.TheVariants.{Event, States}
use Rattle.rg_theory.specs.Problem.{IsProblem, Separates, IsSeparatedBy, SeparateAll}
use Rattle.rg_theory.specs.Pruned.{others, net_without}
use Rattle.rg_theory.proofs.Among.{one_of, any_of}
use Rattle.rg_theory.proofs.Lists.{slice_get_some, there_at, index_of}
use Rattle.rg_theory.proofs.Solution.{solved_regions, solved_separates}
use Rattle.rg_theory.proofs.Yes.{region_unique, yes}
use Rattle.rg_product.specs.Product.{Factor, IsFactorAt, Product, AreInRange}
use Rattle.rg_product.specs.Beside.{widened, places_beside, net_beside, IsIrredundant}
use Rattle.rg_product.proofs.Tuples.{factor_reachable, label_of}
use Rattle.rg_product.proofs.Weights.{widened_there, widened_absent}
use Rattle.rg_product.proofs.Widening.{zip_at, lifted, once, elsewhere, lifted_region}
use Rattle.rg_product.proofs.Narrowing.{placed, placed_is, placed_entry, placed_differ, placed_agree, arc_of_factor}

-- ---- a place among others

other_at : (xs : List Place) (j : ℕ) (x : Place) → Contains (others xs j) x → (k : ℕ) × (k ≢ j) × (slice_get xs k ≡ Some x)
other_at xs j x has = (let (l, at) = index_of (others xs j) x has in from xs j l at)
  where
    from : (ys : List Place) (i l : ℕ) → slice_get (others ys i) l ≡ Some x → (k : ℕ) × (k ≢ i) × (slice_get ys k ≡ Some x)
    from [] zero l at = absurd (none-some x at)
    from [] (suc i) l at = absurd (none-some x at)
    from (a ∷ ys) zero l at = (suc l, (λ e. omega arith), at)
    from (a ∷ ys) (suc i) zero at = (zero, (λ e. omega arith), at)
    from (a ∷ ys) (suc i) (suc l) at = (let (k, differ, is) = from ys i l at in (suc k, (λ e. differ (omega (arith, e))), is))

has_other : (xs : List Place) (j k : ℕ) (x : Place) → k ≢ j → slice_get xs k ≡ Some x → Contains (others xs j) x
has_other [] j k x differ at = absurd (none-some x at)
has_other (a ∷ xs) zero zero x differ at = absurd (differ refl)
has_other (a ∷ xs) zero (suc k) x differ at = there_at xs k x at
has_other (a ∷ xs) (suc j) zero x differ at = (zero, omega arith, same_Some a x at)
has_other (a ∷ xs) (suc j) (suc k) x differ at =
    let (l, within, e) = has_other xs j k x (λ same. differ (ap suc same)) at in
    (suc l, omega arith, e)

-- ---- which net a place is of

-- how many places the nets before have
abbrev places_before : List Net → ℕ → ℕ
places_before nets zero = 0
places_before [] (suc i) = 0
places_before (net ∷ nets) (suc i) = length net.places + places_before nets i

-- place number j of all is place k of the net of factor i
record IsPlaceOf (n : ℕ) (factors : List Factor) (nets : List Net) (j : ℕ) (x : Place) : Type 0 where
  pub i : ℕ
  pub k : ℕ
  pub f : Factor
  pub net : Net
  pub p : Place
  pub factor : IsFactorAt factors i f
  pub of_net : slice_get nets i ≡ Some net
  pub at : slice_get net.places k ≡ Some p
  pub is : x ≡ widened n f.labels p
  pub number : j ≡ places_before nets i + k

mapped_or_rest : (g : Place → Place) (xs ys : List Place) (j : ℕ) (x : Place) → slice_get (map g xs ++ ys) j ≡ Some x
    → ((p : Place) × (slice_get xs j ≡ Some p) × (x ≡ g p)) ⊎ ((m : ℕ) × (slice_get ys m ≡ Some x) × (j ≡ length xs + m))
mapped_or_rest g [] ys j x at = inr (j, at, omega arith)
mapped_or_rest g (a ∷ xs) ys zero x at = inl (a, refl, sym (same_Some (g a) x at))
mapped_or_rest g (a ∷ xs) ys (suc j) x at = by (mapped_or_rest g xs ys j x at)
  where
    by : ((p : Place) × (slice_get xs j ≡ Some p) × (x ≡ g p)) ⊎ ((m : ℕ) × (slice_get ys m ≡ Some x) × (j ≡ length xs + m))
        → ((p : Place) × (slice_get (a ∷ xs) (suc j) ≡ Some p) × (x ≡ g p)) ⊎ ((m : ℕ) × (slice_get ys m ≡ Some x) × (suc j ≡ length (a ∷ xs) + m))
    by (inl found) = inl found
    by (inr (m, later, e)) = inr (m, later, omega arith)

net_place : (n : ℕ) (factors : List Factor) (nets : List Net) (j : ℕ) (x : Place) → slice_get (places_beside n factors nets) j ≡ Some x → IsPlaceOf n factors nets j x
net_place n [] nets j x at = absurd (none-some x at)
net_place n (f ∷ factors) [] j x at = absurd (none-some x at)
net_place n (f ∷ factors) (net ∷ nets) j x at =
    by (mapped_or_rest (widened n f.labels) net.places (places_beside n factors nets) j x at) (λ m later. net_place n factors nets m x later)
  where
    by : ((p : Place) × (slice_get net.places j ≡ Some p) × (x ≡ widened n f.labels p)) ⊎ ((m : ℕ) × (slice_get (places_beside n factors nets) m ≡ Some x) × (j ≡ length net.places + m))
        → ((m : ℕ) → slice_get (places_beside n factors nets) m ≡ Some x → IsPlaceOf n factors nets m x) → IsPlaceOf n (f ∷ factors) (net ∷ nets) j x
    by (inl (p, here, e)) rest = record { i = zero; k = j; f = f; net = net; p = p; factor = refl; of_net = refl; at = here; is = e; number = omega arith }
    by (inr (m, later, e)) rest =
        let o = rest m later in
        let number = o.number in
        record { i = suc o.i; k = o.k; f = o.f; net = o.net; p = o.p; factor = o.factor; of_net = o.of_net; at = o.at; is = o.is; number = omega arith }

-- ---- the net of a factor without the place

separates_as : (lts : System) (p : Place) (m m' : ℕ → ℕ) → ((s : ℕ) → s < states lts → m s ≡ m' s) → (problem : Problem) → IsProblem lts problem → Separates p m problem → Separates p m' problem
separates_as lts p m m' same (Event s t) (lt, _, _) sep = subst (λ n. n < pre_weight p t) (same s lt) sep
separates_as lts p m m' same (States s s') (less, lt) sep = λ e. sep (same s (omega arith) ∙ e ∙ sym (same s' lt))

module _ (lts : System) (factors : List Factor) (tuples : List (List ℕ)) (fine : IsInRange lts) (inside : AreInRange factors) (product : Product lts factors tuples) (reach : IsAllReachable lts)
    (nets : List Net) (each : AllZip (λ f net. Solves net f.lts × IsIrredundant net f.lts) factors nets) where
  abbrev above_of : (ℕ → ℕ) → ℕ → ℕ → ℕ
  above_of = lifted lts factors tuples fine inside product

  -- place number j of all, which is place number k of the net of this factor
  module _ (j : ℕ) (sol : Solves (net_without (net_beside lts factors nets) j) lts) (i k : ℕ) (f : Factor) (net : Net) (at : IsFactorAt factors i f) (of_net : slice_get nets i ≡ Some net)
      (solves : Solves net f.lts) (number : j ≡ places_before nets i + k) where
    abbrev in_product : ℕ → ℕ
    in_product = placed lts factors tuples fine inside product i f at

    -- where a place of the factor that separates the problem of the product separates that of the factor, and one of another factor can't, some
    -- place but that one does
    separated_below : (above under : Problem) → IsProblem lts above
        → ((p : Place) (m : ℕ → ℕ) → Separates (widened (labels lts) f.labels p) (above_of m i) above → Separates p m under)
        → ((l : ℕ) (g : Factor) (p : Place) (m : ℕ → ℕ) → i ≢ l → IsFactorAt factors l g → Separates (widened (labels lts) g.labels p) (above_of m l) above → ⊥)
        → Any (IsSeparatedBy f.lts under) (others net.places k)
    separated_below above under is own other =
        let (x, has, (m, region, sep)) = one_of (IsSeparatedBy lts above) (others (places_beside (labels lts) factors nets) j)
        (solved_separates lts (net_without (net_beside lts factors nets) j) fine sol above is) in
        let (b, differ, there) = other_at (places_beside (labels lts) factors nets) j x has in
        let o = net_place (labels lts) factors nets b x there in
        let (some, found, (solves', _)) = zip_at (λ (a : Factor) (y : Net). Solves y a.lts × IsIrredundant y a.lts) factors nets each o.i o.f o.factor in
        let same : some ≡ o.net = same_Some some o.net (sym found ∙ o.of_net) in
        let (m', region') = solved_at o.net o.f o.i o.k o.p o.factor (subst (λ (y : Net). Solves y o.f.lts) same solves') o.at in
        let lifts = lifted_region lts factors tuples fine inside product o.i o.f o.p m' o.factor region' in
        let agree : (s : ℕ) → s < states lts → m s ≡ above_of m' o.i s = λ s lt'.
        region_unique lts x m (above_of m' o.i) region (subst (λ y. Region lts y (above_of m' o.i)) (sym o.is) lifts) s (reach.each s lt') in
        let sep' : Separates (widened (labels lts) o.f.labels o.p) (above_of m' o.i) above =
        subst (λ y. Separates y (above_of m' o.i) above) o.is (separates_as lts x m (above_of m' o.i) agree above is sep) in
        let off = o.number in
        by o.i o.k o.f o.net o.p m' o.factor o.of_net o.at region' sep' (λ same. differ (off ∙ same ∙ sym number)) (cases_eq i o.i)
      where
        solved_at : (y : Net) (g : Factor) (l b : ℕ) (p : Place) → IsFactorAt factors l g → Solves y g.lts → slice_get y.places b ≡ Some p → IsRegion g.lts p
        solved_at y g l b p at' sol' there =
            subst (IsRegion g.lts) (get_or_from_slice_get y.places b p p there)
            (solved_regions g.lts y (inside l g at') sol' b p (slice_get_within y.places b p there))

        by : (l b : ℕ) (g : Factor) (y : Net) (p : Place) (m : ℕ → ℕ) → IsFactorAt factors l g → slice_get nets l ≡ Some y → slice_get y.places b ≡ Some p → Region g.lts p m
            → Separates (widened (labels lts) g.labels p) (above_of m l) above
            → (places_before nets l + b ≡ places_before nets i + k → ⊥) → (i ≡ l) ⊎ (i ≡ l → ⊥) → Any (IsSeparatedBy f.lts under) (others net.places k)
        by l b g y p m at' of there region sep apart (inr differ) = absurd (other l g p m differ at' sep)
        by l b g y p m at' of there region sep apart (inl e) =
            let factor : g ≡ f = same_Some g f (sym at' ∙ subst (λ n. IsFactorAt factors n f) e at) in
            let the_net : y ≡ net = same_Some y net (sym of ∙ subst (λ n. slice_get nets n ≡ Some net) e of_net) in
            let sep' : Separates (widened (labels lts) f.labels p) (above_of m i) above =
            subst (λ n. Separates (widened (labels lts) f.labels p) (above_of m n) above) (sym e)
            (subst (λ (h : Factor). Separates (widened (labels lts) h.labels p) (above_of m l) above) factor sep) in
            any_of (IsSeparatedBy f.lts under) (others net.places k) p
            (has_other net.places k b p (λ same. apart (ap (λ n. places_before nets n + b) (sym e) ∙ ap (λ n. places_before nets i + n) same)) (subst (λ (z : Net). slice_get z.places b ≡ Some p) the_net there))
            (m, subst (λ (h : Factor). Region h.lts p m) factor region, own p m sep')

    all_separated : SeparateAll (others net.places k) f.lts
    all_separated (Event q u) (lt, ul, none) =
        let (t, label, tl) = label_of lts factors tuples fine inside product i u f at ul in
        separated_below (Event (in_product q) t) (Event q u)
        ((placed_is lts factors tuples fine inside product i f at q lt).0, tl, λ s' has. (let (q', step) = arc_of_factor lts factors tuples fine inside product i f at q u t s' lt label has in none q' step))
        (λ p m sep.
        (let w = widened_there (labels lts) f.labels p t u tl (once lts factors tuples fine inside product i f at t) label in
        subst (λ n. n < pre_weight p u) (ap m (placed_entry lts factors tuples fine inside product i f at q lt)) (subst (λ n. above_of m i (in_product q) < n) w.pre sep)))
        (λ l g p m differ at' sep.
        (let w = widened_absent (labels lts) g.labels p t tl (elsewhere lts factors tuples fine inside product l i u t g f at' at label (λ e. differ (sym e))) in
        let no = w.pre in
        omega (arith, sep)))
    all_separated (States q q') (less, lt') = ordered (cases_lt (in_product q) (in_product q'))
      where
        lt : q < states f.lts
        lt = omega arith

        own : (r r' : ℕ) → r < states f.lts → r' < states f.lts → (m : ℕ → ℕ)
            → above_of m i (in_product r) ≢ above_of m i (in_product r') → m r ≢ m r'
        own r r' less' less'' m sep e =
            sep (ap m (placed_entry lts factors tuples fine inside product i f at r less') ∙ e ∙ sym (ap m (placed_entry lts factors tuples fine inside product i f at r' less'')))

        ordered : (in_product q < in_product q') ⊎ (in_product q' ≤ in_product q) → Any (IsSeparatedBy f.lts (States q q')) (others net.places k)
        ordered (inl rises) =
            separated_below (States (in_product q) (in_product q')) (States q q') (rises, (placed_is lts factors tuples fine inside product i f at q' lt').0)
            (λ p m sep. own q q' lt lt' m sep)
            (λ l g p m differ at' sep. sep (ap m (placed_agree lts factors tuples fine inside product i f at q q' lt lt' l (λ e. differ (sym e)))))
        ordered (inr falls) =
            let apart : in_product q ≢ in_product q' = λ e. (let same = placed_differ lts factors tuples fine inside product i f at q q' lt lt' e in omega arith) in
            separated_below (States (in_product q') (in_product q)) (States q q') (omega arith, (placed_is lts factors tuples fine inside product i f at q lt).0)
            (λ p m sep e. own q' q lt' lt m sep (sym e))
            (λ l g p m differ at' sep. sep (ap m (placed_agree lts factors tuples fine inside product i f at q' q lt' lt l (λ e. differ (sym e)))))

    solves_without : Solves (net_without net k) f.lts
    solves_without =
        yes f.lts (net_without net k) (inside i f at) (factor_reachable lts factors tuples fine inside product reach i f at) solves.transitions
        (λ l d lt. All-contains (IsRegion f.lts) net.places _ (solved_regions f.lts net (inside i f at) solves) (among (get_or (others net.places k) l d) (Contains-get_or (others net.places k) l d lt)))
        all_separated
      where
        among : (x : Place) → Contains (others net.places k) x → Contains net.places x
        among x has = (let (b, _, there) = other_at net.places k x has in there_at net.places b x there)

  pub beside_irredundant : IsIrredundant (net_beside lts factors nets) lts
  beside_irredundant j lt sol =
      let (x, there) = slice_get_some (places_beside (labels lts) factors nets) j lt in
      let o = net_place (labels lts) factors nets j x there in
      let (net, found, (solves, needed)) = zip_at (λ (a : Factor) (y : Net). Solves y a.lts × IsIrredundant y a.lts) factors nets each o.i o.f o.factor in
      let same : o.net ≡ net = same_Some o.net net (sym o.of_net ∙ found) in
      needed o.k (slice_get_within net.places o.k o.p (subst (λ (y : Net). slice_get y.places o.k ≡ Some o.p) same o.at))
      (solves_without j sol o.i o.k o.f net o.factor found solves o.number)
