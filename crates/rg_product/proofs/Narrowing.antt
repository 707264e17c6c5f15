-- A net of the product restricted to the labels of a factor solves the factor.
use Rattle.std.proofs.Common.{◌≡◌, ◌≢◌, ℕ, zero, suc, ◌+◌, ◌-◌, ◌<◌, ◌≤◌, ◌⊎◌, inl, inr, List, [], ◌∷◌, map, Any, get_or, slice_index, slice_set, refl, sym, ap, subst, ◌∙◌, arith}
use Rattle.std.proofs.lemmas.Bool.{cases_lt}
use Rattle.std.proofs.lemmas.Option.{IfSome_then}
use Rattle.std.proofs.lemmas.List.{get_or-set_same, get_or-set_other, set-get_or}
use Rattle.std.proofs.lemmas.List.Elements.{All-map}
use Rattle.rg_theory.specs.System.{System, states, labels, HasArc, IsInRange}
use Rattle.rg_theory.specs.Net.{Place, Net, pre_weight, post_weight}
use Rattle.rg_theory.specs.Solves.{Solves}
use Rattle.rg_theory.specs.declared.Class.{Class}
use Rattle.rg_theory.specs.Class.{IsPlaceInClass, InClass, NoNet}
use Rattle.rg_theory.specs.Region.{Region, IsRegionIn}
use Rattle.rg_theory.specs.declared.Problem.{Problem}
use Rattle.rg_theory.specs.declared.Problem.TheVariants.{Event, States}
use Rattle.rg_theory.specs.Problem.{IsProblem, Separates, IsSeparatedBy, SeparateAll}
use Rattle.rg_theory.proofs.Arcs.{arc_in_range}
use Rattle.rg_theory.proofs.Solution.{solved_separates, solved_all_reachable}
use Rattle.rg_theory.proofs.Classes.{solved_in_class, yes_in_class}
use Rattle.rg_product.specs.Product.{Factor, IsFactorAt, IsLabelAt, IsTuple, tuple_of, AgreeOutside, Moves, Product, AreInRange}
use Rattle.rg_product.specs.Beside.{narrowed}
use Rattle.rg_product.proofs.Tuples.{tuple_is, entries, state_of, one_state, with_entry, moved, initial_entry, factor_reachable, label_of}
use Rattle.rg_product.proofs.Weights.{narrowed_pre, narrowed_post}

any_mapped : {A B : Type 0} (g : A → B) (P : A → Type 0) (Q : B → Type 0) → ((x : A) → P x → Q (g x)) → (xs : List A) → Any P xs → Any Q (map g xs)
any_mapped g P Q go [] (k, x, lt, e, is) = absurd (omega arith)
any_mapped g P Q go (a ∷ xs) (zero, x, lt, e, is) = (zero, g x, omega arith, ap g e, go x is)
any_mapped g P Q go (a ∷ xs) (suc k, x, lt, e, is) =
    let (i, y, within, f, holds) = any_mapped g P Q go xs (k, x, omega arith, e, is) in
    (suc i, y, omega arith, f, holds)

module _ (lts : System) (factors : List Factor) (tuples : List (List ℕ)) (fine : IsInRange lts) (inside : AreInRange factors)
    (product : Product lts factors tuples) (i : ℕ) (f : Factor) (at : IsFactorAt factors i f) where
  -- the tuple of the initial state with another entry of the factor
  abbrev pub begun : ℕ → List ℕ
  begun q = slice_set (tuple_of tuples lts.initial) i q

  pub begun_is : (q : ℕ) → q < states f.lts → IsTuple factors (begun q)
  begun_is q lt = with_entry lts factors tuples fine inside product (tuple_of tuples lts.initial) i q f (tuple_is lts factors tuples fine inside product lts.initial fine.initial) at lt

  begun_entry : (q : ℕ) → slice_index (begun q) i ≡ q
  begun_entry q = get_or-set_same (tuple_of tuples lts.initial) i q 0 (entries lts factors tuples fine inside product lts.initial i f fine.initial at)

  -- its state, which stands for the factor's state in the product
  abbrev pub placed_by : (q : ℕ) → (q < states f.lts) ⊎ (states f.lts ≤ q) → ℕ
  placed_by q (inl lt) = (state_of lts factors tuples fine inside product (begun q) (begun_is q lt)).0
  placed_by q (inr past) = 0

  abbrev pub placed : ℕ → ℕ
  placed q = placed_by q (cases_lt q (states f.lts))

  pub placed_is : (q : ℕ) → q < states f.lts → (placed q < states lts) × (tuple_of tuples (placed q) ≡ begun q)
  placed_is q lt = by (cases_lt q (states f.lts))
    where
      by : (d : (q < states f.lts) ⊎ (states f.lts ≤ q)) → (placed_by q d < states lts) × (tuple_of tuples (placed_by q d) ≡ begun q)
      by (inl lt') = (let s = state_of lts factors tuples fine inside product (begun q) (begun_is q lt') in (s.1, s.2))
      by (inr past) = absurd (omega arith)

  pub placed_entry : (q : ℕ) → q < states f.lts → slice_index (tuple_of tuples (placed q)) i ≡ q
  placed_entry q lt = ap (λ (l : List ℕ). slice_index l i) (placed_is q lt).1 ∙ begun_entry q

  pub placed_differ : (q q' : ℕ) → q < states f.lts → q' < states f.lts → placed q ≡ placed q' → q ≡ q'
  placed_differ q q' lt lt' e = sym (placed_entry q lt) ∙ ap (λ s. slice_index (tuple_of tuples s) i) e ∙ placed_entry q' lt'

  -- two of these states differ in the entry of the factor alone
  pub placed_agree : (q q' : ℕ) → q < states f.lts → q' < states f.lts → AgreeOutside i (tuple_of tuples (placed q)) (tuple_of tuples (placed q'))
  placed_agree q q' lt lt' j other = initially q lt ∙ sym (initially q' lt')
    where
      initially : (r : ℕ) → r < states f.lts → slice_index (tuple_of tuples (placed r)) j ≡ slice_index (tuple_of tuples lts.initial) j
      initially r less = ap (λ (l : List ℕ). slice_index l j) (placed_is r less).1 ∙ get_or-set_other (tuple_of tuples lts.initial) i j r 0 other

  placed_initial : placed f.lts.initial ≡ lts.initial
  placed_initial =
      let lt = (inside i f at).initial in
      let is = placed_is f.lts.initial lt in
      let begins : begun f.lts.initial ≡ tuple_of tuples lts.initial =
      ap (λ q. slice_set (tuple_of tuples lts.initial) i q) (sym (initial_entry lts factors tuples fine inside product i f at)) ∙ set-get_or (tuple_of tuples lts.initial) i 0 in
      one_state lts factors tuples fine inside product (placed f.lts.initial) lts.initial is.0 fine.initial (is.1 ∙ begins)

  -- an arc of the factor is one between the states that stand for its own
  placed_arc : (q k q' t : ℕ) → HasArc f.lts q k q' → IsLabelAt f k t → HasArc lts (placed q) t (placed q')
  placed_arc q k q' t has label =
      let (lt, _, lt') = arc_in_range f.lts (inside i f at) q k q' has in
      let a = placed_is q lt in
      let b = placed_is q' lt' in
      let agree : AgreeOutside i (tuple_of tuples (placed q)) (tuple_of tuples (placed q')) = placed_agree q q' lt lt' in
      let step : HasArc f.lts (slice_index (tuple_of tuples (placed q)) i) k (slice_index (tuple_of tuples (placed q')) i) =
      subst (λ n. HasArc f.lts n k (slice_index (tuple_of tuples (placed q')) i)) (sym (placed_entry q lt)) (subst (HasArc f.lts q k) (sym (placed_entry q' lt')) has) in
      (product.arcs (placed q) t (placed q') i k f a.0 b.0 at label).1 (agree, step)

  pub arc_of_factor : (q k t s' : ℕ) → q < states f.lts → IsLabelAt f k t → HasArc lts (placed q) t s' → (q' : ℕ) × HasArc f.lts q k q'
  arc_of_factor q k t s' lt label has =
      let m : Moves f i k (tuple_of tuples (placed q)) (tuple_of tuples s') = moved lts factors tuples fine inside product (placed q) t s' i k f at label has in
      (slice_index (tuple_of tuples s') i, subst (λ n. HasArc f.lts n k (slice_index (tuple_of tuples s') i)) (placed_entry q lt) m.1)

  abbrev below : (ℕ → ℕ) → ℕ → ℕ
  below m q = m (placed q)

  narrowed_region : (p : Place) (m : ℕ → ℕ) → Region lts p m → Region f.lts (narrowed f.labels p) (below m)
  narrowed_region p m region = record {
    start = ap m placed_initial ∙ region.start;
    enabled = λ q k q' has.
        (let (_, kl, _) = arc_in_range f.lts (inside i f at) q k q' has in
        let (t, label, _) = label_of lts factors tuples fine inside product i k f at kl in
        subst (λ n. n ≤ below m q) (sym (narrowed_pre f.labels p k t label)) (region.enabled (placed q) t (placed q') (placed_arc q k q' t has label)));
    moved = λ q k q' has.
        (let (_, kl, _) = arc_in_range f.lts (inside i f at) q k q' has in
        let (t, label, _) = label_of lts factors tuples fine inside product i k f at kl in
        region.moved (placed q) t (placed q') (placed_arc q k q' t has label)
        ∙ ap (λ n. below m q - n + post_weight p t) (sym (narrowed_pre f.labels p k t label))
        ∙ ap (λ n. below m q - pre_weight (narrowed f.labels p) k + n) (sym (narrowed_post f.labels p k t label)));
  }

  narrowed_weights : (class : Class) (p : Place) → IsPlaceInClass class (labels lts) p → IsPlaceInClass class (labels f.lts) (narrowed f.labels p)
  narrowed_weights class p of_class = record {
    pure = λ is k kl takes makes.
        (let (t, label, tl) = label_of lts factors tuples fine inside product i k f at kl in
        of_class.pure is t tl (let e = narrowed_pre f.labels p k t label in omega arith) (let e = narrowed_post f.labels p k t label in omega arith));
    plain = λ is k kl.
        (let (t, label, tl) = label_of lts factors tuples fine inside product i k f at kl in
        let (a, b) = of_class.plain is t tl in
        let e = narrowed_pre f.labels p k t label in
        let e' = narrowed_post f.labels p k t label in
        (omega arith, omega arith));
    marking = of_class.marking;
    nonbranching = λ is k k' kl kl' takes takes'.
        (let (t, label, tl) = label_of lts factors tuples fine inside product i k f at kl in
        let (t', label', tl') = label_of lts factors tuples fine inside product i k' f at kl' in
        let same = of_class.nonbranching is t t' tl tl' (let e = narrowed_pre f.labels p k t label in omega arith) (let e = narrowed_pre f.labels p k' t' label' in omega arith) in
        (product.shared.one t i k i k' f f at label at (subst (IsLabelAt f k') (sym same) label')).1);
  }

  narrowed_in_class : (class : Class) (p : Place) → IsRegionIn lts class p → IsRegionIn f.lts class (narrowed f.labels p)
  narrowed_in_class class p (m, is) = (
    below m,
    record {
      region = narrowed_region p m is.region;
      allowed = record {
        weights = narrowed_weights class p is.allowed.weights;
        bounded = IfSome_then class.bound is.allowed.bounded (λ k small q lt. small (placed q) (placed_is q lt).0);
      };
    },
  )

  module _ (class : Class) (net : Net) (solves : Solves net lts) (of_class : InClass net class) where
    abbrev narrow_net : Net
    narrow_net = record { labels = labels f.lts; places = map (narrowed f.labels) net.places }

    separates_below : (problem under : Problem) → IsProblem lts problem → ((p : Place) (m : ℕ → ℕ) → Separates p m problem → Separates (narrowed f.labels p) (below m) under)
        → Any (IsSeparatedBy f.lts under) (map (narrowed f.labels) net.places)
    separates_below problem under is goes =
        any_mapped (narrowed f.labels) (IsSeparatedBy lts problem) (IsSeparatedBy f.lts under) (λ p (m, region, sep). (below m, narrowed_region p m region, goes p m sep)) net.places
        (solved_separates lts net fine solves problem is)

    ordered : (q q' : ℕ) → q < q' → q' < states f.lts → (placed q < placed q') ⊎ (placed q' ≤ placed q) → Any (IsSeparatedBy f.lts (States q q')) (map (narrowed f.labels) net.places)
    ordered q q' less lt' (inl rises) = separates_below (States (placed q) (placed q')) (States q q') (rises, (placed_is q' lt').0) (λ p m sep. sep)
    ordered q q' less lt' (inr falls) =
        let lt : q < states f.lts = omega arith in
        let differ : placed q ≢ placed q' = λ e. (let same = placed_differ q q' lt lt' e in omega arith) in
        separates_below (States (placed q') (placed q)) (States q q') (omega arith, (placed_is q lt).0) (λ p m sep e. sep (sym e))

    all_below : SeparateAll (map (narrowed f.labels) net.places) f.lts
    all_below (Event q k) (lt, kl, none) =
        let (t, label, tl) = label_of lts factors tuples fine inside product i k f at kl in
        separates_below (Event (placed q) t) (Event q k) ((placed_is q lt).0, tl, λ s' has. (let (q', step) = arc_of_factor q k t s' lt label has in none q' step))
        (λ p m sep. subst (λ n. below m q < n) (sym (narrowed_pre f.labels p k t label)) sep)
    all_below (States q q') (less, lt') = ordered q q' less lt' (cases_lt (placed q) (placed q'))

    pub narrow_solves : Solves narrow_net f.lts × InClass narrow_net class
    narrow_solves =
        yes_in_class f.lts narrow_net class (inside i f at) (factor_reachable lts factors tuples fine inside product (solved_all_reachable lts net fine solves) i f at) refl
        (All-map (IsRegionIn f.lts class) (narrowed f.labels) net.places (λ k d lt. narrowed_in_class class (get_or net.places k d) (solved_in_class lts net class fine solves of_class k d lt)))
        all_below

  pub no_net_above : (class : Class) → NoNet f.lts class → NoNet lts class
  no_net_above class none = record {
    none = λ net solves of_class.
        (let (solves', of_class') = narrow_solves class net solves of_class in
        none.none (record { labels = labels f.lts; places = map (narrowed f.labels) net.places }) solves' of_class');
  }
