-- The answers for factors, one after the other, and what they say of the system.
use Rattle.std.proofs.Common.{◌≡◌, ℕ, ◌+◌, ◌<◌, ◌≤◌, List, [], ◌∷◌, ◌++◌, length, map, take, get_or, Some, slice_get, sym, ap, subst, ◌∙◌, arith}
use Rattle.std.specs.List.{AllZip}
use Rattle.std.proofs.Math.ListN.{get_or-map}
use Rattle.std.proofs.lemmas.List.{get_or-take, length-take-le, length-map, take_all, take_more}
use Rattle.std.proofs.lemmas.Option.{slice_get-get_or, slice_get_within, get_or_from_slice_get}
use Rattle.rg_integers.specs.Range.{greatest}
use Rattle.rg_theory.specs.System.{System, labels, IsAllReachable}
use Rattle.rg_theory.specs.Net.{Net}
use Rattle.rg_theory.specs.Solves.{Solves}
use Rattle.rg_theory.specs.declared.Class.{Class}
use Rattle.rg_theory.specs.Class.{IsBounded, InClass, NoNet}
use Rattle.rg_lts.specs.WellFormed.{IsWellFormed}
use Rattle.rg_net.specs.Range.{IsNetInRange}
use Rattle.rg_product.specs.Product.{Factor, IsFactorAt, name_at, AreInRange, Product}
use Rattle.rg_product.specs.Factoring.{IsFactoring, IsFactoring.of_factors, Factoring.factors as of_all}
use Rattle.rg_product.specs.Beside.{places_beside, net_beside, IsIrredundant}
use Rattle.rg_product.proofs.Narrowing.{no_net_above}
use Rattle.rg_product.proofs.Needed.{beside_irredundant}
use Rattle.rg_product.proofs.OneFactoring.{factors_in_range}
use Rattle.rg_product.proofs.Widening.{zip_at, zip_from, beside_solves, beside_bounded}
use Rattle.rg_factor.specs.Places.{HasFewPlaces}
use Rattle.rg_factor.proofs.FewBeside.{few_beside}
use Rattle.rg_synth.proofs.FewPlaces.{net_in_either_order}
use Rattle.rg_top.specs.FactorsAnswer.{HasNet, IsBehindNets, IsNetOf, IsNetBeside}

-- ---- factor after factor

pub shown_at : {S X : Type 0} (view : S → X) (xs : List S) (i : ℕ) (d : S) → i < length xs → slice_get (map view xs) i ≡ Some (view (get_or xs i d))
shown_at view xs i d lt = slice_get-get_or (map view xs) i (view d) (omega (arith, length-map xs view)) ∙ ap (λ y. Some y) (get_or-map view xs i d)

zip_push : {A B : Type 0} (R : A → B → Type 0) (xs : List A) (ys : List B) (x : A) (y : B) → AllZip R xs ys → R x y → AllZip R (xs ++ x ∷ []) (ys ++ y ∷ [])
zip_push R [] [] x y zip is = (is, tt)
zip_push R [] (b ∷ ys) x y zip is = absurd zip
zip_push R (a ∷ xs) [] x y zip is = absurd zip
zip_push R (a ∷ xs) (b ∷ ys) x y (first, rest) is = (first, zip_push R xs ys x y rest is)

pub zip_more : {A B : Type 0} (R : A → B → Type 0) (xs : List A) (ys new : List B) (i : ℕ) (x : A) (y : B) → slice_get xs i ≡ Some x → R x y
    → new ≡ ys ++ y ∷ [] → AllZip R (take i xs) ys → AllZip R (take (i + 1) xs) new
zip_more R xs ys new i x y at is made zip =
    let more : take (i + 1) xs ≡ take i xs ++ x ∷ [] = take_more xs i x (slice_get_within xs i x at) ∙ ap (λ z. take i xs ++ z ∷ []) (get_or_from_slice_get xs i x x at) in
    subst (AllZip R (take (i + 1) xs)) (sym made) (subst (λ l. AllZip R l (ys ++ y ∷ [])) (sym more) (zip_push R (take i xs) ys x y zip is))

pub zip_all : {A B : Type 0} (R : A → B → Type 0) (xs : List A) (ys : List B) (i : ℕ) → length xs ≤ i → AllZip R (take i xs) ys → AllZip R xs ys
zip_all R xs ys i past zip = subst (λ l. AllZip R l ys) (take_all i xs past) zip

pub behind_nets : (class : Class) (fs : List Factor) (nets : List Net) (i : ℕ) (f : Factor) → IsFactorAt fs i f → AllZip (IsNetOf class) (take i fs) nets → IsBehindNets class fs i f
behind_nets class fs nets i f at zip = record { at = at; before = before }
  where
    before : (j : ℕ) (g : Factor) → j < i → IsFactorAt fs j g → HasNet class g
    before j g less at' =
        let within = slice_get_within fs i f at in
        let long = length-take-le i fs (omega arith) in
        let here : slice_get (take i fs) j ≡ Some g =
        slice_get-get_or (take i fs) j g (omega arith) ∙ ap (λ x. Some x) (get_or-take i fs j g less ∙ get_or_from_slice_get fs j g g at') in
        let (net, _, (out, right)) = zip_at (IsNetOf class) (take i fs) nets zip j g here in
        (net.places, out)

-- ---- all factors

module _ (lts : System) (fine : IsWellFormed lts) (reachable : IsAllReachable lts) (fs : List Factor) (tuples : List (List ℕ)) (factoring : IsFactoring lts (of_all fs tuples)) where
  product_of : IsFactoring lts (of_all fs tuples) → Product lts fs tuples
  product_of (of_factors blocks reached _ _ parted many parts product) = product

  inside_of : IsFactoring lts (of_all fs tuples) → AreInRange fs
  inside_of (of_factors blocks reached _ _ parted many parts product) = factors_in_range lts blocks reached fs parts

  product : Product lts fs tuples
  product = product_of factoring

  inside : AreInRange fs
  inside = inside_of factoring

  pub one_each : (class : Class) (nets : List Net) → AllZip (IsNetOf class) fs nets → AllZip (λ f net. net.labels ≡ length f.labels) fs nets
  one_each class nets zip = zip_from (IsNetOf class) (λ f net. net.labels ≡ length f.labels) fs nets zip
      (λ i f net at (out, right). right.solves.transitions ∙ ap length (product.shared.names i f at) ∙ length-map f.labels (name_at lts.label_names))

  pub few : (class : Class) (nets : List Net) → AllZip (IsNetOf class) fs nets → length (places_beside (labels lts) fs nets) < 4294967296
  few class nets zip = few_beside lts fs tuples nets fine factoring
      (zip_from (IsNetOf class) HasFewPlaces fs nets zip (λ i f net at (out, right). net_in_either_order f.lts class net.places out))

  pub beside : (class : Class) (nets : List Net) (net : Net) → AllZip (IsNetOf class) fs nets → net ≡ net_beside lts fs nets → IsNetInRange net → IsNetBeside class lts fs net
  beside class nets net zip is in_range =
      let each = zip_from (IsNetOf class) (λ (f : Factor) (n : Net). Solves n f.lts × InClass n class) fs nets zip (λ i f n at (out, right). (right.solves, right.in_class)) in
      let small = zip_from (IsNetOf class) (λ (f : Factor) (n : Net). Solves n f.lts × IsBounded n greatest) fs nets zip (λ i f n at (out, right). (right.solves, right.narrow)) in
      let needed = zip_from (IsNetOf class) (λ (f : Factor) (n : Net). Solves n f.lts × IsIrredundant n f.lts) fs nets zip (λ i f n at (out, right). (right.solves, right.irredundant)) in
      let both = beside_solves lts fs tuples fine.in_range inside product class nets each reachable in
      record {
        nets = nets;
        each = zip;
        is = is;
        in_range = in_range;
        solves = subst (λ n. Solves n lts) (sym is) both.0;
        in_class = subst (λ n. InClass n class) (sym is) both.1;
        irredundant = subst (λ n. IsIrredundant n lts) (sym is) (beside_irredundant lts fs tuples fine.in_range inside product reachable nets needed);
        narrow = subst (λ n. IsBounded n greatest) (sym is) (beside_bounded lts fs tuples greatest nets fine.in_range inside product reachable small);
      }

  pub none_above : (class : Class) (i : ℕ) (f : Factor) → IsFactorAt fs i f → NoNet f.lts class → NoNet lts class
  none_above class i f at none = no_net_above lts fs tuples fine.in_range inside product i f at class none
