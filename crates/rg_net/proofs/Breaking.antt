-- The first place with a break, and none.
use Rattle.std.proofs.Common.{◌≡◌, inl, inr, ⊎_elim, ℕ, ◌+◌, ◌<◌, ◌≤◌, List, length, Option, None, Some, IfSome, slice_get, ◌∙◌, arith}
use Rattle.std.specs.Option.{IsSomeAnd}
use Rattle.std.proofs.lemmas.Option.{slice_get_within}
use Rattle.rg_theory.specs.Net.{Place, Net, Marking, IsPlaceAt, tokens}
use Rattle.rg_theory.specs.declared.Class.{Class}
use Rattle.rg_theory.specs.Class.{IsMultiple, IsPlaceInClass}
use Rattle.rg_theory.proofs.Lists.{slice_get_some}
use Rattle.rg_net.specs.declared.class_break.ClassBreak.{ClassBreak}
use Rattle.rg_net.specs.declared.class_break.ClassBreak.TheVariants.{NotPure, NotPlain, Over, Branching, NotMultiple}
use Rattle.rg_net.specs.ClassBreaks.{AreInClass, IsBreak, IsBreakBefore, IsFirstBreak, place_of}
use Rattle.rg_net.proofs.Placing.{placed_more}
use Rattle.rg_net.proofs.Overs.{not_over}

-- the places below i are of the class
pub record InClassBefore (net : Net) (markings : List Marking) (class : Class) (i : ℕ) : Type 0 where
  pub weights : (j : ℕ) (p : Place) → j < i → IsPlaceAt net j p → IsPlaceInClass class net.labels p
  pub bounded : (j : ℕ) (p : Place) → j < i → IsPlaceAt net j p → (s : ℕ) (m : Marking) → slice_get markings s ≡ Some m → IfSome class.bound (λ k. tokens m j ≤ k)

not_multiple : (marking : Option ℕ) (start : ℕ) → IsSomeAnd marking (λ n. ¬ IsMultiple n start) → IfSome marking (λ n. IsMultiple n start) → ⊥
not_multiple None start none all = none
not_multiple (Some n) start none all = none all

-- what is of the class has no break
not_weights : (net : Net) (markings : List Marking) (class : Class) (a : ClassBreak) → ((p : Place) → IsPlaceAt net (place_of a) p → IsPlaceInClass class net.labels p)
    → ((p : Place) → IsPlaceAt net (place_of a) p → (s : ℕ) (m : Marking) → slice_get markings s ≡ Some m → IfSome class.bound (λ k. tokens m (place_of a) ≤ k)) → IsBreak net markings class a → ⊥
not_weights net markings class (NotPure i t) fine within (is, p, at, lt, takes, makes) = (fine p at).pure is t lt takes makes
not_weights net markings class (NotPlain i t) fine within (is, p, at, lt, many) =
    let (few, few') = (fine p at).plain is t lt in
    ⊎_elim (λ more. absurd (omega arith)) (λ more. absurd (omega arith)) many
not_weights net markings class (Over i s) fine within (m, at, lt, over) =
    let (p, place) = slice_get_some net.places i lt in
    not_over class.bound (tokens m i) over (within p place s m at)
not_weights net markings class (Branching i t t') fine within (is, p, at, less, lt, takes, takes') =
    absurd (let same = (fine p at).nonbranching is t t' (omega arith) lt takes takes' in omega arith)
not_weights net markings class (NotMultiple i) fine within (p, at, none) = not_multiple class.marking p.start none (fine p at).marking

pub no_break : (net : Net) (markings : List Marking) (class : Class) (a : ClassBreak) → AreInClass net markings class → ¬ IsBreak net markings class a
no_break net markings class a fine =
    not_weights net markings class a (λ p at. fine.weights (place_of a) p at) (λ p at s m has. fine.bounded (place_of a) s m (slice_get_within net.places (place_of a) p at) has)

pub first_break : (net : Net) (markings : List Marking) (class : Class) (i : ℕ) (b : ClassBreak) → InClassBefore net markings class i → IsBreak net markings class b → place_of b ≡ i
    → ((a : ClassBreak) → place_of a ≡ i → IsBreakBefore a b → ¬ IsBreak net markings class a) → IsFirstBreak net markings class b
first_break net markings class i b before breaks here first = record { breaks = breaks; first = λ a less. none a less less }
  where
    earlier : (a : ClassBreak) → place_of a < place_of b → ¬ IsBreak net markings class a
    earlier a less = not_weights net markings class a (λ p at. before.weights (place_of a) p (omega arith) at) (λ p at s m has. before.bounded (place_of a) p (omega arith) at s m has)

    none : (a : ClassBreak) → IsBreakBefore a b → IsBreakBefore a b → ¬ IsBreak net markings class a
    none a less (inl far) = earlier a far
    none a less (inr (same, rest)) = first a (same ∙ here) less

pub in_class_more : (net : Net) (markings : List Marking) (class : Class) (i : ℕ) (p : Place) → InClassBefore net markings class i → IsPlaceAt net i p → IsPlaceInClass class net.labels p
    → ((s : ℕ) (m : Marking) → slice_get markings s ≡ Some m → IfSome class.bound (λ k. tokens m i ≤ k)) → InClassBefore net markings class (i + 1)
in_class_more net markings class i p before at fine within =
    record {
      weights = placed_more (λ j q. IsPlaceInClass class net.labels q) net i p before.weights at fine;
      bounded = placed_more (λ j q. (s : ℕ) (m : Marking) → slice_get markings s ≡ Some m → IfSome class.bound (λ k. tokens m j ≤ k)) net i p before.bounded at within;
    }

pub in_class_all : (net : Net) (markings : List Marking) (class : Class) (i : ℕ) → length net.places ≤ i → InClassBefore net markings class i → AreInClass net markings class
in_class_all net markings class i past before =
    record {
      weights = λ j p at. before.weights j p (let lt = slice_get_within net.places j p at in omega arith) at;
      bounded = λ j s m lt has. (let (p, at) = slice_get_some net.places j lt in before.bounded j p (omega arith) at s m has);
    }
