-- Where a net leaves its class.
use Rattle.std.specs.Prelude.{◌≡◌, ◌⊎◌, ℕ, ◌<◌, ◌≤◌, List, map, Vec, Some, IfSome, IsTrue, length, slice_get}
use Rattle.std.specs.Option.{IsSomeAnd}
use Rattle.std.specs.declared.alloc.Global.{Global}
use Rattle.rg_theory.specs.Net.{Place, Net, Marking, pre_weight, post_weight, tokens, IsPlaceAt}
use Rattle.rg_theory.specs.declared.Class.{Class}
use Rattle.rg_theory.specs.Class.{IsMultiple, IsPlaceInClass}
use Rattle.rg_net.specs.declared.class_break.ClassBreak.{ClassBreak}
use Rattle.rg_net.specs.declared.class_break.ClassBreak.TheVariants.{NotPure, NotPlain, Over, Branching, NotMultiple}

-- the rows as markings
abbrev pub shown_markings : List (Vec ℕ Global) → List Marking
shown_markings rows = map (λ r. r.items) rows

-- the places meet the conditions of the class on weights and starts, and none has more in one of the markings than the bound allows
pub record AreInClass (net : Net) (markings : List Marking) (class : Class) : Type 0 where
  pub weights : (i : ℕ) (p : Place) → IsPlaceAt net i p → IsPlaceInClass class net.labels p
  pub bounded : (i s : ℕ) (m : Marking) → i < length net.places → slice_get markings s ≡ Some m → IfSome class.bound (λ k. tokens m i ≤ k)

-- what each break says of a place and a label of the net, or one of the markings, in a class that forbids it
abbrev pub IsBreak : Net → List Marking → Class → ClassBreak → Type 0
IsBreak net markings class (NotPure i t) = IsTrue class.pure × (p : Place) × IsPlaceAt net i p × (t < net.labels) × (0 < pre_weight p t) × (0 < post_weight p t)
IsBreak net markings class (NotPlain i t) = IsTrue class.plain × (p : Place) × IsPlaceAt net i p × (t < net.labels) × ((1 < pre_weight p t) ⊎ (1 < post_weight p t))
IsBreak net markings class (Over i s) = (m : Marking) × (slice_get markings s ≡ Some m) × (i < length net.places) × IsSomeAnd class.bound (λ k. k < tokens m i)
IsBreak net markings class (Branching i t t') = IsTrue class.nonbranching × (p : Place) × IsPlaceAt net i p × (t < t') × (t' < net.labels) × (0 < pre_weight p t) × (0 < pre_weight p t')
IsBreak net markings class (NotMultiple i) = (p : Place) × IsPlaceAt net i p × IsSomeAnd class.marking (λ n. ¬ IsMultiple n p.start)

-- the place, the kind, and the two other numbers
abbrev pub place_of : ClassBreak → ℕ
place_of (NotPure i t) = i
place_of (NotPlain i t) = i
place_of (Over i s) = i
place_of (Branching i t t') = i
place_of (NotMultiple i) = i

abbrev pub kind_of : ClassBreak → ℕ
kind_of (NotPure i t) = 0
kind_of (NotPlain i t) = 1
kind_of (Over i s) = 2
kind_of (Branching i t t') = 3
kind_of (NotMultiple i) = 4

abbrev pub first_of : ClassBreak → ℕ
first_of (NotPure i t) = t
first_of (NotPlain i t) = t
first_of (Over i s) = s
first_of (Branching i t t') = t
first_of (NotMultiple i) = 0

abbrev pub second_of : ClassBreak → ℕ
second_of (NotPure i t) = 0
second_of (NotPlain i t) = 0
second_of (Over i s) = 0
second_of (Branching i t t') = t'
second_of (NotMultiple i) = 0

-- by place, then by kind, then by the other numbers
abbrev pub IsBreakBefore : ClassBreak → ClassBreak → Type 0
IsBreakBefore a b =
    (place_of a < place_of b)
    ⊎ ((place_of a ≡ place_of b) × ((kind_of a < kind_of b)
    ⊎ ((kind_of a ≡ kind_of b) × ((first_of a < first_of b) ⊎ ((first_of a ≡ first_of b) × (second_of a < second_of b))))))

-- a break, and none before it
pub record IsFirstBreak (net : Net) (markings : List Marking) (class : Class) (b : ClassBreak) : Type 0 where
  pub breaks : IsBreak net markings class b
  pub first : (a : ClassBreak) → IsBreakBefore a b → ¬ IsBreak net markings class a
