-- What the order of arcs says of the keys of a set of arcs.
use Rattle.std.proofs.Common.{◌≡◌, ◌⊎◌, ◌↔◌, ℕ, ◌<◌, Bool, true, false, cond, List, Contains, AllPairs, inl, inr, sym, subst, ap, refl, arith, Ordering, Less, Equal, Greater, IsTrue}
use Rattle.std.specs.Cmp.{IsTotalOrder}
use Rattle.std.specs.Ordering.{nat_cmp, ordering_then, is_eq}
use Rattle.std.specs.List.Sorted.{IsStrictlySortedBy}
use Rattle.std.specs.BTreeSet.{BTreeSet, contains, Updates}
use Rattle.std.proofs.lemmas.Cmp.{then_total, on_total, nat_cmp_total}
use Rattle.std.proofs.lemmas.Bool.{cases_order}
use Rattle.std.proofs.lemmas.Bool.Decides.{nat_tests}
use Rattle.std.proofs.lemmas.Map.Keys.{Less-from_sorted}
use Rattle.std.proofs.lemmas.Map.Lookups.{CmpEqualImpliesEq}
use Rattle.std.proofs.lemmas.Map.Views.{btree_set_contains_iff}
use Rattle.rg_theory.specs.declared.Arc.{Arc}
use Rattle.rg_theory.specs.System.{IsArcBefore}

-- by from, label and to
abbrev pub arc_cmp : Arc → Arc → Ordering
arc_cmp x y = ordering_then (nat_cmp x.from y.from) (ordering_then (nat_cmp x.label y.label) (nat_cmp x.to y.to))

arc_total : IsTotalOrder arc_cmp
arc_total = then_total (on_total (λ (a : Arc). a.from) nat_cmp_total)
    (then_total (on_total (λ (a : Arc). a.label) nat_cmp_total) (on_total (λ (a : Arc). a.to) nat_cmp_total))

-- what `cmp` says of two numbers
data Ranked (a b : ℕ) : Type 0 where
  lower : a < b → nat_cmp a b ≡ Less → Ranked a b
  equal : a ≡ b → nat_cmp a b ≡ Equal → Ranked a b
  upper : nat_cmp a b ≡ Greater → Ranked a b

pub at_less : (a b : ℕ) → a < b → nat_cmp a b ≡ Less
at_less a b h = grind (arith, nat_tests)

pub at_equal : (a b : ℕ) → a ≡ b → nat_cmp a b ≡ Equal
at_equal a b h = grind (arith, nat_tests)

pub at_greater : (a b : ℕ) → b < a → nat_cmp a b ≡ Greater
at_greater a b h = grind (arith, nat_tests)

ranked : (a b : ℕ) → Ranked a b
ranked a b = go (cases_order a b)
  where
    go : (a ≡ b) ⊎ ((a < b) ⊎ (b < a)) → Ranked a b
    go (inl e) = equal e (at_equal a b e)
    go (inr (inl l)) = lower l (at_less a b l)
    go (inr (inr g)) = upper (at_greater a b g)

-- the first of two comparisons decides, unless it is a tie
then_less : (a b : ℕ) (o : Ordering) → ordering_then (nat_cmp a b) o ≡ Less → (a < b) ⊎ ((a ≡ b) × (o ≡ Less))
then_less a b o e = go (ranked a b)
  where
    go : Ranked a b → (a < b) ⊎ ((a ≡ b) × (o ≡ Less))
    go (lower l _) = inl l
    go (equal same f) = inr (same, (let g = ap (λ (z : Ordering). ordering_then z o) f in cc))
    go (upper f) = let g = ap (λ (z : Ordering). ordering_then z o) f in absurd cc

then_equal : (a b : ℕ) (o : Ordering) → ordering_then (nat_cmp a b) o ≡ Equal → (a ≡ b) × (o ≡ Equal)
then_equal a b o e = go (ranked a b)
  where
    go : Ranked a b → (a ≡ b) × (o ≡ Equal)
    go (lower l f) = let g = ap (λ (z : Ordering). ordering_then z o) f in absurd cc
    go (equal same f) = (same, (let g = ap (λ (z : Ordering). ordering_then z o) f in cc))
    go (upper f) = let g = ap (λ (z : Ordering). ordering_then z o) f in absurd cc

cmp_less : (a b : ℕ) → nat_cmp a b ≡ Less → a < b
cmp_less a b e = go (ranked a b)
  where
    go : Ranked a b → a < b
    go (lower l _) = l
    go (equal _ f) = absurd cc
    go (upper f) = absurd cc

cmp_equal : (a b : ℕ) → nat_cmp a b ≡ Equal → a ≡ b
cmp_equal a b e = go (ranked a b)
  where
    go : Ranked a b → a ≡ b
    go (lower _ f) = absurd cc
    go (equal same _) = same
    go (upper f) = absurd cc

less_before : (x y : Arc) → arc_cmp x y ≡ Less → IsArcBefore x y
less_before x y e = go (then_less x.from y.from (ordering_then (nat_cmp x.label y.label) (nat_cmp x.to y.to)) e)
  where
    next : (x.label < y.label) ⊎ ((x.label ≡ y.label) × (nat_cmp x.to y.to ≡ Less)) → (x.label < y.label) ⊎ ((x.label ≡ y.label) × (x.to < y.to))
    next (inl l) = inl l
    next (inr (same, f)) = inr (same, cmp_less x.to y.to f)

    go : (x.from < y.from) ⊎ ((x.from ≡ y.from) × (ordering_then (nat_cmp x.label y.label) (nat_cmp x.to y.to) ≡ Less)) → IsArcBefore x y
    go (inl l) = inl l
    go (inr (same, f)) = inr (same, next (then_less x.label y.label (nat_cmp x.to y.to) f))

arc_exact : CmpEqualImpliesEq arc_cmp
arc_exact x y e =
    let f = then_equal x.from y.from (ordering_then (nat_cmp x.label y.label) (nat_cmp x.to y.to)) e in
    let g = then_equal x.label y.label (nat_cmp x.to y.to) f.1 in
    let h = cmp_equal x.to y.to g.1 in
    λ i. record { from = f.0 i; label = g.0 i; to = h i }

-- keys that ascend are arcs in order
pub keys_order : (keys : List Arc) → IsStrictlySortedBy arc_cmp keys → AllPairs IsArcBefore keys
keys_order keys sorted i j d l lt = less_before _ _ (Less-from_sorted arc_cmp keys i j d sorted l lt)

-- the set finds what it has
pub found_iff : (s : BTreeSet Arc) (a : Arc) → IsTrue (contains arc_cmp s a) ↔ Contains s.keys a
found_iff s a = btree_set_contains_iff arc_total arc_exact s a

pub lacks : (s : BTreeSet Arc) (a : Arc) → contains arc_cmp s a ≡ false → Contains s.keys a → ⊥
lacks s a e has = let t = (found_iff s a).1 has in cc

equal_arcs : (a b : Arc) → is_eq (arc_cmp a b) ≡ true → b ≡ a
equal_arcs a b e = go (arc_cmp a b) refl
  where
    go : (o : Ordering) → arc_cmp a b ≡ o → b ≡ a
    go Equal f = sym (arc_exact a b f)
    go Less f = let g = ap is_eq f in absurd cc
    go Greater f = let g = ap is_eq f in absurd cc

-- the arcs after one is inserted
pub inserted : (s n : BTreeSet Arc) (a : Arc) → Updates arc_cmp s n a true → (b : Arc) → Contains n.keys b ↔ (Contains s.keys b ⊎ (b ≡ a))
inserted s n a updates b = (λ has. forth (is_eq (arc_cmp a b)) refl ((found_iff n b).1 has), back)
  where
    forth : (same : Bool) → is_eq (arc_cmp a b) ≡ same → contains arc_cmp n b ≡ true → Contains s.keys b ⊎ (b ≡ a)
    forth true e there = inr (equal_arcs a b e)
    forth false e there = inl ((found_iff s b).0 (let f = updates.0 b in let g = ap (λ (z : Bool). cond z true (contains arc_cmp s b)) e in cc))

    kept : (same : Bool) → is_eq (arc_cmp a b) ≡ same → contains arc_cmp s b ≡ true → contains arc_cmp n b ≡ true
    kept true e there = let f = updates.0 b in let g = ap (λ (z : Bool). cond z true (contains arc_cmp s b)) e in cc
    kept false e there = let f = updates.0 b in let g = ap (λ (z : Bool). cond z true (contains arc_cmp s b)) e in cc

    back : Contains s.keys b ⊎ (b ≡ a) → Contains n.keys b
    back (inl has) = (found_iff n b).0 (kept (is_eq (arc_cmp a b)) refl ((found_iff s b).1 has))
    back (inr same) = subst (Contains n.keys) (sym same) ((found_iff n a).0 updates.1)
