-- The states to which each block leads, and the part of the system with these and the block's labels.
use Rattle.std.proofs.Common.{◌≡◌, ◌↔◌, ◌⊎◌, inl, inr, ℕ, ◌<◌, List, [], ◌∷◌, map, Some, get_or, slice_get, Contains, AllPairs, refl, sym, ap, subst, ◌∙◌, arith}
use Rattle.std.specs.List.{AllZip}
use Rattle.std.proofs.lemmas.Bool.{cases_eq}
use Rattle.std.proofs.lemmas.List.Elements.{All-contains, Contains-get_or}
use Rattle.rg_theory.specs.declared.Arc.{Arc}
use Rattle.rg_theory.specs.System.{System, states, arc, IsArcInRange, Leads, IsInRange, IsReachable}
use Rattle.rg_theory.proofs.Arcs.{arc_in_range}
use Rattle.rg_theory.proofs.Lists.{Contains-cons_cases, there_at, index_of}
use Rattle.rg_line_formats.proofs.Parts.{some_with}
use Rattle.rg_theory.proofs.Deciding.{Decided, first_there, later_there, none_there, there_or_not, all_where}
use Rattle.rg_theory.proofs.Reaching.{reached_or_not}
use Rattle.rg_product.specs.Product.{Factor, name_at}
use Rattle.rg_product.specs.Factoring.{LeadsBy, IsReachedBy, AreReachedBy, IsPart, AreFactors}
use Rattle.rg_product.proofs.Ordered.{one_place}
use Rattle.rg_product.proofs.Kept.{AreKept, kept}

-- ---- what is reached

-- the system with the arcs of the block alone
abbrev IsOfBlock : List ℕ → Arc → Type 0
IsOfBlock block a = Contains block a.label

abbrev no_order : Arc → Arc → Type 0
no_order a b = Unit {0}

abbrev own_arcs : System → List ℕ → List Arc
own_arcs lts block = (kept no_order (IsOfBlock block) (λ a. there_or_not cases_eq block a.label) lts.arcs (λ i j d less lt. tt)).0

own_are : (lts : System) (block : List ℕ) → AreKept no_order (IsOfBlock block) lts.arcs (own_arcs lts block)
own_are lts block = (kept no_order (IsOfBlock block) (λ a. there_or_not cases_eq block a.label) lts.arcs (λ i j d less lt. tt)).1

abbrev alone : System → List ℕ → System
alone lts block = record lts { arcs = own_arcs lts block }

to_alone : (lts : System) (block : List ℕ) (s : ℕ) (ts : List ℕ) (s' : ℕ) → LeadsBy lts (Contains block) s ts s' → Leads (alone lts block) s ts s'
to_alone lts block s [] s' e = e
to_alone lts block s (t ∷ ts) s' (mid, inside, has, rest) = (mid, ((own_are lts block).members (arc s t mid)).1 (has, inside), to_alone lts block mid ts s' rest)

from_alone : (lts : System) (block : List ℕ) (s : ℕ) (ts : List ℕ) (s' : ℕ) → Leads (alone lts block) s ts s' → LeadsBy lts (Contains block) s ts s'
from_alone lts block s [] s' e = e
from_alone lts block s (t ∷ ts) s' (mid, has, rest) = let h = ((own_are lts block).members (arc s t mid)).0 has in (mid, h.1, h.0, from_alone lts block mid ts s' rest)

alone_in_range : (lts : System) (block : List ℕ) → IsInRange lts → IsInRange (alone lts block)
alone_in_range lts block fine = record {
  initial = fine.initial;
  arcs = λ k d lt.
      (let own = ((own_are lts block).members (get_or (own_arcs lts block) k d)).0 (Contains-get_or (own_arcs lts block) k d lt) in
      All-contains (IsArcInRange lts) lts.arcs (get_or (own_arcs lts block) k d) fine.arcs own.0);
}

reached_by_or_not : (lts : System) → IsInRange lts → (block : List ℕ) (s : ℕ) → Decided (IsReachedBy lts block s)
reached_by_or_not lts fine block s = by (reached_or_not (alone lts block) (alone_in_range lts block fine) s)
  where
    by : Decided (IsReachable (alone lts block) s) → Decided (IsReachedBy lts block s)
    by (inl (ts, path)) = inl (ts, from_alone lts block lts.initial ts s path)
    by (inr none) = inr (λ (ts, path). none (ts, to_alone lts block lts.initial ts s path))

reached_in_range : (lts : System) → IsInRange lts → (block : List ℕ) (s : ℕ) (ts : List ℕ) (s' : ℕ) → s < states lts → LeadsBy lts (Contains block) s ts s' → s' < states lts
reached_in_range lts fine block s [] s' lt e = subst (λ q. q < states lts) e lt
reached_in_range lts fine block s (t ∷ ts) s' lt (mid, inside, has, rest) = reached_in_range lts fine block mid ts s' (let (_, _, l) = arc_in_range lts fine s t mid has in l) rest

some_reached : (lts : System) → IsInRange lts → (block : List ℕ) → (members : List ℕ) × AreReachedBy lts block members
some_reached lts fine block =
    let (members, are) = all_where (IsReachedBy lts block) (reached_by_or_not lts fine block) 0 (states lts) in (
      members,
      record {
        members = λ s. (
          (λ has. (let (_, _, is) = (are.members s).0 has in is)),
          (λ is. (let (ts, path) = is in let lt = reached_in_range lts fine block lts.initial ts s fine.initial path in (are.members s).1 (omega arith, omega arith, is))),
        );
        in_order = are.in_order;
      },
    )

pub some_reached_each : (lts : System) → IsInRange lts → (blocks : List (List ℕ)) → (reached : List (List ℕ)) × AllZip (AreReachedBy lts) blocks reached
some_reached_each lts fine [] = ([], tt)
some_reached_each lts fine (block ∷ blocks) =
    let (members, is) = some_reached lts fine block in
    let (reached, are) = some_reached_each lts fine blocks in
    (members ∷ reached, (is, are))

-- ---- parts

module _ (members block : List ℕ) (rises : AllPairs (λ s q. s < q) members) (rise : AllPairs (λ t u. t < u) block) where
  -- the arc of the part, by an arc of these
  abbrev IsOf : List Arc → Arc → Type 0
  IsOf arcs b = (s t s' : ℕ) × (slice_get members b.from ≡ Some s) × (slice_get block b.label ≡ Some t) × (slice_get members b.to ≡ Some s') × Contains arcs (arc s t s')

  record AreOf (arcs steps : List Arc) : Type 0 where
    pub each : (b : Arc) → Contains steps b ↔ IsOf arcs b

  still : (a : Arc) (arcs : List Arc) (b : Arc) → IsOf arcs b → IsOf (a ∷ arcs) b
  still a arcs b (s, t, s', from, label, to, has) = (s, t, s', from, label, to, later_there a (arc s t s') arcs has)

  abbrev Steps : List Arc → Type 0
  Steps arcs = (steps : List Arc) × AreOf arcs steps

  -- with an arc of the part
  one_more : (a : Arc) (arcs : List Arc) (i k j : ℕ) → slice_get members i ≡ Some a.from → slice_get block k ≡ Some a.label → slice_get members j ≡ Some a.to → Steps arcs → Steps (a ∷ arcs)
  one_more a arcs i k j from label to (steps, are) = (arc i k j ∷ steps, record { each = λ b. ((λ has. forth b (Contains-cons_cases (arc i k j) b steps has)), back b) })
    where
      forth : (b : Arc) → (arc i k j ≡ b) ⊎ Contains steps b → IsOf (a ∷ arcs) b
      forth b (inl e) = subst (IsOf (a ∷ arcs)) e (a.from, a.label, a.to, from, label, to, first_there a arcs)
      forth b (inr there) = still a arcs b ((are.each b).0 there)

      back : (b : Arc) → IsOf (a ∷ arcs) b → Contains (arc i k j ∷ steps) b
      back b (s, t, s', from', label', to', has) = by (Contains-cons_cases a (arc s t s') arcs has)
        where
          by : (a ≡ arc s t s') ⊎ Contains arcs (arc s t s') → Contains (arc i k j ∷ steps) b
          by (inl e) =
              let x = one_place members rises i b.from s (from ∙ ap (λ (c : Arc). Some c.from) e) from' in
              let y = one_place block rise k b.label t (label ∙ ap (λ (c : Arc). Some c.label) e) label' in
              let z = one_place members rises j b.to s' (to ∙ ap (λ (c : Arc). Some c.to) e) to' in
              let one : arc i k j ≡ b = λ n. record { from = x n; label = y n; to = z n } in
              subst (Contains (arc i k j ∷ steps)) one (first_there (arc i k j) steps)
          by (inr there) = later_there (arc i k j) b steps ((are.each b).1 (s, t, s', from', label', to', there))

  -- with an arc that isn't of the part
  none_more : (a : Arc) (arcs : List Arc) → (Contains members a.from → Contains block a.label → Contains members a.to → ⊥) → Steps arcs → Steps (a ∷ arcs)
  none_more a arcs none (steps, are) = (steps, record { each = λ b. ((λ has. still a arcs b ((are.each b).0 has)), back b) })
    where
      back : (b : Arc) → IsOf (a ∷ arcs) b → Contains steps b
      back b (s, t, s', from, label, to, has) = by (Contains-cons_cases a (arc s t s') arcs has)
        where
          by : (a ≡ arc s t s') ⊎ Contains arcs (arc s t s') → Contains steps b
          by (inl e) = absurd (none (subst (λ (c : Arc). Contains members c.from) (sym e) (there_at members b.from s from))
              (subst (λ (c : Arc). Contains block c.label) (sym e) (there_at block b.label t label)) (subst (λ (c : Arc). Contains members c.to) (sym e) (there_at members b.to s' to)))
          by (inr there) = (are.each b).1 (s, t, s', from, label, to, there)

  some_steps : (arcs : List Arc) → Steps arcs
  some_steps [] = ([], record { each = λ b. ((λ has. absurd (none_there b has)), (λ (s, t, s', from, label, to, has). absurd (none_there (arc s t s') has))) })
  some_steps (a ∷ arcs) = by (there_or_not cases_eq members a.from) (there_or_not cases_eq block a.label) (there_or_not cases_eq members a.to) (some_steps arcs)
    where
      by : Decided (Contains members a.from) → Decided (Contains block a.label) → Decided (Contains members a.to) → Steps arcs → Steps (a ∷ arcs)
      by (inl x) (inl y) (inl z) rest =
          let (i, from) = index_of members a.from x in
          let (k, label) = index_of block a.label y in
          let (j, to) = index_of members a.to z in
          one_more a arcs i k j from label to rest
      by (inr none) _ _ rest = none_more a arcs (λ x y z. none x) rest
      by (inl x) (inr none) _ rest = none_more a arcs (λ x y z. none y) rest
      by (inl x) (inl y) (inr none) rest = none_more a arcs (λ x y z. none z) rest

some_part : (lts : System) (members block : List ℕ) → AllPairs (λ s q. s < q) members → AllPairs (λ t u. t < u) block → Contains members lts.initial → (part : System) × IsPart lts members block part
some_part lts members block rises rise has =
    let (start, at) = index_of members lts.initial has in
    let (steps, are) = some_steps members block rises rise lts.arcs in
    let (part, is) = some_with (map (name_at lts.state_names) members) (map (name_at lts.label_names) block) steps start in (
      part,
      record {
        state_names = is.state_names;
        label_names = is.label_names;
        initial = ap (slice_get members) is.initial ∙ at;
        arcs = λ q k q'. (
          (λ there. (are.each (arc q k q')).0 ((is.members (arc q k q')).0 there)),
          (λ h. (is.members (arc q k q')).1 ((are.each (arc q k q')).1 h)),
        );
        in_order = is.in_order;
      },
    )

pub some_factors : (lts : System) (blocks reached : List (List ℕ)) → ((block : List ℕ) → Contains blocks block → AllPairs (λ t u. t < u) block) → AllZip (AreReachedBy lts) blocks reached
    → (factors : List Factor) × AreFactors lts blocks reached factors
some_factors lts [] [] rise zip = ([], tt)
some_factors lts [] (members ∷ reached) rise zip = absurd zip
some_factors lts (block ∷ blocks) [] rise zip = absurd zip
some_factors lts (block ∷ blocks) (members ∷ reached) rise zip =
    let (part, is) = some_part lts members block zip.0.in_order (rise block (first_there block blocks)) ((zip.0.members lts.initial).1 ([], refl)) in
    let (factors, are) = some_factors lts blocks reached (λ b has. rise b (later_there block b blocks has)) zip.1 in
    (record { lts = part; labels = block } ∷ factors, (refl, is, are))
