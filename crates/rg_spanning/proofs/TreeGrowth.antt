-- A growing tree goes on growing when an arc joins, and is complete when no arc is left.
use Rattle.std.proofs.Common.{◌≡◌, ◌≢◌, ◌⊎◌, ◌↔◌, ℕ, zero, suc, ◌+◌, ◌<◌, ◌≤◌, true, cond, List, [], ◌∷◌, ◌++◌, length, map, Option, None, Some, get_or, set, slice_get}
use Rattle.std.proofs.Common.{slice_index_or, slice_set, Contains, AllPairs, is_some, is_none, count_by, inl, inr, sym, subst, ap, ◌∙◌, refl, arith, append_assoc, length-append, replicate}
use Rattle.std.proofs.lemmas.Bool.{cases_order, cases_eq, cases_lt}
use Rattle.std.proofs.lemmas.Option.{none-some, same_Some, slice_get-get_or, get_or_from_slice_get, slice_get_within}
use Rattle.std.proofs.lemmas.List.{get_or-set_same, get_or-set_other, get_or_append_left, length-set, length-replicate, get_or-replicate, get_or_past, get_or_default, map-append}
use Rattle.std.proofs.lemmas.List.Elements.{Contains-push, Contains-push_cases, Contains-append_left, All-contains, Contains-get_or}
use Rattle.std.proofs.lemmas.List.Sums.{sum_by-set}
use Rattle.std.proofs.lemmas.List.Folds.{sum_by-replicate}
use Rattle.rg_theory.specs.declared.Arc.{Arc}
use Rattle.rg_theory.specs.System.{System, states, IsArcInRange, IsArcBefore}
use Rattle.rg_theory.specs.Tree.{Joins, Grows, IsTree}
use Rattle.rg_theory.proofs.Lists.{Contains-cons_cases}
use Rattle.rg_lts.specs.WellFormed.{IsWellFormed}
use Rattle.rg_spanning.specs.Growing.{IsGrowing, IsSettled}

abbrev pub targets : List Arc → List ℕ
targets tree = map (λ (a : Arc). a.to) tree

-- the targets of the arcs, and no other state
target_of : (tree : List Arc) (a : Arc) → Contains tree a → Contains (targets tree) a.to
target_of [] a (k, lt, at) = absurd (omega arith)
target_of (b ∷ tree) a (zero, lt, at) = (0, omega arith, ap (λ (x : Arc). x.to) at)
target_of (b ∷ tree) a (suc k, lt, at) = let (j, l, is) = target_of tree a (k, omega arith, at) in (suc j, omega arith, is)

pub arc_to : (tree : List Arc) (s : ℕ) → Contains (targets tree) s → (a : Arc) × Contains tree a × (a.to ≡ s)
arc_to [] s (k, lt, at) = absurd (omega arith)
arc_to (b ∷ tree) s (zero, lt, at) = (b, (0, omega arith, refl), at)
arc_to (b ∷ tree) s (suc k, lt, at) = let (a, (j, l, is), e) = arc_to tree s (k, omega arith, at) in (a, (suc j, omega arith, is), e)

later : (x s : ℕ) (xs : List ℕ) → Contains xs s → Contains (x ∷ xs) s
later x s xs (k, lt, at) = (suc k, omega arith, at)

-- 1 where no arc has entered
abbrev lack : Option Arc → ℕ
lack o = cond (is_none o) 1 0

module _ (lts : System) (order : List ℕ) (tree : List Arc) (entries : List (Option Arc)) (g : IsGrowing lts order tree entries) where
  pub root_met : Contains order lts.initial
  root_met = subst (λ xs. Contains xs lts.initial) (sym g.order_is) (0, omega arith, refl)

  entry_met : (s : ℕ) (a : Arc) → get_or entries s None ≡ Some a → Contains order s
  entry_met s a is =
      let (to, has) = g.entered s a is in
      subst (λ xs. Contains xs s) (sym g.order_is) (later lts.initial s (targets tree) (subst (Contains (targets tree)) to (target_of tree a has)))

  -- each state that is met is one of the system
  pub met_in_range : (s : ℕ) → Contains order s → s < states lts
  met_in_range s has = go (Contains-cons_cases lts.initial s (targets tree) (subst (λ xs. Contains xs s) g.order_is has))
    where
      entered : (a : Arc) → Contains tree a → (a.to < length entries) ⊎ (length entries ≤ a.to) → a.to < states lts
      entered a there (inl l) = let e = g.one_each in omega arith
      entered a there (inr l) = absurd (none-some a (sym (get_or_past entries a.to None l) ∙ g.enters a there))

      go : (lts.initial ≡ s) ⊎ Contains (targets tree) s → s < states lts
      go (inl e) = subst (λ k. k < states lts) e g.well_formed.in_range.initial
      go (inr there) =
          let (a, has, to) = arc_to tree s there in
          subst (λ k. k < states lts) to (entered a has (cases_lt a.to (length entries)))

  -- a state is met where it is the initial one or an arc entered it
  pub met_entered : (s : ℕ) → (s ≡ lts.initial → ⊥) → (is_some (get_or entries s None) ≡ true) ↔ Contains order s
  met_entered s other = (
    forth (get_or entries s None) refl,
    λ has. back
        (Contains-cons_cases lts.initial s (targets tree) (subst (λ xs. Contains xs s) g.order_is has)),
  )
    where
      forth : (o : Option Arc) → get_or entries s None ≡ o → is_some (get_or entries s None) ≡ true → Contains order s
      forth None is e = let f = ap is_some is in absurd cc
      forth (Some a) is e = entry_met s a is

      back : (lts.initial ≡ s) ⊎ Contains (targets tree) s → is_some (get_or entries s None) ≡ true
      back (inl e) = absurd (other (sym e))
      back (inr has) = let (a, there, to) = arc_to tree s has in ap is_some (subst (λ k. get_or entries k None ≡ Some a) to (g.enters a there))

  arc_in_range : (a : Arc) → Contains lts.arcs a → IsArcInRange lts a
  arc_in_range a has = All-contains (IsArcInRange lts) lts.arcs a g.well_formed.in_range.arcs has

  module _ (a : Arc) (j : Joins lts order a) where
    to_in_range : a.to < length entries
    to_in_range = let e = g.one_each in let r = (arc_in_range a j.has).2 in omega arith

    -- no arc has entered its target
    not_entered : get_or entries a.to None ≡ None
    not_entered = go (get_or entries a.to None) refl
      where
        go : (o : Option Arc) → get_or entries a.to None ≡ o → get_or entries a.to None ≡ None
        go None is = is
        go (Some b) is = absurd (j.fresh (entry_met a.to b is))

    other_target : (b : Arc) → Contains tree b → b.to ≢ a.to
    other_target b has e = let is = g.enters b has in let no = subst (λ k. get_or entries k None ≡ None) (sym e) not_entered in absurd cc

    not_root : lts.initial ≢ a.to
    not_root e = j.fresh (subst (Contains order) e root_met)

    entered : (s : ℕ) (b : Arc) → get_or (set entries a.to (Some a)) s None ≡ Some b → (b.to ≡ s) × Contains (tree ++ a ∷ []) b
    entered s b is = go (cases_eq s a.to)
      where
        go : (s ≡ a.to) ⊎ (s ≡ a.to → ⊥) → (b.to ≡ s) × Contains (tree ++ a ∷ []) b
        go (inl e) =
            let here = get_or-set_same entries a.to (Some a) None to_in_range in
            let there = subst (λ k. get_or (set entries a.to (Some a)) k None ≡ Some b) e is in
            let same : a ≡ b = same_Some a b (sym here ∙ there) in
            (ap (λ (x : Arc). x.to) (sym same) ∙ sym e, subst (Contains (tree ++ a ∷ [])) same (Contains-push tree a))
        go (inr ne) =
            let old = g.entered s b (sym (get_or-set_other entries a.to s (Some a) None ne) ∙ is) in
            (old.0, Contains-append_left tree (a ∷ []) b old.1)

    enters : (b : Arc) → Contains (tree ++ a ∷ []) b → get_or (set entries a.to (Some a)) b.to None ≡ Some b
    enters b has = go (Contains-push_cases tree a b has)
      where
        go : Contains tree b ⊎ (a ≡ b) → get_or (set entries a.to (Some a)) b.to None ≡ Some b
        go (inl old) = get_or-set_other entries a.to b.to (Some a) None (other_target b old) ∙ g.enters b old
        go (inr e) = subst (λ (x : Arc). get_or (set entries a.to (Some a)) x.to None ≡ Some x) e
            (get_or-set_same entries a.to (Some a) None to_in_range)

    target_lacks : lack (get_or entries a.to None) ≡ 1
    target_lacks = ap lack not_entered

    count : count_by is_none (set entries a.to (Some a)) + length (tree ++ a ∷ []) ≡ states lts
    count =
        let sums : count_by is_none (set entries a.to (Some a)) + lack (get_or entries a.to None) ≡ count_by is_none entries + 0 =
        sum_by-set lack entries a.to (Some a) None to_in_range in
        let len = length-append tree (a ∷ []) in
        let before = g.count in
        omega (arith, target_lacks)

    completes : (rest : List Arc) → Grows lts (order ++ a.to ∷ []) rest → IsTree lts ((tree ++ a ∷ []) ++ rest)
    completes rest grows = subst (IsTree lts) (sym (append_assoc tree (a ∷ []) rest)) (g.completes (a ∷ rest) (j, grows))

    order_is : order ++ a.to ∷ [] ≡ lts.initial ∷ targets (tree ++ a ∷ [])
    order_is = ap (λ xs. xs ++ a.to ∷ []) g.order_is ∙ ap (λ xs. lts.initial ∷ xs) (sym (map-append (λ (x : Arc). x.to) tree (a ∷ [])))

    -- the tree with one arc more
    pub joined : IsGrowing lts (order ++ a.to ∷ []) (tree ++ a ∷ []) (slice_set entries a.to (Some a))
    joined = record {
      well_formed = g.well_formed;
      order_is = order_is;
      one_each = length-set entries a.to (Some a) ∙ g.one_each;
      entered = entered;
      enters = enters;
      root = get_or-set_other entries a.to lts.initial (Some a) None not_root ∙ g.root;
      count = count;
      completes = completes;
    }

-- the tree of the initial state
pub root_tree : (lts : System) → IsWellFormed lts → IsGrowing lts (lts.initial ∷ []) [] (replicate (states lts) None)
root_tree lts fine = record {
  well_formed = fine;
  order_is = refl;
  one_each = length-replicate (states lts) None;
  entered = λ s a is. absurd (none s a is);
  enters = λ a (k, lt, at). absurd (omega arith);
  root = get_or-replicate (states lts) lts.initial None None fine.in_range.initial;
  count = (let e = sum_by-replicate lack (states lts) None in omega arith);
  completes = λ rest grows. grows;
}
  where
    none : (s : ℕ) (a : Arc) → get_or (replicate (states lts) None) s None ≡ Some a → ⊥
    none s a is = go (cases_lt s (states lts))
      where
        go : (s < states lts) ⊎ (states lts ≤ s) → ⊥
        go (inl l) = none-some a (sym (get_or-replicate (states lts) s None None l) ∙ is)
        go (inr l) = none-some a (sym (get_or_past (replicate (states lts) None) s None
            (let m = length-replicate {A = Option Arc} (states lts) None in omega arith)) ∙ is)

get_push : (order : List ℕ) (x i y : ℕ) → i < length order → slice_get (order ++ x ∷ []) i ≡ Some y → slice_get order i ≡ Some y
get_push order x i y lt is =
    let here = get_or_from_slice_get (order ++ x ∷ []) i y y is in
    slice_get-get_or order i y lt ∙ ap Some (sym (get_or_append_left order (x ∷ []) y i lt) ∙ here)

-- what is settled stays settled
pub settled_push : (lts : System) (order : List ℕ) (index x : ℕ) → index ≤ length order → IsSettled lts order index
    → IsSettled lts (order ++ x ∷ []) index
settled_push lts order index x le settled i b lt is has = Contains-append_left order (x ∷ []) b.to
    (settled i b lt (get_push order x i b.from (omega arith) is) has)

-- the arcs that leave s, in order
pub record IsLeaving (lts : System) (s : ℕ) (leaving : List Arc) : Type 0 where
  pub members : (b : Arc) → Contains leaving b ↔ (Contains lts.arcs b × (b.from ≡ s))
  pub order : AllPairs IsArcBefore leaving

-- the first of the leaving arcs to a state that isn't met joins
pub joins_here : (lts : System) (order : List ℕ) (index s : ℕ) (leaving : List Arc) (i : ℕ) (a : Arc) → IsLeaving lts s leaving
    → IsSettled lts order index → slice_get order index ≡ Some s
    → i < length leaving → get_or leaving i a ≡ a → ((k : ℕ) (d : Arc) → k < i → Contains order (slice_index_or leaving k d).to)
    → (Contains order a.to → ⊥) → Joins lts order a
joins_here lts order index s leaving i a leaves settled at lt is done fresh = record {
  place = index;
  source = at ∙ ap Some (sym from);
  has = own.0;
  fresh = fresh;
  first = first;
}
  where
    own : Contains lts.arcs a × (a.from ≡ s)
    own = (leaves.members a).0 (i, lt, is)

    from : a.from ≡ s
    from = own.1

    among : (b : Arc) → Contains leaving b → (Contains order b.to → ⊥) → (b ≡ a) ⊎ IsArcBefore a b
    among b (k, l, e) new = go (cases_order k i)
      where
        go : (k ≡ i) ⊎ ((k < i) ⊎ (i < k)) → (b ≡ a) ⊎ IsArcBefore a b
        go (inl same) = inl (sym e ∙ get_or_default leaving k b a l ∙ ap (λ n. get_or leaving n a) same ∙ is)
        go (inr (inl early)) = absurd (new (subst (λ (x : Arc). Contains order x.to) e (done k b early)))
        go (inr (inr late)) =
            let here = leaves.order i k a late l in
            inr (subst (IsArcBefore a) (get_or_default leaving k a b l ∙ e) (subst (λ x. IsArcBefore x (get_or leaving k a)) is here))

    first : (j : ℕ) (b : Arc) → slice_get order j ≡ Some b.from → Contains lts.arcs b → (Contains order b.to → ⊥)
        → (b ≡ a) ⊎ ((index < j) ⊎ ((index ≡ j) × IsArcBefore a b))
    first j b source has new = go (cases_order j index)
      where
        same_index : j ≡ index → (b ≡ a) ⊎ IsArcBefore a b → (b ≡ a) ⊎ ((index < j) ⊎ ((index ≡ j) × IsArcBefore a b))
        same_index e (inl q) = inl q
        same_index e (inr q) = inr (inr (sym e, q))

        go : (j ≡ index) ⊎ ((j < index) ⊎ (index < j)) → (b ≡ a) ⊎ ((index < j) ⊎ ((index ≡ j) × IsArcBefore a b))
        go (inl e) =
            let here : b.from ≡ s = same_Some b.from s (sym source ∙ ap (slice_get order) e ∙ at) in
            same_index e (among b ((leaves.members b).1 (has, here)) new)
        go (inr (inl l)) = absurd (new (settled j b l source has))
        go (inr (inr l)) = inr (inl l)

-- with all its arcs the state at the index is settled too
pub settled_more : (lts : System) (order : List ℕ) (index s : ℕ) (leaving : List Arc) → IsLeaving lts s leaving → IsSettled lts order index
    → slice_get order index ≡ Some s
    → ((k : ℕ) (d : Arc) → k < length leaving → Contains order (slice_index_or leaving k d).to) → IsSettled lts order (index + 1)
settled_more lts order index s leaving leaves settled at done i b lt is has = go (cases_eq i index)
  where
    go : (i ≡ index) ⊎ (i ≡ index → ⊥) → Contains order b.to
    go (inl e) =
        let here : b.from ≡ s = same_Some b.from s (sym is ∙ ap (slice_get order) e ∙ at) in
        let (k, l, there) = (leaves.members b).1 (has, here) in
        subst (λ (x : Arc). Contains order x.to) there (done k b l)
    go (inr ne) = settled i b (omega arith) is has

-- where all indices are settled, the tree is complete
pub complete : (lts : System) (order : List ℕ) (tree : List Arc) (entries : List (Option Arc)) → IsGrowing lts order tree entries
    → IsSettled lts order (length order) → IsTree lts tree
complete lts order tree entries g settled = subst (IsTree lts) (nil tree) (g.completes [] grown)
  where
    nil : (xs : List Arc) → xs ++ [] ≡ xs
    nil [] = refl
    nil (x ∷ xs) = ap (λ r. x ∷ r) (nil xs)

    grown : Grows lts order []
    grown a has (k, lt, at) = settled k a lt (slice_get-get_or order k a.from lt ∙ ap Some at) has

-- each leaving arc leads to a state of the system
pub leaving_in_range : (lts : System) (s : ℕ) (leaving : List Arc) (i : ℕ) (d : Arc) → IsWellFormed lts → IsLeaving lts s leaving
    → i < length leaving → (slice_index_or leaving i d).to < states lts
leaving_in_range lts s leaving i d fine leaves lt =
    let has = (leaves.members (get_or leaving i d)).0 (Contains-get_or leaving i d lt) in
    (All-contains (IsArcInRange lts) lts.arcs (get_or leaving i d) fine.in_range.arcs has.0).2

done_push : (order : List ℕ) (leaving : List Arc) (i x : ℕ) → ((k : ℕ) (d : Arc) → k < i → Contains order (slice_index_or leaving k d).to)
    → (k : ℕ) (d : Arc) → k < i → Contains (order ++ x ∷ []) (slice_index_or leaving k d).to
done_push order leaving i x done k d lt = Contains-append_left order (x ∷ []) _ (done k d lt)

done_more : (order : List ℕ) (leaving : List Arc) (i : ℕ) (d : Arc) → i < length leaving
    → ((k : ℕ) (d : Arc) → k < i → Contains order (slice_index_or leaving k d).to)
    → Contains order (slice_index_or leaving i d).to → (k : ℕ) (d : Arc) → k < i + 1 → Contains order (slice_index_or leaving k d).to
done_more order leaving i d lt done here k e l = go (cases_eq k i)
  where
    go : (k ≡ i) ⊎ (k ≡ i → ⊥) → Contains order (slice_index_or leaving k e).to
    go (inl same) = subst (λ n. Contains order (slice_index_or leaving n e).to) (sym same)
        (subst (λ (x : Arc). Contains order x.to) (get_or_default leaving i d e lt) here)
    go (inr ne) = done k e (omega arith)

index_push : (order : List ℕ) (x i s : ℕ) → slice_get order i ≡ Some s → slice_get (order ++ x ∷ []) i ≡ Some s
index_push order x i s is =
    let lt = slice_get_within order i s is in
    slice_get-get_or (order ++ x ∷ []) i s (let m = length-append order (x ∷ []) in omega arith) ∙ ap Some
    (get_or_append_left order (x ∷ []) s i lt ∙ get_or_from_slice_get order i s s is)

-- the arcs that leave the state at the index are joining, as far as i
pub record IsJoining (lts : System) (order : List ℕ) (tree : List Arc) (entries : List (Option Arc)) (index s : ℕ) (leaving : List Arc) (i : ℕ) :
    Type 0 where
  pub growing : IsGrowing lts order tree entries
  pub settled : IsSettled lts order index
  pub at : slice_get order index ≡ Some s
  pub done : (k : ℕ) (d : Arc) → k < i → Contains order (slice_index_or leaving k d).to

module _ (lts : System) (order : List ℕ) (tree : List Arc) (entries : List (Option Arc)) (index s : ℕ) (leaving : List Arc) (i : ℕ) (d : Arc)
    (j : IsJoining lts order tree entries index s leaving i) (lt : i < length leaving) where
  -- an arc to a state that isn't met joins
  pub next_joins : IsLeaving lts s leaving → (Contains order (slice_index_or leaving i d).to → ⊥) → Joins lts order (slice_index_or leaving i d)
  next_joins leaves fresh = joins_here lts order index s leaving i (slice_index_or leaving i d) leaves j.settled j.at lt
      (get_or_default leaving i _ d lt) j.done fresh

  -- one arc further, where it leads to a state that is met
  pub over_met : Contains order (slice_index_or leaving i d).to → IsJoining lts order tree entries index s leaving (i + 1)
  over_met met = record { growing = j.growing; settled = j.settled; at = j.at; done = done_more order leaving i d lt j.done met }

  -- one arc further, where it joined
  pub over_joined : (order' : List ℕ) (tree' : List Arc) (entries' : List (Option Arc)) → IsGrowing lts order' tree' entries'
      → order' ≡ order ++ (slice_index_or leaving i d).to ∷ []
      → IsJoining lts order' tree' entries' index s leaving (i + 1)
  over_joined order' tree' entries' growing is =
      let x = (slice_index_or leaving i d).to in
      record {
        growing = growing;
        settled = subst (λ xs. IsSettled lts xs index) (sym is)
            (settled_push lts order index x (let l = slice_get_within order index s j.at in omega arith) j.settled);
        at = subst (λ xs. slice_get xs index ≡ Some s) (sym is) (index_push order x index s j.at);
        done = subst (λ xs. (k : ℕ) (d : Arc) → k < i + 1 → Contains xs (slice_index_or leaving k d).to) (sym is)
            (done_more (order ++ x ∷ []) leaving i d lt (done_push order leaving i x j.done) (Contains-push order x));
      }
