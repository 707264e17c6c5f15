-- The tree is one, and each state has one way in it.
use Rattle.std.proofs.Common.{◌≡◌, ◌≢◌, ◌⊎◌, ⊎_elim, ℕ, zero, suc, ◌<◌, ◌==◌, eq-eqb, ne_eqb, if◌then◌else◌, List, [], ◌∷◌, ◌++◌, map, Some, slice_get, Contains, inl, inr, ap, ap₂, refl, subst, sym, ◌∙◌, arith, append_assoc}
use Rattle.std.proofs.lemmas.Option.{none-some, same_Some}
use Rattle.std.proofs.lemmas.List.Elements.{Contains-push, Contains-push_cases, Contains-append_left}
use Rattle.rg_theory.specs.declared.Arc.{Arc}
use Rattle.rg_theory.specs.System.{System, arc, HasArc, Leads, IsReachable, IsArcBefore}
use Rattle.rg_theory.proofs.Lists.{Contains-cons_cases}
use Rattle.rg_theory.specs.Tree.{Joins, Grows, IsTree, tree_order, ways_from, way_to}

same_join : (lts : System) (met : List ℕ) (a b : Arc) → Joins lts met a → Joins lts met b → a ≡ b
same_join lts met a b j k = go (j.first k.place b k.source k.has k.fresh) (k.first j.place a j.source j.has j.fresh)
  where
    both : IsArcBefore a b → IsArcBefore b a → ⊥
    both (inl p) (inl q) = omega arith
    both (inl p) (inr q) = let e = q.0 in omega arith
    both (inr p) (inl q) = let e = p.0 in omega arith
    both (inr (e, inl p)) (inr (f, inl q)) = omega arith
    both (inr (e, inl p)) (inr (f, inr q)) = let g = q.0 in omega arith
    both (inr (e, inr p)) (inr (f, inl q)) = let g = p.0 in omega arith
    both (inr (e, inr p)) (inr (f, inr q)) = let g = p.1 in let h = q.1 in omega arith

    go : (b ≡ a) ⊎ ((j.place < k.place) ⊎ ((j.place ≡ k.place) × IsArcBefore a b)) → (a ≡ b) ⊎ ((k.place < j.place) ⊎ ((k.place ≡ j.place) × IsArcBefore b a)) → a ≡ b
    go (inl e) _ = sym e
    go (inr _) (inl e) = e
    go (inr (inl p)) (inr (inl q)) = absurd (omega arith)
    go (inr (inl p)) (inr (inr q)) = let e = q.0 in absurd (omega arith)
    go (inr (inr p)) (inr (inl q)) = let e = p.0 in absurd (omega arith)
    go (inr (inr p)) (inr (inr q)) = absurd (both p.1 q.1)

at_place : (xs : List ℕ) (i x : ℕ) → slice_get xs i ≡ Some x → Contains xs x
at_place [] i x e = absurd (none-some x e)
at_place (y ∷ xs) zero x e = (0, omega arith, same_Some y x e)
at_place (y ∷ xs) (suc i) x e = let (k, lt, is) = at_place xs i x e in (suc k, omega arith, is)

pub source_met : (lts : System) (met : List ℕ) (a : Arc) → Joins lts met a → Contains met a.from
source_met lts met a j = at_place met j.place a.from j.source

pub same_tree : (lts : System) (met : List ℕ) (tree tree' : List Arc) → Grows lts met tree → Grows lts met tree' → tree ≡ tree'
same_tree lts met [] [] g g' = refl
same_tree lts met [] (b ∷ tree') g (j, rest) = absurd (j.fresh (g b j.has (source_met lts met b j)))
same_tree lts met (a ∷ tree) [] (j, rest) g' = absurd (j.fresh (g' a j.has (source_met lts met a j)))
same_tree lts met (a ∷ tree) (b ∷ tree') (j, rest) (k, rest') =
    let e = same_join lts met a b j k in
    let rest'' : Grows lts (met ++ a.to ∷ []) tree' = subst (λ (x : Arc). Grows lts (met ++ x.to ∷ []) tree') (sym e) rest' in
    ap₂ ◌∷◌ e (same_tree lts (met ++ a.to ∷ []) tree tree' rest rest'')

-- the ways after one arc has joined
abbrev pub longer : (ℕ → List ℕ) → Arc → ℕ → List ℕ
longer way a s = if s == a.to then (way a.from ++ a.label ∷ []) else way s

longer_here : (way : ℕ → List ℕ) (a : Arc) (s : ℕ) → s ≡ a.to → longer way a s ≡ way a.from ++ a.label ∷ []
longer_here way a s e = ap (λ b. if b then (way a.from ++ a.label ∷ []) else way s) (eq-eqb s a.to e)

longer_other : (way : ℕ → List ℕ) (a : Arc) (s : ℕ) → s ≢ a.to → longer way a s ≡ way s
longer_other way a s ne = ap (λ b. if b then (way a.from ++ a.label ∷ []) else way s) (ne_eqb s a.to ne)

not_same : (met : List ℕ) (s s' : ℕ) → Contains met s → ¬ Contains met s' → s ≢ s'
not_same met s s' has lacks e = lacks (subst (Contains met) e has)

-- a state that is met keeps its way
pub way_kept : (lts : System) (way : ℕ → List ℕ) (met : List ℕ) (tree : List Arc) (s : ℕ) → Grows lts met tree → Contains met s → ways_from way tree s ≡ way s
way_kept lts way met [] s g has = refl
way_kept lts way met (a ∷ tree) s (j, rest) has =
    way_kept lts (longer way a) (met ++ a.to ∷ []) tree s rest (Contains-append_left met (a.to ∷ []) s has) ∙ longer_other way a s (not_same met s a.to has j.fresh)

pub way_joins : (lts : System) (way : ℕ → List ℕ) (met : List ℕ) (tree : List Arc) (a : Arc) → Grows lts met tree → Contains tree a
    → ways_from way tree a.to ≡ ways_from way tree a.from ++ a.label ∷ []
way_joins lts way met [] a g (k, lt, e) = absurd (omega arith)
way_joins lts way met (b ∷ tree) a (j, rest) has = go (Contains-cons_cases b a tree has) (λ there. way_joins lts (longer way b) (met ++ b.to ∷ []) tree a rest there)
  where
    here : ways_from (longer way b) tree b.to ≡ ways_from (longer way b) tree b.from ++ b.label ∷ []
    here =
        let met_from = source_met lts met b j in
        let at_to = way_kept lts (longer way b) (met ++ b.to ∷ []) tree b.to rest (Contains-push met b.to) ∙ longer_here way b b.to refl in
        let at_from = way_kept lts (longer way b) (met ++ b.to ∷ []) tree b.from rest (Contains-append_left met (b.to ∷ []) b.from met_from)
        ∙ longer_other way b b.from (not_same met b.from b.to met_from j.fresh) in
        at_to ∙ ap (λ w. w ++ b.label ∷ []) (sym at_from)

    go : (b ≡ a) ⊎ Contains tree a → (Contains tree a → ways_from (longer way b) tree a.to ≡ ways_from (longer way b) tree a.from ++ a.label ∷ [])
        → ways_from (longer way b) tree a.to ≡ ways_from (longer way b) tree a.from ++ a.label ∷ []
    go (inl e) next = subst (λ (x : Arc). ways_from (longer way b) tree x.to ≡ ways_from (longer way b) tree x.from ++ x.label ∷ []) e here
    go (inr there) next = next there

pub tree_arcs : (lts : System) (met : List ℕ) (tree : List Arc) (a : Arc) → Grows lts met tree → Contains tree a → Contains lts.arcs a
tree_arcs lts met [] a g (k, lt, e) = absurd (omega arith)
tree_arcs lts met (b ∷ tree) a (j, rest) has = go (Contains-cons_cases b a tree has) (λ there. tree_arcs lts (met ++ b.to ∷ []) tree a rest there)
  where
    go : (b ≡ a) ⊎ Contains tree a → (Contains tree a → Contains lts.arcs a) → Contains lts.arcs a
    go (inl e) next = subst (Contains lts.arcs) e j.has
    go (inr there) next = next there

-- the states met in the end
abbrev pub met_after : List ℕ → List Arc → List ℕ
met_after met [] = met
met_after met (a ∷ tree) = met_after (met ++ a.to ∷ []) tree

pub met_after_is : (met : List ℕ) (tree : List Arc) → met_after met tree ≡ met ++ map (λ a. a.to) tree
met_after_is met [] = sym (nil met)
  where
    nil : (xs : List ℕ) → xs ++ [] ≡ xs
    nil [] = refl
    nil (x ∷ xs) = ap (λ r. x ∷ r) (nil xs)
met_after_is met (a ∷ tree) = met_after_is (met ++ a.to ∷ []) tree ∙ append_assoc met (a.to ∷ []) (map (λ b. b.to) tree)

-- no arc leads out of the states met in the end
pub closed : (lts : System) (met : List ℕ) (tree : List Arc) (a : Arc) → Grows lts met tree → Contains lts.arcs a → Contains (met_after met tree) a.from → Contains (met_after met tree) a.to
closed lts met [] a g has from = g a has from
closed lts met (b ∷ tree) a (j, rest) has from = closed lts (met ++ b.to ∷ []) tree a rest has from

pub still_met : (met : List ℕ) (tree : List Arc) (s : ℕ) → Contains met s → Contains (met_after met tree) s
still_met met [] s has = has
still_met met (a ∷ tree) s has = still_met (met ++ a.to ∷ []) tree s (Contains-append_left met (a.to ∷ []) s has)

pub led_is_met : (lts : System) (met : List ℕ) (tree : List Arc) (s : ℕ) (ts : List ℕ) (s' : ℕ) → Grows lts met tree
    → Contains (met_after met tree) s → Leads lts s ts s' → Contains (met_after met tree) s'
led_is_met lts met tree s [] s' g has e = subst (Contains (met_after met tree)) e has
led_is_met lts met tree s (t ∷ ts) s' g has (mid, step, rest) = led_is_met lts met tree mid ts s' g (closed lts met tree (arc s t mid) g step has) rest

pub reachable_is_met : (lts : System) (tree : List Arc) (s : ℕ) → IsTree lts tree → IsReachable lts s → Contains (tree_order lts tree) s
reachable_is_met lts tree s g (ts, leads) = subst (λ xs. Contains xs s) (met_after_is (lts.initial ∷ []) tree)
    (led_is_met lts (lts.initial ∷ []) tree lts.initial ts s g (still_met (lts.initial ∷ []) tree lts.initial (0, omega arith, refl)) leads)

-- one step more
pub leads_more : (lts : System) (s : ℕ) (ts : List ℕ) (mid t s' : ℕ) → Leads lts s ts mid → HasArc lts mid t s' → Leads lts s (ts ++ t ∷ []) s'
leads_more lts s [] mid t s' e has = (s', subst (λ x. HasArc lts x t s') (sym e) has, refl)
leads_more lts s (u ∷ ts) mid t s' (next, step, rest) has = (next, step, leads_more lts next ts mid t s' rest has)

-- the ways of the states met lead to them
pub ways_lead : (lts : System) (way : ℕ → List ℕ) (met : List ℕ) (tree : List Arc) → Grows lts met tree
    → ((s : ℕ) → Contains met s → Leads lts lts.initial (way s) s) → (s : ℕ) → Contains (met_after met tree) s → Leads lts lts.initial (ways_from way tree s) s
ways_lead lts way met [] g lead s has = lead s has
ways_lead lts way met (a ∷ tree) (j, rest) lead s' has' = ways_lead lts (longer way a) (met ++ a.to ∷ []) tree rest next s' has'
  where
    next : (s : ℕ) → Contains (met ++ a.to ∷ []) s → Leads lts lts.initial (longer way a s) s
    next s has = ⊎_elim
        (λ old. subst (λ w. Leads lts lts.initial w s) (sym (longer_other way a s (not_same met s a.to old j.fresh))) (lead s old))
        (λ e.
        (let more = leads_more lts lts.initial (way a.from) a.from a.label a.to (lead a.from (source_met lts met a j)) j.has in
        let more' = subst (λ x. Leads lts lts.initial (way a.from ++ a.label ∷ []) x) e more in
        subst (λ w. Leads lts lts.initial w s) (sym (longer_here way a s (sym e))) more'))
        (Contains-push_cases met a.to s has)

pub way_leads : (lts : System) (tree : List Arc) (s : ℕ) → IsTree lts tree → IsReachable lts s → Leads lts lts.initial (way_to tree s) s
way_leads lts tree s g reached =
    ways_lead lts (λ s. []) (lts.initial ∷ []) tree g (λ s' has. ⊎_elim (λ e. e) (λ has'. absurd (nothing s' has')) (Contains-cons_cases lts.initial s' [] has)) s
    (subst (λ xs. Contains xs s) (sym (met_after_is (lts.initial ∷ []) tree)) (reachable_is_met lts tree s g reached))
  where
    nothing : (s' : ℕ) → Contains [] s' → ⊥
    nothing s' (k, lt, e) = omega arith

pub way_of_initial : (lts : System) (tree : List Arc) → IsTree lts tree → way_to tree lts.initial ≡ []
way_of_initial lts tree g = way_kept lts (λ s. []) (lts.initial ∷ []) tree lts.initial g (0, omega arith, refl)

-- the labels along arcs of the tree lengthen the way
pub way_along : (lts : System) (tree : List Arc) (s : ℕ) (ts : List ℕ) (s' : ℕ) → IsTree lts tree → Leads (record lts { arcs = tree }) s ts s' → way_to tree s' ≡ way_to tree s ++ ts
way_along lts tree s [] s' g e = ap (way_to tree) (sym e) ∙ sym (nil (way_to tree s))
  where
    nil : (xs : List ℕ) → xs ++ [] ≡ xs
    nil [] = refl
    nil (x ∷ xs) = ap (λ r. x ∷ r) (nil xs)
way_along lts tree s (t ∷ ts) s' g (mid, step, rest) =
    way_along lts tree mid ts s' g rest
    ∙ ap (λ w. w ++ ts) (way_joins lts (λ s. []) (lts.initial ∷ []) tree (arc s t mid) g step)
    ∙ append_assoc (way_to tree s) (t ∷ []) ts

pub one_way : (lts : System) (tree : List Arc) (ts : List ℕ) (s : ℕ) → IsTree lts tree → Leads (record lts { arcs = tree }) lts.initial ts s → ts ≡ way_to tree s
one_way lts tree ts s g leads = sym (way_along lts tree lts.initial ts s g leads ∙ ap (λ w. w ++ ts) (way_of_initial lts tree g))

-- each state that is met can be reached
pub met_is_reachable : (lts : System) (tree : List Arc) (s : ℕ) → IsTree lts tree → Contains (tree_order lts tree) s → IsReachable lts s
met_is_reachable lts tree s g has = (
  way_to tree s,
  ways_lead lts (λ s. []) (lts.initial ∷ []) tree g (λ s' has. ⊎_elim (λ e. e) (λ has'. absurd (nothing s' has')) (Contains-cons_cases lts.initial s' [] has)) s
      (subst (λ xs. Contains xs s) (sym (met_after_is (lts.initial ∷ []) tree)) has),
)
  where
    nothing : (s' : ℕ) → Contains [] s' → ⊥
    nothing s' (k, lt, e) = omega arith
